use Rattle.tabled_script.proofs.Common.{◌≡◌, Some, map}
use Rattle.tabled_script.specs.Aligners.{each_of, rule_in, rule_of}
use Rattle.tabled_script.proofs.alignment_words.rules_of.Given as goal

abbrev pub invariant-loop-part : goal.invariant-loop-part
invariant-loop-part l = record {
  can : goal.iterator-loop-part.can_next l.part-iterator;
  ends : goal.iterator-loop-part.is_finite l.part-iterator;
  read : each_of rule_of (map (λ x. x.now) l.yielded) ≡ Some (map rule_in l.rules.items);
}
