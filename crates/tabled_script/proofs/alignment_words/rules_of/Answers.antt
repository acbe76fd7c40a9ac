use Rattle.std.proofs.lemmas.Iterator.Consumers.{YieldsList-end, YieldsList-so_far, YieldsList-turn}
use Rattle.std.proofs.lemmas.Iterator.Splits.{YieldsList-from_str_split}
use Rattle.std.proofs.lemmas.List.{map-append}
use Rattle.std.specs.List.{slice_split}
use Rattle.std.specs.Option.{option_map}
use Rattle.tabled_draw.proofs.Common.{split_has_more, split_pattern, split_text, lit<}
use Rattle.tabled_script.proofs.Common.{[], ◌∙◌, ◌∷◌, Some, ap, length, map, sym}
use Rattle.tabled_script.proofs.EachOf.{each_of-more, each_of-none_at}
use Rattle.tabled_script.specs.Aligners.{each_of, is_comma, rule_in, rule_of}
use Rattle.tabled_script.proofs.alignment_words.rules_of.Goals as goal

pub returns-in_default : goal.returns-in_default
returns-in_default c =
    let parts = slice_split is_comma c.args.value.now in
    let yields = YieldsList-from_str_split 44 c.args.value.now (lit< tt) (ap split_text c.into_iter-part-iterator.ensures.into_iter_gives ∙ c.split-part-items.ensures.text) (ap split_has_more c.into_iter-part-iterator.ensures.into_iter_gives ∙ c.split-part-items.ensures.has_more) (ap split_pattern c.into_iter-part-iterator.ensures.into_iter_gives ∙ c.split-part-items.ensures.pattern) in
    let before = YieldsList-so_far yields c.loop-part.yielded _ c.loop-part.yielded_by in
    let turn = YieldsList-turn yields c.loop-part.yielded _ c.loop-part.yielded_by _ _ c.in-Some.part c.in-Some.is c.next.ensures.steps in
    sym (each_of-none_at rule_of parts (length c.loop-part.yielded) c.in-Some.part.now (map rule_in c.loop-part.rules.items) turn.0
    (ap (each_of rule_of) (sym before) ∙ c.loop-part.invariant.read)
    (ap rule_of (sym turn.1) ∙ sym c.in_ok-rule.ensures ∙ ap (option_map rule_in) c.in_default.is))

pub loop-part-preserved : goal.loop-part-preserved
loop-part-preserved c = record {
  can = tt;
  ends = tt;
  read = ap (each_of rule_of) (map-append (λ x. x.now) c.loop-part.yielded (c.in-Some.part ∷ []))
      ∙ each_of-more rule_of (map (λ x. x.now) c.loop-part.yielded) c.in-Some.part.now (map rule_in c.loop-part.rules.items) (rule_in c.in-Some-2.rule) c.loop-part.invariant.read (sym c.in_ok-rule.ensures ∙ ap (option_map rule_in) c.in-Some-2.is)
      ∙ ap Some (sym (map-append rule_in c.loop-part.rules.items (c.in-Some-2.rule ∷ [])) ∙ ap (map rule_in) (sym c.in_ok-push.ensures.items));
}

pub returns : goal.returns
returns c =
    let yields = YieldsList-from_str_split 44 c.args.value.now (lit< tt) (ap split_text c.into_iter-part-iterator.ensures.into_iter_gives ∙ c.split-part-items.ensures.text) (ap split_has_more c.into_iter-part-iterator.ensures.into_iter_gives ∙ c.split-part-items.ensures.has_more) (ap split_pattern c.into_iter-part-iterator.ensures.into_iter_gives ∙ c.split-part-items.ensures.pattern) in
    let end = YieldsList-end yields c.loop-part.yielded _ c.loop-part.yielded_by _ _ c.in-None.is c.next.ensures.steps in
    sym c.loop-part.invariant.read ∙ ap (each_of rule_of) end.0
