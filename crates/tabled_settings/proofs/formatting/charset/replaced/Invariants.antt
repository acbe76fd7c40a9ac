use Rattle.tabled_settings.proofs.Common.{◌++◌, ◌≡◌, chars_rest, replaced, string_bytes}
use Rattle.std.proofs.Common.{flat_map}
use Rattle.tabled_settings.proofs.formatting.charset.replaced.Given as goal

abbrev pub invariant-loop-c : goal.invariant-loop-c
invariant-loop-c l = record {
  can : goal.iterator-loop-c.can_next l.c-iterator;
  ends : goal.iterator-loop-c.is_finite l.c-iterator;
  same : string_bytes l.out ++ flat_map (replaced l.fn.cleans l.fn.tab_size) (chars_rest l.c-iterator) ≡ flat_map (replaced l.fn.cleans l.fn.tab_size) l.fn.text;
}
