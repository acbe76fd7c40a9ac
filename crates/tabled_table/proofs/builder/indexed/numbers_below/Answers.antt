use Rattle.tabled_table.proofs.Common.{[], ◌++◌, ◌∙◌, ◌∷◌, ap, arith, decimal, map-range_with_len_more, map_push, string_bytes, sym}
use Rattle.tabled_table.proofs.builder.indexed.numbers_below.Goals as goal

pub loop-i-preserved : goal.loop-i-preserved
loop-i-preserved c =
    let i = c.loop-i.i-counter in
    rw (c.in_ok-push.ensures.items, map_push string_bytes c.loop-i.texts.items c.new.result, c.new.ensures, c.in_ok-to_string.ensures.ok)
    (ap (λ texts. texts ++ decimal i ∷ []) c.loop-i.invariant ∙ sym (map-range_with_len_more decimal 0 i i (omega arith)))
