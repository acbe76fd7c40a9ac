use Rattle.tabled_table.proofs.Common.{◌∙◌, ap, arith, map_items, sym, width-texts, width_of}
use Rattle.tabled_table.proofs.Indexed.{unnamed}
use Rattle.tabled_table.proofs.builder.indexed.rows_with_name.Goals as goal

pub returns-then-columns-eq0 : goal.returns-then-columns-eq0
returns-then-columns-eq0 c =
    let none = width-texts c.args.rows.items ∙ ap (λ rows. width_of (map_items rows)) (sym c.deref.ensures.value) ∙ sym c.width-columns.ensures in
    unnamed c.args.in_header _ _ (omega (arith, none, c.if-columns-eq0.true))
