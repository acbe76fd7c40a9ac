use Rattle.tabled_settings.proofs.Common.{◌++◌, ◌∙◌, ◌∷◌, [], List, ap, arith, map-append, map_grid, place, sym, text_at, ℕ}
use Rattle.std.proofs.Common.{ap₂}
use Rattle.std.proofs.lemmas.List.FromFn.{map-range_with_len_more}
use Rattle.tabled_settings.proofs.sort.rows.column_texts.Goals as goal

pub loop-row-preserved : goal.loop-row-preserved
loop-row-preserved g c =
    let text = λ (i : ℕ). text_at (map_grid g.R.Cell.CellText.text_of (g.R.GridStore.grid c.args.records.now)) (place i c.args.column) in
    rw c.in_ok-push.ensures.items (map-append _ _ _ ∙ ap₂ ◌++◌ c.loop-row.invariant (ap (λ (t : List ℕ). t ∷ []) c.text_in.ensures) ∙ sym (map-range_with_len_more text 0 c.loop-row.row c.loop-row.row (omega arith)))
