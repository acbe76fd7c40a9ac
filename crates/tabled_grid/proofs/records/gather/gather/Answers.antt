use Rattle.tabled_grid.proofs.Common.{◌+◌, ◌∙◌, Within, arith, place, refl, sym}
use Rattle.tabled_grid.proofs.Through.{through_cell, through_gap, through_none}
use Rattle.tabled_grid.proofs.records.gather.gather.Goals as goal

pub loop-row-init : goal.loop-row-init
loop-row-init g c = record {
  well = c.requires.well;
  other = c.in_ok-gathered.ensures.well;
  moves = through_none g.R.Cell.Blank.is_blank (g.P.Rearrange.places c.args.places.now) (g.R.GridStore.grid c.args.records.now) c.args.columns (g.R.GridStore.grid c.in_ok-gathered.gathered)
      (g.R.GridStore.even _ c.requires.well) (g.R.GridStore.even _ c.in_ok-gathered.ensures.well) (c.in_ok-gathered.ensures.rows ∙ c.requires.rows) c.in_ok-gathered.ensures.columns c.requires.columns c.in_ok-gathered.ensures.blanks;
}

pub loop-col-preserved : goal.loop-col-preserved
loop-col-preserved g c =
    let grid = g.R.GridStore.grid in
    let places = g.P.Rearrange.places c.args.places.now in
    let i = c.loop-col.invariant in
    let here : Within places (place c.loop-row.row c.loop-col.col) = record { row = omega (arith, c.requires.rows, c.loop-row-test.true); col = omega (arith, c.requires.columns, c.loop-col-test.true) } in
    elim c.match-old_place.branch [
      | goal.in-Some w ↦ rw (w.records-is, w.gathered-is) (record {
        well = w.exchange.ensures.well;
        other = w.exchange.ensures.other_well;
        moves = through_cell g.R.Cell.Blank.is_blank places (grid c.args.records.now) c.loop-row.row c.loop-col.col (c.loop-col.col + 1) refl (grid c.loop-col.records) (grid c.loop-col.gathered) i.moves w.in-Some.from c.requires.once here (sym c.old_place.ensures ∙ w.in-Some.is) _ _ w.exchange.ensures.exchanged;
      })
      | goal.in_default w ↦ rw (w.records-is, w.gathered-is) (record {
        well = i.well;
        other = i.other;
        moves = through_gap g.R.Cell.Blank.is_blank places (grid c.args.records.now) c.loop-row.row c.loop-col.col (c.loop-col.col + 1) refl (grid c.loop-col.records) (grid c.loop-col.gathered) i.moves (sym c.old_place.ensures ∙ w.in_default.is);
      })
    ]
