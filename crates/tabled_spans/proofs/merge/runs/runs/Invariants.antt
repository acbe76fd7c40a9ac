use Rattle.tabled_spans.proofs.Common.{◌<◌, ◌≤◌, AreTails, Entity, IsBand, RunsFrom, StandBelow, map_grid, reverse, ℕ}
use Rattle.tabled_spans.proofs.merge.runs.runs.Given as goal

abbrev pub invariant-loop-i : goal.invariant-loop-i
invariant-loop-i g l =
    let texts = map_grid g.R.Cell.CellText.text_of (g.R.GridStore.grid l.fn.records) in
    ((e : Entity) → IsBand l.fn.axis e texts l.fn.block → RunsFrom l.fn.axis e texts l.fn.cfg l.fn.block l.i l.fn.block.first.col (reverse l.sizes.items) × AreTails l.fn.axis e texts l.fn.cfg l.fn.block l.i l.fn.block.first.col l.lengths.items) × ((row : ℕ) → row < l.i → StandBelow l.fn.cfg row l.ahead)

abbrev pub invariant-loop-j : goal.invariant-loop-j
invariant-loop-j g l =
    let texts = map_grid g.R.Cell.CellText.text_of (g.R.GridStore.grid l.fn.records) in
    ((e : Entity) → IsBand l.fn.axis e texts l.fn.block → RunsFrom l.fn.axis e texts l.fn.cfg l.fn.block l.i l.j (reverse l.sizes.items) × AreTails l.fn.axis e texts l.fn.cfg l.fn.block l.i l.j l.lengths.items) × (l.fn.block.first.col ≤ l.j)
