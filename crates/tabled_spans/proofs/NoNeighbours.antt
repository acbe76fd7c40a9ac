-- Entities that name no two neighbours along an axis.
use Rattle.tabled_spans.proofs.Common.{◌+◌, ◌≡◌, Axis, Columns, Entity, Grid, IsRun, List, MergesRuns, NamesNoNeighbours, Position, Rows, SpanMap, and_parts, arith, eqb-true, further, inl, inr, same_map, ℕ}
use Rattle.tabled_grid.specs.declared.config.entity.Entity.TheVariants.{Cell, Column, Row}

pub none_in_row : (i : ℕ) (g : Grid (List ℕ)) → NamesNoNeighbours Rows (Row i) g
none_in_row i g p here next = omega (arith, eqb-true p.row i here.named, eqb-true (p.row + 1) i next.named)

pub none_in_column : (j : ℕ) (g : Grid (List ℕ)) → NamesNoNeighbours Columns (Column j) g
none_in_column j g p here next = omega (arith, eqb-true p.col j here.named, eqb-true (p.col + 1) j next.named)

pub none_in_cell : (axis : Axis) (i j : ℕ) (g : Grid (List ℕ)) → NamesNoNeighbours axis (Cell i j) g
none_in_cell Rows i j g p here next = omega (arith, eqb-true p.row i (and_parts _ _ here.named).0, eqb-true (p.row + 1) i (and_parts _ _ next.named).0)
none_in_cell Columns i j g p here next = omega (arith, eqb-true p.col j (and_parts _ _ here.named).1, eqb-true (p.col + 1) j (and_parts _ _ next.named).1)

module _ (axis : Axis) (e : Entity) (g : Grid (List ℕ)) (m n : SpanMap) (none : NamesNoNeighbours axis e g) where
  no_run : (p : Position) (many : ℕ) → IsRun axis e g m p many → ⊥
  no_run p many run = let j = run.joins 0 (omega (arith, run.some)) in none (further axis 0 p) j.here j.next

  pub none_changed : MergesRuns axis e g m n → n ≡ m
  none_changed merged = same_map n m (λ p. elim (merged.each p) [ inl run ↦ absurd (no_run p run.0 run.1) | inr old ↦ old.1 ])
