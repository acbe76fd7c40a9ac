-- Runs of equal neighbours: where they begin and end.
use Rattle.tabled_spans.proofs.Common.{◌+◌, ◌-◌, ◌<◌, ◌≡◌, ◌≤◌, Axis, Columns, Entity, Grid, IsRun, Joins, List, Position, Rows, RunAt, SpanMap, ap, ap₂, arith, common_steps, further, place, refl, sym, ℕ}

pub further_none : (axis : Axis) (p : Position) → further axis 0 p ≡ p
further_none Rows p = ap₂ place (omega arith) refl
further_none Columns p = ap₂ place refl (omega arith)

pub further_more : (axis : Axis) (k n : ℕ) (p : Position) → k + 1 ≡ n → further axis 1 (further axis k p) ≡ further axis n p
further_more Rows k n p e = ap₂ place (omega (arith, e)) refl
further_more Columns k n p e = ap₂ place refl (omega (arith, e))

pub same_last : (axis : Axis) (p q : Position) → further axis 1 p ≡ further axis 1 q → p ≡ q
same_last Rows p q e = ap₂ place (omega (arith, ap (λ (x : Position). x.row) e)) (ap (λ (x : Position). x.col) e)
same_last Columns p q e = ap₂ place (ap (λ (x : Position). x.row) e) (omega (arith, ap (λ (x : Position). x.col) e))

-- n cells from the next place on are n + 1 from this one on
pub further_back : (axis : Axis) (k n : ℕ) (last p : Position) → further axis 1 last ≡ p → k + 1 ≡ n → further axis k p ≡ further axis n last
further_back Rows k n last p is e = ap₂ place (omega (arith, e, ap (λ (x : Position). x.row) is)) (sym (ap (λ (x : Position). x.col) is))
further_back Columns k n last p is e = ap₂ place (sym (ap (λ (x : Position). x.row) is)) (omega (arith, e, ap (λ (x : Position). x.col) is))

module _ (axis : Axis) (entity : Entity) (g : Grid (List ℕ)) (m : SpanMap) (p : Position) where
  -- where a cell before joins the place, no run begins there
  pub continues : (last : Position) → further axis 1 last ≡ p → Joins axis entity g m last → RunAt axis entity g m p 0
  continues last is joins = record { is = λ h. absurd (omega (arith, h)); none = λ h n run. run.begins last is joins }

  -- what was found by going on as far as cells join
  pub run_at : (many : ℕ) (last : Position) → 1 ≤ many → last ≡ further axis (many - 1) p → ((k : ℕ) → k + 1 < many → Joins axis entity g m (further axis k p)) → (Joins axis entity g m last → ⊥) → ((q : Position) → further axis 1 q ≡ p → Joins axis entity g m q → ⊥) → RunAt axis entity g m p many
  run_at many last some is joins ends begins = grind (arith, common_steps)

-- a run is as long as any other that begins at the same place
pub same_run : (axis : Axis) (entity : Entity) (g : Grid (List ℕ)) (m : SpanMap) (p : Position) (a b : ℕ) → IsRun axis entity g m p a → IsRun axis entity g m p b → a ≡ b
same_run axis entity g m p a b first second = grind (arith, common_steps)
