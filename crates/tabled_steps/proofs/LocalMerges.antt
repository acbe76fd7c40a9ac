-- What a merge does on an entity depends on the places that it names.
use Rattle.tabled_steps.proofs.Common.{[], ◌≡◌, Axis, Entity, Grid, IsLocal, IsRun, Joins, List, Merges, MergesRuns, Position, Same, SpanMap, ap, arith, block, further, inl, inr, inside, map_grid, refl, subst, sym, ℕ}
use Rattle.tabled_grid.proofs.Members.{Member, block-from, filter-from, filter-member}
use Rattle.tabled_grid.specs.Entity.{names}
use Rattle.tabled_spans.specs.Runs.{IsNamed}

-- a cell that is named is one of the places of the table that are named
named-member : {A : Type 0} (e : Entity) (g : Grid A) (p : Position) → IsNamed e g p → Member p (inside e g.rows g.columns)
named-member e g p h = filter-from (names e) p (block 0 g.rows 0 g.columns) (block-from 0 g.rows 0 g.columns p (record { top = omega arith; bottom = h.inside.row; left = omega arith; right = h.inside.col })) h.named

module _ (axis : Axis) (e f : Entity) (g : Grid (List ℕ)) (m : SpanMap) (same : inside e g.rows g.columns ≡ inside f g.rows g.columns) where
  pub named_alike : (p : Position) → IsNamed e g p → IsNamed f g p
  named_alike p h = record { inside = h.inside; named = (filter-member (names f) p (block 0 g.rows 0 g.columns) (subst (Member p) same (named-member e g p h))).1 }

  pub joins_alike : (p : Position) → Joins axis e g m p → Joins axis f g m p
  joins_alike p j = record { here = named_alike p j.here; next = named_alike (further axis 1 p) j.next; free = j.free; next_free = j.next_free; same = j.same }

run_alike : (axis : Axis) (e f : Entity) (g : Grid (List ℕ)) (m : SpanMap) → inside e g.rows g.columns ≡ inside f g.rows g.columns → (p : Position) (many : ℕ) → IsRun axis e g m p many → IsRun axis f g m p many
run_alike axis e f g m same p many run = record {
  some = run.some;
  joins = λ k h. joins_alike axis e f g m same (further axis k p) (run.joins k h);
  ends = λ j. run.ends (joins_alike axis f e g m (sym same) _ j);
  begins = λ q is j. run.begins q is (joins_alike axis f e g m (sym same) q j);
}

merged_alike : (axis : Axis) (e f : Entity) (g : Grid (List ℕ)) (m n : SpanMap) → inside e g.rows g.columns ≡ inside f g.rows g.columns → MergesRuns axis f g m n → MergesRuns axis e g m n
merged_alike axis e f g m n same merged = record {
  each = λ p. elim (merged.each p) [
    | inl run ↦ inl (run.0, run_alike axis f e g m (sym same) p run.0 run.1, run.2)
    | inr old ↦ inr (λ many run. old.0 many (run_alike axis e f g m same p many run), old.1)
  ];
}

-- on an entity that names no cell a merge changes nothing
none_merged : (axis : Axis) (e : Entity) (g : Grid (List ℕ)) (m : SpanMap) → inside e g.rows g.columns ≡ [] → MergesRuns axis e g m m
none_merged axis e g m none = record { each = λ p. inr (λ many run. subst (Member (further axis 0 p)) none (named-member e g (further axis 0 p) (run.joins 0 (omega (arith, run.some))).here), refl) }

pub local_merges : {A : Type 0} (text_of : A → List ℕ) (axis : Axis) → IsLocal (Merges text_of axis) (λ _. Same)
local_merges text_of axis = record {
  rows = λ e old cfg new new_cfg w. ap (λ k. k.rows) w.0;
  columns = λ e old cfg new new_cfg w. ap (λ k. k.columns) w.0;
  alike = λ e f old cfg new new_cfg same w. (w.0, merged_alike axis e f (map_grid text_of old) cfg new_cfg same w.1);
  again = λ e old cfg new new_cfg none w. (refl, none_merged axis e (map_grid text_of new) new_cfg (rw w.0 none));
  left_alike = λ e f old cfg new new_cfg same w. w;
}
