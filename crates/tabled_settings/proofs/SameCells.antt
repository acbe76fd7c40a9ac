-- Grids that have the same cells.
use Rattle.std.proofs.lemmas.Grind.{common_steps}
use Rattle.tabled_settings.proofs.Common.{◌<◌, ◌∙◌, ◌≡◌, ◌≤◌, ◌⊎◌, All-from_recursion, Grid, IsEven, None, arith, cell_at, get_or_past, place, same_grid, same_rows, slice_get_past, ℕ}

pub same_cells : {A : Type 0} (g h : Grid A) → IsEven g → IsEven h → g.rows ≡ h.rows → g.columns ≡ h.columns → ((a b : ℕ) → a < h.rows → b < h.columns → cell_at g (place a b) ≡ cell_at h (place a b)) → g ≡ h
same_cells g h g_even h_even rows columns each =
    same_grid g.rows h.rows g.columns h.columns g.cells h.cells rows columns
    (same_rows h.rows h.columns g.cells h.cells (g_even.tall ∙ rows) h_even.tall (rw columns at g_even.wide) h_even.wide each)

-- outside there is none
pub none_outside : {A : Type 0} (g : Grid A) (a b : ℕ) → IsEven g → (g.rows ≤ a) ⊎ (g.columns ≤ b) → cell_at g (place a b) ≡ None
none_outside {A} g a b even outside = grind (arith, common_steps, get_or_past, All-from_recursion, slice_get_past)
