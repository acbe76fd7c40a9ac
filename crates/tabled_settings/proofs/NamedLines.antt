-- Lines that are named.
use Rattle.tabled_settings.proofs.Common.{[], ◌++◌, ◌+◌, ◌<◌, ◌∙◌, ◌∷◌, ◌≡◌, All-from_recursion, AllByRecursion, Bool, Grid, List, Position, ap, cases_Bool, cond, filter, filter-append, inl, inr, inside, map, range_with_len, ℕ}
use Rattle.std.specs.List.{All}
use Rattle.tabled_grid.proofs.Places.{inside-within}
use Rattle.tabled_grid.specs.declared.config.entity.Entity.TheVariants.{Row}
use Rattle.tabled_select.specs.Locators.{columns_with, text_is}
use Rattle.tabled_settings.proofs.PieceReads.{range_split}

-- a range one longer
pub range_one_more : (a m n : ℕ) → n ≡ m + 1 → range_with_len a n ≡ range_with_len a m ++ (a + m) ∷ []
range_one_more a m n next = ap (range_with_len a) next ∙ range_split a m 1

-- and what passes a test of it
pub filter_one_more : (p : ℕ → Bool) (a m n : ℕ) (passes : Bool) → n ≡ m + 1 → p (a + m) ≡ passes → filter p (range_with_len a n) ≡ filter p (range_with_len a m) ++ cond passes ((a + m) ∷ []) []
filter_one_more p a m n passes next is =
    ap (filter p) (range_one_more a m n next) ∙ filter-append p (range_with_len a m) ((a + m) ∷ []) ∙ ap (λ (b : Bool). filter p (range_with_len a m) ++ cond b ((a + m) ∷ []) []) is

-- columns that a text names are columns of the table
columns_below : (test : Position → Bool) (r c : ℕ) (ps : List Position) → AllByRecursion (λ (p : Position). (p.row < r) × (p.col < c)) ps → AllByRecursion (λ (j : ℕ). j < c) (map (λ (p : Position). p.col) (filter test ps))
columns_below test r c [] all = all
columns_below test r c (p ∷ ps) all = elim (cases_Bool (test p)) [
  | inl passes ↦ rw passes (all.0.1, columns_below test r c ps all.1)
  | inr fails ↦ rw fails (columns_below test r c ps all.1)
]

pub titled_below : (text : List ℕ) (g : Grid (List ℕ)) → All (λ (j : ℕ). j < g.columns) (columns_with text g)
titled_below text g = All-from_recursion (λ (j : ℕ). j < g.columns) (columns_with text g) (columns_below (text_is text g) g.rows g.columns (inside (Row 0) g.rows g.columns) (inside-within (Row 0) g.rows g.columns))
