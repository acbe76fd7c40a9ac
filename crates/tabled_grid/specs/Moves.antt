-- What moves of cells in one list leave.
use Rattle.std.specs.Prelude.{◌≡◌, ℕ, IsPermutation, List, ◌++◌, length, take, drop}
use Rattle.std.specs.List.{AllZip}
use Rattle.tabled_grid.specs.Resized.{AreBlanks}
use Rattle.tabled_grid.specs.Flat.{joined}

-- n blanks are inserted before a place
pub record InsertsBlanks {A : Type 0} (is_blank : A → Type 0) (old new : List A) (at count : ℕ) : Type 0 where
  pub cells : List A
  pub blanks : AreBlanks is_blank count cells
  pub is : new ≡ take at old ++ (cells ++ drop at old)

-- the items of a gap, in some order, and then a run, between two lists that stay
pub record GapThenRun {A : Type 0} (new before gap run after : List A) : Type 0 where
  pub moved : List A
  pub same : IsPermutation gap moved
  pub is : new ≡ before ++ (moved ++ (run ++ after))

-- a run, and then the items of a gap, in some order, between two lists that stay
pub record RunThenGap {A : Type 0} (new before gap run after : List A) : Type 0 where
  pub moved : List A
  pub same : IsPermutation gap moved
  pub is : new ≡ before ++ (run ++ (moved ++ after))

-- the `count` items after a gap are brought forward to place `to`, where the gap begins
pub record Slid {A : Type 0} (old new : List A) (to gap count : ℕ) : Type 0 where
  pub is : (p g run rest : List A) → old ≡ p ++ (g ++ (run ++ rest)) → length p ≡ to → length g ≡ gap → length run ≡ count → RunThenGap new p g run rest

-- the `count` items at place `from` are brought after the gap that follows them
pub record SlidBack {A : Type 0} (old new : List A) (from count gap : ℕ) : Type 0 where
  pub is : (p run g rest : List A) → old ≡ p ++ (run ++ (g ++ rest)) → length p ≡ from → length run ≡ count → length g ≡ gap → GapThenRun new p g run rest

-- n blanks are inserted into each row before place j
pub record PutsBlanks {A : Type 0} (is_blank : A → Type 0) (rows : List (List A)) (cells : List A) (j many : ℕ) : Type 0 where
  pub wide : List (List A)
  pub each : AllZip (λ (row w : List A). InsertsBlanks is_blank row w j many) rows wide
  pub is : cells ≡ joined wide

-- two runs of n items swapped, where the first ends before the second
abbrev pub with_runs_swapped : {A : Type 0} → List A → ℕ → ℕ → ℕ → List A
with_runs_swapped xs first second count =
    (take first (take second xs) ++ (take count (drop second xs) ++ drop count (drop first (take second xs)))) ++ (take count (drop first (take second xs)) ++ drop count (drop second xs))

-- n blanks are put last
pub record AddsBlanks {A : Type 0} (is_blank : A → Type 0) (old new : List A) (count : ℕ) : Type 0 where
  pub cells : List A
  pub blanks : AreBlanks is_blank count cells
  pub is : new ≡ old ++ cells
