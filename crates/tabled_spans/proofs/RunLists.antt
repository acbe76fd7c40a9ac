-- The order of rows of places, and the map in which runs that are listed are rectangles.
use Rattle.tabled_spans.proofs.Common.{AllByRecursion, Axis, IsBefore, Bool, Columns, Entity, Grid, HasArea, IsNamed, IsOfRun, IsRun, IsSpan, List, MergesRuns, None, Option, Position, Rectangle, Rows, RunsOf, Size, Some, SpanMap, [], ap, ap₂, arith, cases_lt, find_at, get, if◌then◌else◌, inl, inr, is_span, none-some, place, refl, size_of_run, span-from, subst, sym, true, with_sizes, ℕ, ◌+◌, ◌<◌, ◌∙◌, ◌∷◌, ◌≡◌, ◌≤◌, ◌⊎◌}
use Rattle.tabled_spans.proofs.Runs.{further_none}
use Rattle.tabled_spans.proofs.SetSizes.{found_in, get-with_sizes, set_or}

pub all_then : {A : Type 0} {P Q : A → Type 0} → ((x : A) → P x → Q x) → (xs : List A) → AllByRecursion P xs → AllByRecursion Q xs
all_then f [] all = tt
all_then f (x ∷ xs) all = (f x all.0, all_then f xs all.1)

-- a place that comes before the next row comes before the end of this one
pub in_row : (i j left : ℕ) (p : Position) → left ≤ p.col → p.col < j → IsBefore p (place (i + 1) left) → IsBefore p (place i j)
in_row i j left p from inside (inr h) = absurd (omega (arith, h.1, from))
in_row i j left p from inside (inl above) = elim (cases_lt p.row i) [ inl l ↦ inl l | inr l ↦ inr (omega arith, inside) ]

pub next_row : (i j left : ℕ) (p : Position) → IsBefore p (place i j) → IsBefore p (place (i + 1) left)
next_row i j left p (inl above) = inl (omega arith)
next_row i j left p (inr h) = inl (omega (arith, h.0))

-- a run has more than one cell
run_is_span : (axis : Axis) (many : ℕ) → 2 ≤ many → is_span (size_of_run axis many) ≡ true
run_is_span axis many two = span-from (size_of_run axis many) (is_span_of_run axis)
  where
    is_span_of_run : (x : Axis) → IsSpan (size_of_run x many)
    is_span_of_run Rows = record { height = omega arith; width = omega arith; merges = inl two }
    is_span_of_run Columns = record { height = omega arith; width = omega arith; merges = inr two }

pub set_run : (axis : Axis) (many : ℕ) → 2 ≤ many → (old : Option Size) → set_or (Some (size_of_run axis many)) old ≡ Some (size_of_run axis many)
set_run axis many two old = ap (λ (b : Bool). if b then Some (size_of_run axis many) else None) (run_is_span axis many two)

module _ (axis : Axis) (entity : Entity) (g : Grid (List ℕ)) (m : SpanMap) where
  -- a run begins at a cell that is named
  pub begins_named : (p : Position) (n : ℕ) → IsRun axis entity g m p n → IsNamed entity g p
  begins_named p n run = subst (IsNamed entity g) (further_none axis p) (run.joins 0 (omega (arith, run.some))).here

  -- its size is that of a cell or more
  of_run : (x : Axis) (anchor : Rectangle) (many : ℕ) → 2 ≤ many → anchor.size ≡ size_of_run x many → HasArea anchor
  of_run Rows anchor many some is = record { height = rw is (omega (arith, some)); width = rw is (omega arith) }
  of_run Columns anchor many some is = record { height = rw is (omega arith); width = rw is (omega (arith, some)) }

  pub sizes_full : (es : List Rectangle) → AllByRecursion (IsOfRun axis entity g m) es → AllByRecursion HasArea es
  sizes_full es each = all_then {Q = HasArea} (λ anchor it. of_run axis anchor it.0 it.1.some it.2) es each

  pub runs_merged : (es : List Rectangle) → RunsOf axis entity g m es → MergesRuns axis entity g m (with_sizes m es)
  runs_merged es listed = record { each = λ p. merged_at p (find_at p es) refl }
    where
      merged_at : (p : Position) (o : Option Size) → find_at p es ≡ o → ((many : ℕ) × IsRun axis entity g m p many × (get (with_sizes m es) p ≡ Some (size_of_run axis many))) ⊎ (((many : ℕ) → IsRun axis entity g m p many → ⊥) × (get (with_sizes m es) p ≡ get m p))
      merged_at p None is = inr (λ many run. none-some (size_of_run axis many) (sym is ∙ listed.all p many run), get-with_sizes es m p listed.sorted ∙ ap (λ (o : Option Size). set_or o (get m p)) is)
      merged_at p (Some s) is =
          let run = found_in (IsOfRun axis entity g m) es listed.each p s is in
          inl (run.0, run.1, get-with_sizes es m p listed.sorted ∙ ap (λ (o : Option Size). set_or o (get m p)) is ∙ ap (λ (x : Size). set_or (Some x) (get m p)) run.2 ∙ set_run axis run.0 run.1.some (get m p))
