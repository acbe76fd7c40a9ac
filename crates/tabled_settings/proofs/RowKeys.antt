-- The texts of a column, as they are held while rows are sorted.
use Rattle.tabled_settings.proofs.Common.{◌≡◌, ◌+◌, ◌-◌, ◌<◌, ◌≤◌, ◌∷◌, ◌++◌, [], AllByRecursion, Bool, Grid, IsEven, List, Option, Position, ap, arith, get_or, get_or-map-range_with_len, get_or_past, length, length-map-range_with_len, map, min, place, range_with_len, refl, slice_get, slice_get_past, suc, sym, take, text_at, unwrap_or, zero, ◌∙◌, cases_lt, false, get_or-range_with_len, length-range_with_len, not, true, ℕ}
use Rattle.std.proofs.Common.{ap₂, drop, zero-add, Ordering, Bor, ⊎_elim}
use Rattle.std.proofs.lemmas.List.Sums.{prefix_len_is}
use Rattle.std.specs.List.{position_or_len}
use Rattle.tabled_settings.specs.InOrder.{comes_before, in_order, sorted_from}
use Rattle.tabled_settings.specs.Keys.{lent_text}
use Rattle.tabled_settings.specs.Sorted.{row_order}

-- no row of an even grid is longer than the grid is wide
row-length : {A : Type 0} (columns : ℕ) (cells : List (List A)) → AllByRecursion (λ (row : List A). length row ≡ columns) cells → (i : ℕ) → length (get_or cells i []) ≤ columns
row-length columns [] wide i = omega arith
row-length columns (row ∷ cells) wide zero = omega (arith, wide.0)
row-length columns (row ∷ cells) wide (suc i) = row-length columns cells wide.1 i

-- where a table has no row or no column, a text is empty
pub text-past-rows : (g : Grid (List ℕ)) (p : Position) → length g.cells ≤ p.row → text_at g p ≡ []
text-past-rows g p past = ap (λ (row : List (List ℕ)). unwrap_or (slice_get row p.col) []) (get_or_past g.cells p.row [] past) ∙ ap (λ (o : Option (List ℕ)). unwrap_or o []) (slice_get_past [] p.col (omega arith))

pub text-past-columns : (g : Grid (List ℕ)) → IsEven g → (p : Position) → g.columns ≤ p.col → text_at g p ≡ []
text-past-columns g even p past = let short : length (get_or g.cells p.row []) ≤ g.columns = row-length g.columns g.cells even.wide p.row in
    ap (λ (o : Option (List ℕ)). unwrap_or o []) (slice_get_past (get_or g.cells p.row []) p.col (omega arith))

-- the texts that are held are those of the column
key-of-row : (g : Grid (List ℕ)) → IsEven g → (j : ℕ) (texts : List (Bor (List ℕ))) → map (λ (t : Bor (List ℕ)). t.now) texts ≡ map (λ (i : ℕ). text_at g (place i j)) (range_with_len 0 g.rows)
    → (i : ℕ) → lent_text texts i ≡ text_at g (place i j)
key-of-row g even j texts e i = ap (λ (l : List (List ℕ)). get_or l i []) e ∙ ⊎_elim
    (λ (within : i < g.rows). get_or-map-range_with_len (λ (k : ℕ). text_at g (place k j)) 0 g.rows i i [] within (omega arith))
    (λ (past : g.rows ≤ i). get_or_past (map (λ (k : ℕ). text_at g (place k j)) (range_with_len 0 g.rows)) i [] (rw length-map-range_with_len past) ∙ sym (text-past-rows g (place i j) (omega (arith, even.tall))))
    (cases_lt i g.rows)

as-long : (g : Grid (List ℕ)) (j : ℕ) (texts : List (Bor (List ℕ))) → map (λ (t : Bor (List ℕ)). t.now) texts ≡ map (λ (i : ℕ). text_at g (place i j)) (range_with_len 0 g.rows) → length texts ≡ g.rows
as-long g j texts e = sym (held texts) ∙ ap (length {A = List ℕ}) e ∙ length-map-range_with_len (λ (i : ℕ). text_at g (place i j)) 0 g.rows
  where
    held : (texts : List (Bor (List ℕ))) → length (map (λ (t : Bor (List ℕ)). t.now) texts) ≡ length texts
    held [] = refl
    held (t ∷ texts) = ap suc (held texts)

pub sorted-by-column : (g : Grid (List ℕ)) → IsEven g → (j from : ℕ) (order : List ℕ → List ℕ → Ordering) (texts : List (Bor (List ℕ))) → map (λ (t : Bor (List ℕ)). t.now) texts ≡ map (λ (i : ℕ). text_at g (place i j)) (range_with_len 0 g.rows)
    → sorted_from from (λ (a b : ℕ). order (lent_text texts a) (lent_text texts b)) (length texts) ≡ sorted_from from (row_order order g j) g.rows
sorted-by-column g even j from order texts e =
    ap (λ (key : ℕ → List ℕ). sorted_from from (λ (a b : ℕ). order (key a) (key b)) (length texts)) (λ i k. key-of-row g even j texts e k i)
    ∙ ap (sorted_from from (row_order order g j)) (as-long g j texts e)

-- the first indexes, and those behind them
take-range : (a n k : ℕ) → take k (range_with_len a n) ≡ range_with_len a (min k n)
take-range a n zero = let e : 0 ≡ min 0 n = omega arith in ap (range_with_len a) e
take-range a zero (suc k) = let e : 0 ≡ min (suc k) 0 = omega arith in ap (range_with_len a) e
take-range a (suc n) (suc k) = let e : suc (min k n) ≡ min (suc k) (suc n) = omega arith in ap (λ (l : List ℕ). a ∷ l) (take-range (a + 1) n k) ∙ ap (range_with_len a) e

same-range : (a b m n : ℕ) → a ≡ b → m ≡ n → range_with_len a m ≡ range_with_len b n
same-range a b m n e f = ap₂ range_with_len e f

drop-range : (a n k : ℕ) → drop k (range_with_len a n) ≡ range_with_len (a + k) (n - k)
drop-range a n zero = same-range a (a + 0) n (n - 0) (omega arith) (omega arith)
drop-range a zero (suc k) = let e : 0 ≡ 0 - suc k = omega arith in ap (range_with_len (a + suc k)) e
drop-range a (suc n) (suc k) = drop-range (a + 1) n k ∙ same-range (a + 1 + k) (a + suc k) (n - k) (suc n - suc k) (omega arith) (omega arith)

pub sorted-behind : (from : ℕ) (cmp : ℕ → ℕ → Ordering) (n : ℕ) → take from (range_with_len 0 n) ++ in_order (comes_before cmp) (drop from (range_with_len 0 n)) ≡ sorted_from from cmp n
sorted-behind from cmp n = ap (λ (l : List ℕ). l ++ in_order (comes_before cmp) (drop from (range_with_len 0 n))) (take-range 0 n from)
    ∙ ap (λ (l : List ℕ). range_with_len 0 (min from n) ++ in_order (comes_before cmp) l) (drop-range 0 n from ∙ same-range (0 + from) from (n - from) (n - from) (omega arith) refl)

-- the first index of those below n that passes a test, or n
pub first-passing : (p : ℕ → Bool) (n k : ℕ) → k ≤ n → ((i : ℕ) → i < k → p i ≡ false) → (k < n → p k ≡ true) → position_or_len p (range_with_len 0 n) ≡ k
first-passing p n k le below at = prefix_len_is (λ (i : ℕ). not (p i)) (range_with_len 0 n) k 0 (rw length-range_with_len le)
    (λ i h. ap (λ (j : ℕ). not (p j)) (get_or-range_with_len 0 n i 0 (omega arith) ∙ zero-add i) ∙ ap not (below i h))
    (λ h. let within : k < n = rw (length-range_with_len) at h in ap (λ (j : ℕ). not (p j)) (get_or-range_with_len 0 n k 0 within ∙ zero-add k) ∙ ap not (at within))
