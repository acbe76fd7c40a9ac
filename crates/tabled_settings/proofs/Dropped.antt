-- The indexes that are left, and rows of which these come to the front.
use Rattle.tabled_settings.proofs.Common.{[], ◌++◌, ◌+◌, ◌-◌, ◌<◌, ◌∙◌, ◌∷◌, ◌≡◌, ◌≤◌, ◌⊎◌, Bool, BringsLines, Columns, Grid, IsEven, List, add-one, ap, ap₂, arith, cases_Bool, cond, false, filter, filter-append, get_or, get_or_at, inl, inr, left_over, length, length-append, length_push, map, map-id, map-map, not, range_with_len, refl, subst, suc, swap, sym, true, zero, ℕ}
use Rattle.std.proofs.lemmas.List.{append-nil}
use Rattle.tabled_settings.proofs.KeptLines.{brings_more, brings_none}
use Rattle.tabled_settings.proofs.PieceReads.{filter_alike, filter_below, filter_more, range_split}
use Rattle.tabled_settings.proofs.RisingLists.{left_rises, length_within}

module _ (test : ℕ → Bool) where
  pub left_gone : (n : ℕ) → test n ≡ true → left_over test (suc n) ≡ left_over test n
  left_gone n gone = filter_more (λ (i : ℕ). not (test i)) n (suc n) false (omega arith) (ap not gone) ∙ append-nil (left_over test n)

  pub left_stays : (n : ℕ) → test n ≡ false → left_over test (suc n) ≡ left_over test n ++ n ∷ []
  left_stays n stays = filter_more (λ (i : ℕ). not (test i)) n (suc n) true (omega arith) (ap not stays)

module _ (test : ℕ → Bool) (i : ℕ) where
  pub left_more_gone : test i ≡ true → length (left_over test (i + 1)) ≡ length (left_over test i)
  left_more_gone gone = ap (λ (n : ℕ). length (left_over test n)) (add-one i) ∙ ap length (left_gone test i gone)

  pub left_more_kept : test i ≡ false → length (left_over test (i + 1)) ≡ length (left_over test i) + 1
  left_more_kept stays = ap (λ (n : ℕ). length (left_over test n)) (add-one i) ∙ ap length (left_stays test i stays) ∙ length_push (left_over test i) i

pub left_same : (test other : ℕ → Bool) (n : ℕ) → ((i : ℕ) → i < n → test i ≡ other i) → left_over test n ≡ left_over other n
left_same test other n alike = filter_alike (λ (i : ℕ). not (test i)) (λ (i : ℕ). not (other i)) 0 n (λ i h. ap not (alike i (omega (arith, h))))

pub left_few : (test : ℕ → Bool) (n : ℕ) → length (left_over test n) ≤ n
left_few test n = length_within (left_over test n) n (left_rises test n) (filter_below (λ (i : ℕ). not (test i)) n)

-- the next index that stays comes after those before it
pub left_at : (test : ℕ → Bool) (i n : ℕ) → i < n → test i ≡ false → (length (left_over test i) < length (left_over test n)) × (get_or (left_over test n) (length (left_over test i)) 0 ≡ i)
left_at test i n h stays =
    let p : ℕ → Bool = λ (k : ℕ). not (test k) in
    let rest : List ℕ = filter (λ (k : ℕ). not (test k)) (range_with_len (i + 1) (n - i - 1)) in
    let all : i + suc (n - i - 1) ≡ n = omega (arith, h) in
    let first : 0 + i ≡ i = omega arith in
    let split : left_over test n ≡ left_over test i ++ i ∷ rest =
    ap (left_over test) (sym all)
    ∙ ap (filter p) (range_split 0 i (suc (n - i - 1)) ∙ ap (λ (k : ℕ). range_with_len 0 i ++ range_with_len k (suc (n - i - 1))) first)
    ∙ filter-append p (range_with_len 0 i) (i ∷ range_with_len (i + 1) (n - i - 1))
    ∙ ap (λ (b : Bool). left_over test i ++ cond b (i ∷ rest) rest) (ap not stays) in
    (omega (arith, ap length split, length-append (left_over test i) (i ∷ rest)), ap (λ (xs : List ℕ). get_or xs (length (left_over test i)) 0) split ∙ get_or_at (left_over test i) i rest 0 (length (left_over test i)) refl)

maps_alike : {X Y : Type 0} (f h : X → Y) → ((x : X) → f x ≡ h x) → (xs : List X) → map f xs ≡ map h xs
maps_alike f h same [] = refl
maps_alike f h same (x ∷ xs) = ap₂ (λ y ys. y ∷ ys) (same x) (maps_alike f h same xs)

-- a row of which the first items that stay have come to the front
pub thinned : {A : Type 0} → (ℕ → Bool) → ℕ → List A → List A
thinned test zero xs = xs
thinned test (suc i) xs = cond (test i) (thinned test i xs) (swap (thinned test i xs) (length (left_over test i)) i)

module _ {A : Type 0} (test : ℕ → Bool) where
  pub thinned-none : (xs : List A) → thinned test 0 xs ≡ xs
  unfolding thinned
  thinned-none xs = refl

  thinned-more : (i : ℕ) (gone : Bool) → test i ≡ gone → (xs : List A) → thinned test (i + 1) xs ≡ cond gone (thinned test i xs) (swap (thinned test i xs) (length (left_over test i)) i)
  unfolding thinned
  thinned-more i gone is xs = ap (λ (n : ℕ). thinned test n xs) (add-one i) ∙ ap (λ (b : Bool). cond b (thinned test i xs) (swap (thinned test i xs) (length (left_over test i)) i)) is

  pub thinned-gone : (i : ℕ) → test i ≡ true → (xs : List A) → thinned test (i + 1) xs ≡ thinned test i xs
  thinned-gone i = thinned-more i true

  pub thinned-kept : (i k : ℕ) → k ≡ length (left_over test i) → test i ≡ false → (xs : List A) → thinned test (i + 1) xs ≡ swap (thinned test i xs) k i
  thinned-kept i k many stays xs = thinned-more i false stays xs ∙ ap (λ (n : ℕ). swap (thinned test i xs) n i) (sym many)

  abbrev thinned_grid : ℕ → Grid A → Grid A
  thinned_grid i g = record g { cells = map (thinned test i) g.cells }

  -- the columns of such rows
  pub thinned_rows : (n i : ℕ) (g : Grid A) → IsEven g → i ≤ n → n ≤ g.columns → BringsLines Columns (left_over test n) (length (left_over test i)) g (record g { cells = map (thinned test i) g.cells })
  thinned_rows n zero g even few within = subst (λ (rows : List (List A)). BringsLines Columns (left_over test n) 0 g (record g { cells = rows })) (sym (maps_alike _ _ thinned-none g.cells ∙ map-id g.cells)) (brings_none Columns (left_over test n) g even)
  thinned_rows n (suc i) g even few within = next_column (cases_Bool (test i)) (thinned_rows n i g even (omega (arith, few)) within)
    where
      at : (xs : List A) → thinned test (suc i) xs ≡ thinned test (i + 1) xs
      at xs = ap (λ (n : ℕ). thinned test n xs) (sym (add-one i))

      next_column : (test i ≡ true) ⊎ (test i ≡ false) → BringsLines Columns (left_over test n) (length (left_over test i)) g (thinned_grid i g) → BringsLines Columns (left_over test n) (length (left_over test (suc i))) g (thinned_grid (suc i) g)
      next_column (inl gone) old = rw (left_gone test i gone, maps_alike _ _ (λ xs. at xs ∙ thinned-gone i gone xs) g.cells) old
      next_column (inr stays) old =
          let rows : map (thinned test (suc i)) g.cells ≡ map (λ (xs : List A). swap xs (length (left_over test i)) i) (thinned_grid i g).cells = maps_alike _ _ (λ xs. at xs ∙ thinned-kept i (length (left_over test i)) refl stays xs) g.cells ∙ sym (map-map _ _ g.cells) in
          let many : length (left_over test (suc i)) ≡ length (left_over test i) + 1 = ap length (left_stays test i stays) ∙ length_push (left_over test i) i in
          let next = left_at test i n (omega (arith, few)) stays in
          rw many (brings_more Columns (left_over test n) (left_rises test n) (length (left_over test i)) (length (left_over test i) + 1) i g (thinned_grid i g) _ old next.0 (sym next.1) (ap (λ (xs : List (List A)). record g { cells = xs }) rows) refl (omega (arith, few, within)))
