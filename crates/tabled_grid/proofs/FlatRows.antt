-- Rows of joined rows inserted, swapped and removed.
use Rattle.tabled_grid.proofs.Common.{[], ◌*◌, ◌++◌, ◌+◌, ◌<◌, ◌∙◌, ◌∷◌, ◌≡◌, ◌≢◌, AreWide, List, all-take, ap, ap₂, arith, drop, drop-drop, drop_all, drop_at, drop_more, get_or, insert, joined, length, length-set, length-take-le, refl, remove, set, set-append_left, set_at, set_comm, set_split, suc, swap, swap_is, sym, take, take-append-add, take-append-drop, take_all, take_at, with_runs_swapped, zero, ℕ}
use Rattle.std.proofs.lemmas.List.Concat.{flat_map-append}

-- a swap is the same either way round
pub swap-turned : {A : Type 0} (xs : List A) (i k : ℕ) → i ≢ k → swap xs k i ≡ swap xs i k
swap-turned [] i k h = refl
swap-turned (x ∷ xs) i k h = set_comm (x ∷ xs) k i _ _ (λ e. h (sym e))

module _ {A : Type 0} where
  pub joined-append : (xs ys : List (List A)) → joined (xs ++ ys) ≡ joined xs ++ joined ys
  joined-append xs ys = flat_map-append (λ (row : List A). row) xs ys

  take_past : (p q : List A) (m n : ℕ) → length p + m ≡ n → take n (p ++ q) ≡ p ++ take m q
  take_past p q m n e = rw (← e) (take-append-add p q m)

  drop_past_front : (p q : List A) (m n : ℕ) → length p + m ≡ n → drop n (p ++ q) ≡ drop m q
  drop_past_front p q m n e = rw (← e, ← drop-drop m (length p) (p ++ q)) (ap (drop m) (drop_at p q (length p) refl))

  -- the first rows, and those after them
  pub take-joined : (c : ℕ) (i : ℕ) (rows : List (List A)) → AreWide c rows → take (i * c) (joined rows) ≡ joined (take i rows)
  take-joined c zero rows w = let none : 0 * c ≡ 0 = omega arith in rw none refl
  take-joined c (suc i) [] w = take_all (suc i * c) [] (omega arith)
  take-joined c (suc i) (row ∷ rows) w = take_past row (joined rows) (i * c) (suc i * c) (omega (arith, w.0)) ∙ ap (λ ys. row ++ ys) (take-joined c i rows w.1)

  pub drop-joined : (c : ℕ) (i : ℕ) (rows : List (List A)) → AreWide c rows → drop (i * c) (joined rows) ≡ joined (drop i rows)
  drop-joined c zero rows w = let none : 0 * c ≡ 0 = omega arith in rw none refl
  drop-joined c (suc i) [] w = drop_all (suc i * c) [] (omega arith)
  drop-joined c (suc i) (row ∷ rows) w = drop_past_front row (joined rows) (i * c) (suc i * c) (omega (arith, w.0)) ∙ drop-joined c i rows w.1

  pub drop-joined_next : (c : ℕ) (i n : ℕ) (rows : List (List A)) → AreWide c rows → n ≡ i * c + c → drop n (joined rows) ≡ joined (drop (suc i) rows)
  drop-joined_next c i n rows w e = let same : n ≡ suc i * c = omega (arith, e) in rw same (drop-joined c (suc i) rows w)

  pub joined-insert : (c : ℕ) (rows : List (List A)) (i : ℕ) (row : List A) → AreWide c rows → joined (insert rows i row) ≡ take (i * c) (joined rows) ++ (row ++ drop (i * c) (joined rows))
  joined-insert c rows i row w = joined-append (take i rows) (row ∷ drop i rows) ∙ ap₂ (λ p q. p ++ (row ++ q)) (sym (take-joined c i rows w)) (sym (drop-joined c i rows w))

  pub joined-remove : (c : ℕ) (rows : List (List A)) (i n : ℕ) → AreWide c rows → n ≡ i * c + c → joined (remove rows i) ≡ take (i * c) (joined rows) ++ drop n (joined rows)
  joined-remove c rows i n w e = joined-append (take i rows) (drop (suc i) rows) ∙ ap₂ (λ p q. p ++ q) (sym (take-joined c i rows w)) (sym (drop-joined_next c i n rows w e))

  -- the row at i, and the rows after it
  row_at : (c : ℕ) (rows : List (List A)) (i : ℕ) → AreWide c rows → i < length rows → take c (joined (drop i rows)) ≡ get_or rows i []
  row_at c [] i w h = absurd (omega (arith, h))
  row_at c (row ∷ rows) zero w h = take_at row (joined rows) c w.0
  row_at c (row ∷ rows) (suc i) w h = row_at c rows i w.1 (omega (arith, h))

  pub row-joined : (c : ℕ) (rows : List (List A)) (i : ℕ) → AreWide c rows → i < length rows → take c (drop (i * c) (joined rows)) ≡ get_or rows i []
  row-joined c rows i w h = rw (drop-joined c i rows w) (row_at c rows i w h)

  get_or-take_below : (rows : List (List A)) (k i : ℕ) → i < k → get_or (take k rows) i [] ≡ get_or rows i []
  get_or-take_below rows zero i h = absurd (omega (arith, h))
  get_or-take_below [] (suc k) i h = refl
  get_or-take_below (row ∷ rows) (suc k) zero h = refl
  get_or-take_below (row ∷ rows) (suc k) (suc i) h = get_or-take_below rows k i (omega (arith, h))

  -- two rows swapped, of which i comes first
  rows_swapped : (rows : List (List A)) (i k : ℕ) → i < k → k < length rows → (take i (take k rows) ++ get_or rows k [] ∷ drop (suc i) (take k rows)) ++ get_or rows i [] ∷ drop (suc k) rows ≡ swap rows i k
  rows_swapped rows i k h l =
      let front : List (List A) = take k rows in
      let long : length front ≡ k = length-take-le k rows (omega (arith, l)) in
      let next : k + 1 ≡ suc k = omega arith in
      let parts : rows ≡ front ++ get_or rows k [] ∷ drop (suc k) rows = sym (take-append-drop k rows) ∙ ap (λ ys. front ++ ys) (drop_more rows k [] l ∙ ap (λ n. get_or rows k [] ∷ drop n rows) next) in
      ap (λ ys. ys ++ get_or rows i [] ∷ drop (suc k) rows) (sym (set_split front i (get_or rows k []) (omega (arith, long, h))))
      ∙ sym (set_at (set front i (get_or rows k [])) (get_or rows k []) (drop (suc k) rows) (get_or rows i []) k (length-set front i _ ∙ long))
      ∙ ap (λ ys. set ys k (get_or rows i [])) (sym (set-append_left front (get_or rows k [] ∷ drop (suc k) rows) i (get_or rows k []) (omega (arith, long, h))) ∙ ap (λ ys. set ys i (get_or rows k [])) (sym parts))
      ∙ swap_is rows i k [] (omega (arith, h, l)) l

  pub joined-swap : (c : ℕ) (rows : List (List A)) (i k : ℕ) → AreWide c rows → i < k → k < length rows → with_runs_swapped (joined rows) (i * c) (k * c) c ≡ joined (swap rows i k)
  joined-swap c rows i k w h l =
      let front : List (List A) = take k rows in
      let wide : AreWide c front = all-take _ k rows w in
      let long : length front ≡ k = length-take-le k rows (omega (arith, l)) in
      let first : take (k * c) (joined rows) ≡ joined front = take-joined c k rows w in
      let before : take (i * c) (joined front) ≡ joined (take i front) = take-joined c i front wide in
      let one : take c (drop (i * c) (joined front)) ≡ get_or rows i [] = row-joined c front i wide (omega (arith, long, h)) ∙ get_or-take_below rows k i h in
      let other : take c (drop (k * c) (joined rows)) ≡ get_or rows k [] = row-joined c rows k w l in
      let between : drop c (drop (i * c) (joined front)) ≡ joined (drop (suc i) front) = drop-drop c (i * c) (joined front) ∙ drop-joined_next c i (i * c + c) front wide refl in
      let behind : drop c (drop (k * c) (joined rows)) ≡ joined (drop (suc k) rows) = drop-drop c (k * c) (joined rows) ∙ drop-joined_next c k (k * c + c) rows w refl in
      rw (first, before, one, other, between, behind)
      (ap (λ ys. ys ++ (get_or rows i [] ++ joined (drop (suc k) rows))) (sym (joined-append (take i front) (get_or rows k [] ∷ drop (suc i) front)))
      ∙ sym (joined-append (take i front ++ get_or rows k [] ∷ drop (suc i) front) (get_or rows i [] ∷ drop (suc k) rows))
      ∙ ap joined (rows_swapped rows i k h l))
