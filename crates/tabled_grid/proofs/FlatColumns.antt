-- Columns of joined rows swapped and removed, one row after another.
use Rattle.tabled_grid.proofs.Common.{[], ◌*◌, ◌++◌, ◌+◌, ◌-◌, ◌<◌, ◌∙◌, ◌∷◌, ◌≡◌, ◌≤◌, All-from_recursion, AreWide, List, Slid, add-mul, all-append, all-drop, all-map, all-set, all-take, ap, append-nil, append_assoc, ap₂, arith, chunks, common_steps, drop, drop-drop, drop_all, drop_more, get_or, get_or-set_same, get_or_from_slice_get, joined, length, length-append, length-drop, length-map, length-set, length-swap, length-take-le, length_permutation, map, map_more, map_over_more, mul-add-lt, refl, set, set-set, suc, swap, swap_is, sym, take, take-append-drop, take_all, take_at, zero, ℕ}
use Rattle.tabled_grid.proofs.Swaps.{at}
use Rattle.tabled_grid.proofs.Flat.{joined-chunks, length-joined}
use Rattle.tabled_grid.proofs.FlatCells.{set-joined, slice_get-joined}
use Rattle.tabled_grid.proofs.FlatRows.{joined-append}

module _ {A : Type 0} where
  pub row_long : (c : ℕ) (rows : List (List A)) (i : ℕ) → AreWide c rows → i < length rows → length (get_or rows i []) ≡ c
  row_long c rows i w h = All-from_recursion _ rows w i [] h

  pub joined-push : (rows : List (List A)) (row : List A) → joined (rows ++ row ∷ []) ≡ joined rows ++ row
  joined-push rows row = joined-append rows (row ∷ []) ∙ ap (λ ys. joined rows ++ ys) (append-nil row)

  -- two cells of one row
  swap-joined_row : (c : ℕ) (rows : List (List A)) (i j k m n : ℕ) → AreWide c rows → i < length rows → j < c → k < c → m ≡ i * c + j → n ≡ i * c + k →
      swap (joined rows) m n ≡ joined (set rows i (swap (get_or rows i []) j k))
  swap-joined_row c rows i j k m n w h j_in k_in e f =
      let row : List A = get_or rows i [] in
      let long : length row ≡ c = row_long c rows i w h in
      let all : length (joined rows) ≡ c * length rows = length-joined c rows w ∙ omega arith in
      let a = at row j (omega (arith, long, j_in)) in
      let b = at row k (omega (arith, long, k_in)) in
      let x : A = a.member in
      let y : A = b.member in
      let first : get_or (joined rows) m x ≡ x = get_or_from_slice_get (joined rows) m x x (slice_get-joined c rows i j m w h j_in e ∙ a.get) in
      let second : get_or (joined rows) n x ≡ y = get_or_from_slice_get (joined rows) n y x (slice_get-joined c rows i k n w h k_in f ∙ b.get) in
      let once : List (List A) = set rows i (set row j y) in
      let here : get_or once i [] ≡ set row j y = get_or-set_same rows i (set row j y) [] h in
      let both : set (set row j y) k x ≡ swap row j k =
      ap₂ (λ u v. set (set row j u) k v) (sym (b.read x)) (sym (a.read x)) ∙ swap_is row j k x (omega (arith, long, j_in)) (omega (arith, long, k_in)) in
      sym (swap_is (joined rows) m n x (omega (arith, all, e, mul-add-lt i c j (length rows) h j_in)) (omega (arith, all, f, mul-add-lt i c k (length rows) h k_in)))
      ∙ ap₂ (λ u v. set (set (joined rows) m u) n v) second first
      ∙ ap (λ ys. set ys n x) (set-joined c rows i j m y w h j_in e)
      ∙ set-joined c once i k n x (all-set _ rows i (set row j y) w (length-set row j y ∙ long)) (omega (arith, length-set rows i (set row j y), h)) k_in f
      ∙ ap joined (ap (λ ys. set once i (set ys k x)) here ∙ set-set rows i (set row j y) (set (set row j y) k x) ∙ ap (set rows i) both)

  -- the first i rows are changed by f
  abbrev pub changed : (List A → List A) → List (List A) → ℕ → List (List A)
  changed f rows i = map f (take i rows) ++ drop i rows

  pub swapped_none : (r c : ℕ) (xs : List A) (f : List A → List A) → length xs ≡ r * c → xs ≡ joined (changed f (chunks r c xs) 0)
  swapped_none r c xs f h = sym (joined-chunks r c xs h)

  pub swapped_more : (c : ℕ) (rows : List (List A)) (i j k m n : ℕ) (cells : List A) → AreWide c rows → i < length rows → j < c → k < c → m ≡ i * c + j → n ≡ i * c + k →
      cells ≡ joined (changed (λ row. swap row j k) rows i) → swap cells m n ≡ joined (changed (λ row. swap row j k) rows (i + 1))
  swapped_more c rows i j k m n cells w h j_in k_in e f is =
      let turn : List A → List A = λ row. swap row j k in
      let now : List (List A) = changed turn rows i in
      let front : length (map turn (take i rows)) ≡ i = length-map (take i rows) turn ∙ length-take-le i rows (omega (arith, h)) in
      let wide : AreWide c now = all-append _ (map turn (take i rows)) (drop i rows) (all-map _ _ turn (λ row l. length-swap row j k ∙ l) (take i rows) (all-take _ i rows w)) (all-drop _ i rows w) in
      let within : i < length now = omega (arith, length-append (map turn (take i rows)) (drop i rows), front, length-drop i rows, h) in
      ap (λ ys. swap ys m n) is
      ∙ swap-joined_row c now i j k m n wide within j_in k_in e f
      ∙ ap joined (map_over_more turn rows now i (get_or now i []) h refl (get_or_itself now i within))
    where
      get_or_itself : (xs : List (List A)) (i : ℕ) → i < length xs → get_or xs i [] ≡ get_or xs i (get_or xs i [])
      get_or_itself [] i h = refl
      get_or_itself (x ∷ xs) zero h = refl
      get_or_itself (x ∷ xs) (suc i) h = get_or_itself xs i (omega (arith, h))

  pub swapped_all : (rows : List (List A)) (i : ℕ) (f : List A → List A) → length rows ≤ i → joined (changed f rows i) ≡ joined (map f rows)
  swapped_all rows i f h = rw (take_all i rows h, drop_all i rows h) (ap joined (append-nil (map f rows)))

  -- rows, of which the next is apart
  next_row : (rows : List (List A)) (i : ℕ) → i < length rows → joined (drop i rows) ≡ get_or rows i [] ++ joined (drop (i + 1) rows)
  next_row rows i h = ap joined (drop_more rows i [] h)

  module _ (c j n : ℕ) where
    -- a row without the n cells from j on
    abbrev shorter : List A → List A
    shorter row = take j row ++ drop (j + n) row

    -- the n cells from j on were taken out of each of the first i rows, and lie after these
    pub record ClosedUp (rows : List (List A)) (i : ℕ) (cells : List A) : Type 0 where
      pub gap : List A
      pub many : length gap ≡ i * n
      pub is : cells ≡ joined (map shorter (take i rows)) ++ (gap ++ joined (drop i rows))

    pub closed_none : (r : ℕ) (xs : List A) → length xs ≡ r * c → ClosedUp (chunks r c xs) 0 xs
    closed_none r xs h = record { gap = []; many = omega arith; is = sym (joined-chunks r c xs h) }

    length-shorter : (rows : List (List A)) (i : ℕ) → AreWide c rows → j + n ≤ c → i ≤ length rows → length (joined (map shorter (take i rows))) ≡ i * (c - n)
    length-shorter rows i w h l =
        length-joined (c - n) _ (all-map _ _ shorter (λ row e. omega (arith, length-append (take j row) (drop (j + n) row), length-take-le j row (omega (arith, e, h)), length-drop (j + n) row, e, h)) (take i rows) (all-take _ i rows w))
        ∙ ap (λ m. m * (c - n)) (length-map (take i rows) shorter ∙ length-take-le i rows l)

    pub closed_more : (i : ℕ) (rows : List (List A)) (xs ys zs : List A) (to_first gap_first to_second gap_second m : ℕ) → AreWide c rows → j + n ≤ c → i < length rows → ClosedUp rows i xs →
        Slid xs ys to_first gap_first j → Slid ys zs to_second gap_second m → to_first ≡ i * (c - n) → gap_first ≡ i * n → to_second ≡ i * (c - n) + j → gap_second ≡ i * n + n → m ≡ c - n - j → ClosedUp rows (i + 1) zs
    closed_more i rows xs ys zs to_first gap_first to_second gap_second m w within h closed one two e1 e2 e3 e4 e5 =
        let done : List A = joined (map shorter (take i rows)) in
        let row : List A = get_or rows i [] in
        let rest : List A = joined (drop (i + 1) rows) in
        let long : length row ≡ c = row_long c rows i w h in
        let done_long : length done ≡ i * (c - n) = length-shorter rows i w within (omega (arith, h)) in
        let front : List A = take j row in
        let out : List A = take n (drop j row) in
        let tail : List A = drop (j + n) row in
        let front_long : length front ≡ j = length-take-le j row (omega (arith, long, within)) in
        let out_long : length out ≡ n = length-take-le n (drop j row) (omega (arith, length-drop j row, long, within)) in
        let tail_long : length tail ≡ m = length-drop (j + n) row ∙ omega (arith, long, e5) in
        let parts : row ≡ front ++ (out ++ tail) = sym (take-append-drop j row) ∙ ap (λ ys. front ++ ys) (sym (take-append-drop n (drop j row)) ∙ ap (λ ys. out ++ ys) (drop-drop n j row)) in
        let start : xs ≡ done ++ (closed.gap ++ (front ++ (out ++ (tail ++ rest)))) =
        closed.is ∙ ap (λ ys. done ++ (closed.gap ++ ys)) (next_row rows i h ∙ ap (λ ys. ys ++ rest) parts ∙ append_assoc front (out ++ tail) rest ∙ ap (λ ys. front ++ ys) (append_assoc out tail rest)) in
        let first = one.is done closed.gap front (out ++ (tail ++ rest)) start (done_long ∙ sym e1) (closed.many ∙ sym e2) front_long in
        let gap : List A = first.moved ++ out in
        let gap_long : length gap ≡ gap_second = length-append first.moved out ∙ omega (arith, length_permutation closed.gap first.moved first.same, closed.many, out_long, e4) in
        let apart : ys ≡ (done ++ front) ++ (gap ++ (tail ++ rest)) =
        first.is ∙ sym (append_assoc done front (first.moved ++ (out ++ (tail ++ rest)))) ∙ ap (λ us. (done ++ front) ++ us) (sym (append_assoc first.moved out (tail ++ rest))) in
        let second = two.is (done ++ front) gap tail rest apart (length-append done front ∙ omega (arith, done_long, front_long, e3)) gap_long tail_long in
        let grown : joined (map shorter (take (i + 1) rows)) ≡ done ++ shorter row = ap joined (map_more shorter rows i [] h) ∙ joined-push (map shorter (take i rows)) (shorter row) in
        record {
          gap = second.moved;
          many = length_permutation gap second.moved second.same ∙ gap_long ∙ e4 ∙ sym (add-mul i 1 n ∙ omega arith);
          is = second.is ∙ sym (append_assoc (done ++ front) tail (second.moved ++ rest)) ∙ ap (λ us. us ++ (second.moved ++ rest)) (append_assoc done front tail ∙ sym grown);
        }

    pub closed_all : (i : ℕ) (rows : List (List A)) (cells : List A) (m : ℕ) → AreWide c rows → j + n ≤ c → length rows ≡ i → ClosedUp rows i cells → m ≡ i * (c - n) → take m cells ≡ joined (map shorter rows)
    closed_all i rows cells m w within h closed e = grind (arith, common_steps, take_at, length-shorter, take_all)

    -- where these are the last ones, the first ones stay
    pub shorter-last : (rows : List (List A)) → AreWide c rows → c ≡ j + n → map shorter rows ≡ map (λ (row : List A). take j row) rows
    shorter-last [] w e = refl
    shorter-last (row ∷ rows) w e = ap₂ (λ x xs. x ∷ xs) (ap (λ ys. take j row ++ ys) (drop_all (j + n) row (omega (arith, w.0, e))) ∙ append-nil (take j row)) (shorter-last rows w.1 e)
