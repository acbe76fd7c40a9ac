-- The texts of the pieces that stay are those of all pieces, and each is kept as often as it was.
use Rattle.std.proofs.lemmas.Grind.{common_steps}
use Rattle.tabled_settings.proofs.Common.{[], ◌*◌, ◌++◌, ◌+◌, ◌<◌, ◌||◌, ◌∙◌, ◌∷◌, ◌≡◌, ◌≤◌, All-from_recursion, AllByRecursion, Bool, Clean, Concat, Display, Grid, IsEven, List, PieceOrder, Retain, Split, Zip, ap, arith, cases_Bool, cond, cut_rows, div_ceil, enough_pieces, false, filter, filter-append, get_or, has_pieces, inl, inr, is_text, joined, length, list_any, map, nth_piece, oriented, piece, piece_at, piece_index, range_with_len, refl, some_pieces, split, stays, sum_by, sym, texts_along, true, true≢false, ℕ}
use Rattle.std.specs.Prelude.{count_by}
use Rattle.tabled_settings.proofs.Glued.{turned_back_twice}
use Rattle.tabled_grid.proofs.PiecesPut.{piece_of}
use Rattle.tabled_settings.proofs.PieceReads.{cut_count, cut_even, filter_some, first_number, turned_columns, turned_even, turned_rows}
use Rattle.tabled_settings.proofs.PiecesDone.{pieces_need}
use Rattle.tabled_settings.proofs.Sums.{count_by-filter, sum_by-joined, sum_by-places, sum_by-range, sum_to, sum_to-alike, sum_to-blocks, sum_to-swap}

no_texts : (xs : List (List ℕ)) → list_any is_text xs ≡ false → filter is_text xs ≡ []
no_texts [] e = refl
no_texts (x ∷ xs) e = none_left (is_text x) refl (no_texts xs)
  where
    none_left : (b : Bool) → is_text x ≡ b → (list_any is_text xs ≡ false → filter is_text xs ≡ []) → filter is_text (x ∷ xs) ≡ []
    none_left true is rest = absurd (true≢false (ap (λ (b : Bool). b || list_any is_text xs) (sym is) ∙ e))
    none_left false is rest = rw is (rest (ap (λ (b : Bool). b || list_any is_text xs) (sym is) ∙ e))

-- pieces without a text add none
without_empty : (f : ℕ → List (List ℕ)) (p : ℕ → Bool) → ((t : ℕ) → p t ≡ false → list_any is_text (f t) ≡ false) → (ts : List ℕ) → filter is_text (joined (map f (filter p ts))) ≡ filter is_text (joined (map f ts))
without_empty f p none [] = refl
without_empty f p none (t ∷ ts) = one_piece_more (p t) refl (without_empty f p none ts)
  where
    one_piece_more : (b : Bool) → p t ≡ b → filter is_text (joined (map f (filter p ts))) ≡ filter is_text (joined (map f ts)) → filter is_text (joined (map f (filter p (t ∷ ts)))) ≡ filter is_text (joined (map f (t ∷ ts)))
    one_piece_more true e rest =
        rw e (filter-append is_text (f t) (joined (map f (filter p ts))) ∙ ap (λ (ys : List (List ℕ)). filter is_text (f t) ++ ys) rest ∙ sym (filter-append is_text (f t) (joined (map f ts))))
    one_piece_more false e rest =
        rw e (rest ∙ ap (λ (ys : List (List ℕ)). ys ++ filter is_text (joined (map f ts))) (sym (no_texts (f t) (none t e))) ∙ sym (filter-append is_text (f t) (joined (map f ts))))

gone : (d : Display) (k : ℕ) (texts : List (List ℕ)) → stays d k texts ≡ false → list_any is_text texts ≡ false
gone Retain k texts e = absurd (true≢false e)
gone Clean k texts e = grind (arith, common_steps)

first_stays : (d : Display) (k : ℕ) (texts : List (List ℕ)) → k ≡ 0 → stays d k texts ≡ true
first_stays Retain k texts e = refl
first_stays Clean k texts e = rw e refl

module _ (s : Split) (g : Grid (List ℕ)) where
  abbrev pieces : ℕ
  pieces = div_ceil g.columns s.index

  -- all pieces, in their order
  abbrev pub all_pieces : List (List (List ℕ))
  all_pieces = map (piece_at s pieces g.cells) (range_with_len 0 (length g.cells * pieces))

  all_texts : filter is_text (joined (cut_rows s g).cells) ≡ filter is_text (joined all_pieces)
  all_texts = grind (arith, common_steps, without_empty, gone)

  some_stay : 0 < length g.cells → 0 < pieces → 0 < (cut_rows s g).rows
  some_stay h k = grind (arith, common_steps, filter_some, first_stays, first_number, cut_count)

-- the texts of the result, along the lines, are those of all pieces
pub texts_of_pieces : (s : Split) (g : Grid (List ℕ)) → IsEven g → has_pieces s g.rows g.columns ≡ true → texts_along s.lines (split s g) ≡ filter is_text (joined (all_pieces s (oriented s.lines g)))
texts_of_pieces s g even e = grind (arith, common_steps, pieces_need, turned_even, turned_rows, turned_columns, some_pieces, enough_pieces, turned_back_twice, cut_even, some_stay, all_texts)

-- where there are no pieces, the texts are as they were
pub texts_uncut : (s : Split) (g : Grid (List ℕ)) → has_pieces s g.rows g.columns ≡ false → texts_along s.lines (split s g) ≡ texts_along s.lines g
texts_uncut s g e = ap (λ (b : Bool). texts_along s.lines (cond b (oriented s.lines (cut_rows s (oriented s.lines g))) g)) e

pub no_text_lost : (s : Split) (g : Grid (List ℕ)) → IsEven g → texts_along s.lines (split s g) ≡ texts_along s.lines (split (record s { display = Retain }) g)
no_text_lost s g even = elim (cases_Bool (has_pieces s g.rows g.columns)) [
  | inl e ↦ texts_of_pieces s g even e ∙ sym (texts_of_pieces (record s { display = Retain }) g even e)
  | inr e ↦ texts_uncut s g e ∙ sym (texts_uncut (record s { display = Retain }) g e)
]

-- a sum over all pieces goes over the lines, and in each over its pieces
sum_to-pieces : (o : PieceOrder) (lines pieces : ℕ) (f : ℕ → ℕ) → sum_to (lines * pieces) f ≡ sum_to lines (λ (i : ℕ). sum_to pieces (λ (k : ℕ). f (piece_index o lines pieces i k)))
sum_to-pieces Zip lines pieces f = sum_to-blocks lines pieces f
sum_to-pieces Concat lines pieces f =
    let turn : lines * pieces ≡ pieces * lines = omega arith in
    ap (λ (n : ℕ). sum_to n f) turn
    ∙ sum_to-blocks pieces lines f
    ∙ sum_to-swap pieces lines (λ (k i : ℕ). f (k * lines + i))

module _ (weight : List ℕ → ℕ) (light : weight [] ≡ 0) where
  pieces_of_line : (pieces n : ℕ) (texts : List (List ℕ)) → length texts ≤ pieces * n → sum_to pieces (λ (k : ℕ). sum_by weight (piece n k texts)) ≡ sum_by weight texts
  pieces_of_line pieces n texts enough =
      let none : List ℕ = [] in
      sum_to-alike pieces (λ (k : ℕ). sum_by weight (piece n k texts)) (λ (k : ℕ). sum_to n (λ (b : ℕ). weight (get_or texts (k * n + b) none))) (λ k l. sum_by-range weight n (λ (b : ℕ). get_or texts (k * n + b) none))
      ∙ sym (sum_to-blocks pieces n (λ (j : ℕ). weight (get_or texts j none)))
      ∙ sym (sum_by-places weight texts none (pieces * n) light enough)

  pieces_of_lines : (s : Split) (pieces width : ℕ) (rows : List (List (List ℕ))) → AllByRecursion (λ (row : List (List ℕ)). length row ≡ width) rows → width ≤ pieces * s.index →
      sum_by weight (joined (map (piece_at s pieces rows) (range_with_len 0 (length rows * pieces)))) ≡ sum_by weight (joined rows)
  pieces_of_lines s pieces width rows wide enough =
      let nothing : List (List ℕ) = [] in
      let weight_at : ℕ × ℕ → ℕ = λ (p : ℕ × ℕ). sum_by weight (piece s.index p.1 (get_or rows p.0 nothing)) in
      sum_by-joined weight (map (piece_at s pieces rows) (range_with_len 0 (length rows * pieces)))
      ∙ sum_by-range (sum_by weight) (length rows * pieces) (piece_at s pieces rows)
      ∙ sum_to-pieces s.behavior (length rows) pieces (λ (t : ℕ). weight_at (nth_piece s.behavior (length rows) pieces t))
      ∙ sum_to-alike (length rows) (λ (i : ℕ). sum_to pieces (λ (k : ℕ). weight_at (nth_piece s.behavior (length rows) pieces (piece_index s.behavior (length rows) pieces i k)))) (λ (i : ℕ). sum_by weight (get_or rows i nothing))
      (λ i h.
      let long : length (get_or rows i nothing) ≡ width = All-from_recursion _ rows wide i nothing h in
      sum_to-alike pieces (λ (k : ℕ). weight_at (nth_piece s.behavior (length rows) pieces (piece_index s.behavior (length rows) pieces i k))) (λ (k : ℕ). weight_at (i, k)) (λ k l. ap weight_at (piece_of s.behavior (length rows) pieces i k h l))
      ∙ pieces_of_line pieces s.index (get_or rows i nothing) (omega (arith, long, enough)))
      ∙ sym (sum_by-places (sum_by weight) rows nothing (length rows) refl (omega arith))
      ∙ sym (sum_by-joined weight rows)

-- 1 for a text that isn't empty and passes
abbrev counted_text : (List ℕ → Bool) → List ℕ → ℕ
counted_text p text = cond (is_text text) (cond (p text) 1 0) 0

pub each_as_often : (s : Split) (g : Grid (List ℕ)) (p : List ℕ → Bool) → IsEven g → count_by p (texts_along s.lines (split s g)) ≡ count_by p (texts_along s.lines g)
each_as_often s g p even = elim (cases_Bool (has_pieces s g.rows g.columns)) [
  | inl e ↦
      let need = pieces_need s g e in
      let lines : Grid (List ℕ) = oriented s.lines g in
      let enough : lines.columns ≤ div_ceil lines.columns s.index * s.index = enough_pieces (div_ceil lines.columns s.index) s.index lines.columns need.1 refl in
      ap (count_by p) (texts_of_pieces s g even e)
      ∙ weighs (joined (all_pieces s lines))
      ∙ pieces_of_lines (counted_text p) refl s (div_ceil lines.columns s.index) lines.columns lines.cells (turned_even s.lines g even need.0).wide enough
      ∙ sym (weighs (joined lines.cells))
  | inr e ↦ ap (count_by p) (texts_uncut s g e)
]
  where
    weighs : (texts : List (List ℕ)) → count_by p (filter is_text texts) ≡ sum_by (counted_text p) texts
    weighs texts = count_by-filter (counted_text p) p is_text (λ text. refl) texts
