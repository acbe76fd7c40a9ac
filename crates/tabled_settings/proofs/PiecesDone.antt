-- The texts of lines that are pieces.
use Rattle.std.proofs.lemmas.Grind.{common_steps}
use Rattle.tabled_settings.proofs.Common.{[], ◌*◌, ◌+◌, ◌-◌, ◌<◌, ◌∙◌, ◌≡◌, ◌≢◌, ◌≤◌, ◌⊎◌, Axis, Bool, Clean, Columns, ComesFrom, Display, Grid, IsCut, IsEven, IsEven-map_grid, IsInside, IsStrictlyIncreasing, IsStrictlyIncreasing-filter, KeepsLines, List, None, Option, Retain, Rows, Some, Split, across, ap, ap₂, arith, cases_lt, cell_at, cell_at-map_grid, cell_at-map_grid_some, clean_split, cond, count_along, count_of, div_ceil, enough_pieces, eqb, false, filter, get_or, get_or-range_with_len, get_or_default, has_pieces, has_text, inl, inr, inside_of, is_text, staying_pieces, length, length-range_with_len, line_cells, list_any, lt-ltb, ltb-true, map_grid, min, ne_eqb, nth_piece, option_map, oriented, piece_at, piece_line, place_in, range_with_len, refl, some_pieces, source, split, staying, stays, stays_at, subst, sym, true, unwrap_or, unwrap_or-slice_get, ℕ}
use Rattle.std.proofs.lemmas.List.Folds.{list_any_at, list_any_none}
use Rattle.tabled_grid.specs.declared.records.pieces.LinePieces.{LinePieces}
use Rattle.tabled_settings.proofs.LineReads.{counted}
use Rattle.tabled_settings.proofs.SameCells.{none_outside}
use Rattle.tabled_settings.proofs.PieceReads.{all_retained, at_line, filter_below, filter_some, first_number, length-piece, piece_text, pieces_are, some_inside, turned_cell, turned_columns, turned_even, turned_rows}
use Rattle.tabled_settings.proofs.RisingLists.{range_rises}
use Rattle.tabled_settings.proofs.Rotated.{as_wide}

pub map_count : {A B : Type 0} (f : A → B) (axis : Axis) (g : Grid A) → count_along axis (map_grid f g) ≡ count_along axis g
map_count f Rows g = refl
map_count f Columns g = refl

pub lines_counted : {A : Type 0} (axis : Axis) (g : Grid A) (n rows columns : ℕ) → n ≡ count_of axis rows columns → rows ≡ g.rows → columns ≡ g.columns → n ≡ count_along axis g
lines_counted axis g n rows columns n_is rows_are columns_are = n_is ∙ ap₂ (count_of axis) rows_are columns_are ∙ counted axis g

-- where there are pieces, there are lines, and they are longer than a piece, which has cells
pub pieces_need : (s : Split) (g : Grid (List ℕ)) → has_pieces s g.rows g.columns ≡ true → (0 < count_along s.lines g) × (0 < s.index) × (s.index < count_along (across s.lines) g)
pieces_need s g e = grind (arith, common_steps, ltb-true, counted)

pub past_line : {A : Type 0} (axis : Axis) (g : Grid A) (i j : ℕ) → IsEven g → count_along (across axis) g ≤ j → cell_at g (place_in axis i j) ≡ None
past_line Rows g i j even h = none_outside g i j even (inr h)
past_line Columns g i j even h = none_outside g j i even (inl h)

-- n lines of a width, which are longer than a piece
pub record CanBeCut {A : Type 0} (s : Split) (lines width : ℕ) (g : Grid A) : Type 0 where
  pub even : IsEven g
  pub count : lines ≡ count_along s.lines g
  pub wide : width ≡ count_along (across s.lines) g
  pub some : 0 < lines
  pub index : 0 < s.index
  pub narrow : s.index < width

pub can_be_cut : {A : Type 0} (t : LinePieces) (g : Grid A) → IsEven g → t.lines ≡ count_along t.axis g → t.width ≡ count_along (across t.axis) g → CanBeCut (clean_split t) t.lines t.width g
can_be_cut t g even count wide = record { even = even; count = count; wide = wide; some = t.some; index = t.some_cells; narrow = t.narrow }

module _ {A : Type 0} (text_of : A → List ℕ) (s : Split) (lines width : ℕ) (g : Grid A) (can : CanBeCut s lines width g) where
  abbrev pieces : ℕ
  pieces = div_ceil width s.index

  abbrev texts : Grid (List ℕ)
  texts = map_grid text_of g

  abbrev rows : List (List (List ℕ))
  rows = (oriented s.lines texts).cells

  texts_even : IsEven texts
  texts_even = IsEven-map_grid text_of g can.even

  texts_lines : count_along s.lines texts ≡ lines
  texts_lines = map_count text_of s.lines g ∙ sym can.count

  texts_width : count_along (across s.lines) texts ≡ width
  texts_width = map_count text_of (across s.lines) g ∙ sym can.wide

  long : length rows ≡ lines
  long = (turned_even s.lines texts texts_even (omega (arith, can.some, texts_lines))).tall ∙ turned_rows s.lines texts ∙ texts_lines

  any : 0 < pieces
  any = some_pieces pieces s.index width (omega (arith, can.narrow)) (enough_pieces pieces s.index width can.index refl)

  piece_read : (t b : ℕ) → b < s.index → get_or (piece_at s pieces rows t) b [] ≡ unwrap_or (cell_at texts (source s.lines s.behavior s.index lines pieces t b)) []
  piece_read t b k =
      let none : List ℕ = [] in
      let number : ℕ = (nth_piece s.behavior (length rows) pieces t).1 in
      let from : ℕ = (nth_piece s.behavior (length rows) pieces t).0 in
      piece_text s.index number b (get_or rows from []) k
      ∙ sym (unwrap_or-slice_get (get_or rows from []) (number * s.index + b) none)
      ∙ ap (λ (o : Option (List ℕ)). unwrap_or o none) (turned_cell s.lines texts from (number * s.index + b) texts_even)
      ∙ ap (λ (m : ℕ). unwrap_or (cell_at texts (source s.lines s.behavior s.index m pieces t b)) none) long

  -- the pieces that stay, by number
  pub staying_is : staying_pieces s (oriented s.lines texts) ≡ filter (stays_at s pieces rows) (range_with_len 0 (lines * pieces))
  staying_is = grind (arith, common_steps, turned_columns, texts_lines, texts_width, long)

  pub staying_rising : IsStrictlyIncreasing (staying_pieces s (oriented s.lines texts))
  staying_rising = subst IsStrictlyIncreasing (sym staying_is) (IsStrictlyIncreasing-filter (stays_at s pieces rows) (range_with_len 0 (lines * pieces)) (range_rises 0 (lines * pieces)))

  pub staying_below : (a : ℕ) → a < length (staying_pieces s (oriented s.lines texts)) → get_or (staying_pieces s (oriented s.lines texts)) a 0 < lines * pieces
  staying_below = subst (λ (ts : List ℕ). (a : ℕ) → a < length ts → get_or ts a 0 < lines * pieces) (sym staying_is) (filter_below (stays_at s pieces rows) (lines * pieces))

  -- where the first pieces of all lines stay, and of the others those with a text
  module _ (clean : s.display ≡ Clean) (t : ℕ) where
    abbrev number : ℕ
    number = (nth_piece s.behavior lines pieces t).1

    abbrev start : ℕ
    start = (nth_piece s.behavior lines pieces t).1 * s.index

    abbrev text_at : ℕ → Bool
    text_at j = has_text texts (place_in s.lines (nth_piece s.behavior lines pieces t).0 j)

    cleaned : (d : Display) (k : ℕ) (texts : List (List ℕ)) → d ≡ Clean → stays d k texts ≡ cond (eqb k 0) true (list_any is_text texts)
    cleaned d k texts is = rw is refl

    told : stays_at s pieces rows t ≡ cond (eqb number 0) true (list_any is_text (piece_at s pieces rows t))
    told = grind (arith, common_steps, cleaned, long)

    wide : length (piece_at s pieces rows t) ≡ s.index
    wide = length-piece s.index (nth_piece s.behavior (length rows) pieces t).1 (get_or rows (nth_piece s.behavior (length rows) pieces t).0 [])

    pub first_stays : number ≡ 0 → stays_at s pieces rows t ≡ true
    first_stays e = told ∙ ap (λ (k : ℕ). cond (eqb k 0) true (list_any is_text (piece_at s pieces rows t))) e

    text_stays : (j : ℕ) → start ≤ j → j < start + s.index → text_at j ≡ true → stays_at s pieces rows t ≡ true
    text_stays j from to has = told ∙ ap (λ (b : Bool). cond (eqb number 0) true b) found ∙ either_true (eqb number 0)
      where
        either_true : (b : Bool) → cond b true true ≡ true
        either_true true = refl
        either_true false = refl

        at : start + (j - start) ≡ j
        at = omega (arith, from)

        found : list_any is_text (piece_at s pieces rows t) ≡ true
        found =
            let none : List ℕ = [] in
            let b : ℕ = j - start in
            let b_in : b < s.index = omega (arith, from, to) in
            list_any_at is_text (piece_at s pieces rows t) b none (omega (arith, wide, b_in))
            (ap is_text (piece_read t b b_in) ∙ ap (λ (j : ℕ). text_at j) at ∙ has)

    others_go : number ≢ 0 → ((j : ℕ) → start ≤ j → j < start + s.index → j < width → text_at j ≡ false) → stays_at s pieces rows t ≡ false
    others_go later none = told ∙ ap₂ (λ (b c : Bool). cond b true c) (ne_eqb number 0 later) (list_any_none is_text (piece_at s pieces rows t) (λ b d h. each b d (omega (arith, h, wide))))
      where
        past : (b : ℕ) → width ≤ start + b → text_at (start + b) ≡ false
        past b h =
            let no_text : List ℕ = [] in
            ap (λ (o : Option (List ℕ)). is_text (unwrap_or o no_text)) (past_line s.lines texts (nth_piece s.behavior lines pieces t).0 (start + b) texts_even (omega (arith, texts_width, h)))

        text_free : (b : ℕ) → b < s.index → ((start + b) < width) ⊎ (width ≤ (start + b)) →
            text_at (start + b) ≡ false
        text_free b h (inl below) = none (start + b) (omega arith) (omega (arith, h)) below
        text_free b h (inr h2) = past b h2

        each : (b : ℕ) (d : List ℕ) → b < s.index → is_text (get_or (piece_at s pieces rows t) b d) ≡ false
        each b d h =
            ap is_text (get_or_default (piece_at s pieces rows t) b d [] (omega (arith, h, wide)) ∙ piece_read t b h)
            ∙ text_free b h (cases_lt (start + b) width)

    pub others_stay : (found : Bool) (n : ℕ) → number ≢ 0 → n ≡ min s.index (width - start) → (found ≡ true → (j : ℕ) × (start ≤ j) × (j < start + n) × (text_at j ≡ true)) → (found ≡ false → (j : ℕ) → start ≤ j → j < start + n → text_at j ≡ false) → found ≡ stays_at s pieces rows t
    others_stay true n later e has none = let h = has refl in sym (text_stays h.0 h.1 (omega (arith, h.2, e)) h.3)
    others_stay false n later e has none = sym (others_go later (λ j from to below. none refl j from (omega (arith, e, to, below))))

  pub has : has_pieces s texts.rows texts.columns ≡ true
  has = rw (counted s.lines texts, counted (across s.lines) texts, texts_lines, texts_width, lt-ltb 0 lines can.some, lt-ltb 0 s.index can.index, lt-ltb s.index width can.narrow) refl

  staying_all : staying s pieces rows ≡ filter (stays_at s pieces rows) (range_with_len 0 (lines * pieces))
  staying_all = ap (λ (n : ℕ). filter (stays_at s pieces rows) (range_with_len 0 (n * pieces))) long

  all_stay : s.display ≡ Retain → staying s pieces rows ≡ range_with_len 0 (lines * pieces)
  all_stay e = all_retained s pieces rows e ∙ ap (λ (n : ℕ). range_with_len 0 (n * pieces)) long

  module _ (is_blank : A → Type 0) (blank_empty : (c : A) → is_blank c → text_of c ≡ []) (mid : Grid A) (cut : IsCut is_blank s.lines s.behavior s.index lines width g mid) where
    mid_text : (t b : ℕ) → t < lines * pieces → b < s.index → cell_at (map_grid text_of mid) (place_in s.lines t b) ≡ Some (get_or (piece_at s pieces rows t) b [])
    mid_text t b h k = text_read (cases_lt j width) ∙ ap Some (sym (piece_read t b k))
      where
        j : ℕ
        j = (nth_piece s.behavior lines pieces t).1 * s.index + b

        comes : ComesFrom is_blank g mid (source s.lines s.behavior s.index lines pieces t b) (place_in s.lines t b) ((nth_piece s.behavior lines pieces t).1 * s.index + b) width
        comes = cut.cells t b h k

        text_read : (((nth_piece s.behavior lines pieces t).1 * s.index + b) < width) ⊎ (width ≤ ((nth_piece s.behavior lines pieces t).1 * s.index + b)) → cell_at (map_grid text_of mid) (place_in s.lines t b) ≡ Some (unwrap_or (cell_at texts (source s.lines s.behavior s.index lines pieces t b)) [])
        text_read (inl below) =
            let none : List ℕ = [] in
            let at : IsInside texts (source s.lines s.behavior s.index lines pieces t b) = inside_of s.lines texts (nth_piece s.behavior lines pieces t).0 ((nth_piece s.behavior lines pieces t).1 * s.index + b) (omega (arith, texts_lines, piece_line s.behavior lines pieces t can.some any h)) (omega (arith, texts_width, below)) in
            cell_at-map_grid text_of mid (place_in s.lines t b)
            ∙ ap (option_map text_of) (comes.cell below)
            ∙ sym (cell_at-map_grid text_of g (source s.lines s.behavior s.index lines pieces t b))
            ∙ some_inside texts (source s.lines s.behavior s.index lines pieces t b) none texts_even at
        text_read (inr past) =
            let none : List ℕ = [] in
            let c = comes.blank past in
            cell_at-map_grid_some text_of mid (place_in s.lines t b) c.0 c.2
            ∙ ap Some (blank_empty c.0 c.1 ∙ ap (λ (o : Option (List ℕ)). unwrap_or o none) (sym (past_line s.lines texts (nth_piece s.behavior lines pieces t).0 ((nth_piece s.behavior lines pieces t).1 * s.index + b) texts_even (omega (arith, texts_width, past)))))

    made : (new : Grid A) (ts : List ℕ) → ts ≡ staying s pieces rows → IsEven new → count_along s.lines new ≡ length ts → count_along (across s.lines) new ≡ s.index →
        ((a b : ℕ) → a < length ts → b < s.index → (cell_at new (place_in s.lines a b) ≡ cell_at mid (place_in s.lines (get_or ts a 0) b)) × (get_or ts a 0 < lines * pieces)) → map_grid text_of new ≡ split s texts
    made new ts are new_even count wide each =
        pieces_are s texts (map_grid text_of new) pieces texts_even (IsEven-map_grid text_of new new_even) (omega (arith, can.some, texts_lines)) can.index (ap (λ (n : ℕ). div_ceil n s.index) (sym texts_width))
        (map_count text_of s.lines new ∙ count ∙ ap length are) (map_count text_of (across s.lines) new ∙ wide)
        (subst (λ (ts : List ℕ). (a b : ℕ) → a < length ts → b < s.index → cell_at (map_grid text_of new) (place_in s.lines a b) ≡ Some (get_or (piece_at s pieces rows (get_or ts a 0)) b [])) are
        (λ a b h k.
        let from = each a b h k in
        cell_at-map_grid text_of new (place_in s.lines a b)
        ∙ ap (option_map text_of) from.0
        ∙ sym (cell_at-map_grid text_of mid (place_in s.lines (get_or ts a 0) b))
        ∙ mid_text (get_or ts a 0) b from.1 k))
        ∙ sym (chosen (has_pieces s texts.rows texts.columns) has)
      where
        chosen : (b : Bool) → b ≡ true → cond b (oriented s.lines (Rattle.tabled_settings.specs.Pieces.cut_rows s (oriented s.lines texts))) texts ≡ oriented s.lines (Rattle.tabled_settings.specs.Pieces.cut_rows s (oriented s.lines texts))
        chosen b e = rw e refl

    pub retained_done : s.display ≡ Retain → map_grid text_of mid ≡ split s texts
    retained_done e =
        made mid (range_with_len 0 (lines * pieces)) (sym (all_stay e)) cut.even (cut.count ∙ sym (length-range_with_len 0 (lines * pieces))) cut.wide
        (λ a b h k.
        let below : a < lines * pieces = omega (arith, h, length-range_with_len 0 (lines * pieces)) in
        let read = get_or-range_with_len 0 (lines * pieces) a 0 below in
        let at : get_or (range_with_len 0 (lines * pieces)) a 0 ≡ a = omega (arith, read) in
        (ap (λ (m : ℕ). cell_at mid (place_in s.lines m b)) (sym at), omega (arith, at, below)))

    module _ (new : Grid A) (kept : List ℕ) (are : kept ≡ staying_pieces s (oriented s.lines texts)) (clean : s.display ≡ Clean) (k : KeepsLines s.lines kept mid new) where
      all_kept : kept ≡ filter (stays_at s pieces rows) (range_with_len 0 (lines * pieces))
      all_kept = are ∙ staying_is

      pub clean_counts : (count_along s.lines new ≡ length kept) × (count_along (across s.lines) new ≡ count_along (across s.lines) mid)
      clean_counts = grind (arith, common_steps, any, filter_some, first_stays, first_number, all_kept, as_wide)

      below : (a : ℕ) → a < length kept → get_or kept a 0 < lines * pieces
      below = subst (λ (ts : List ℕ). (a : ℕ) → a < length ts → get_or ts a 0 < lines * pieces) (sym are) staying_below

      pub clean_lines : (a : ℕ) → a < length kept → (line_cells s.lines new a ≡ line_cells s.lines mid (get_or kept a 0)) × (get_or kept a 0 < count_along s.lines mid)
      clean_lines a h = (k.each a h, omega (arith, below a h, cut.count))

      pub clean_done : map_grid text_of new ≡ split s texts
      clean_done = grind (arith, common_steps, made, all_kept, staying_all, clean_counts, at_line, below)
