-- Lines that are written are read as what they say.
use Rattle.tabled_language.proofs.Common.{[], ◌&&◌, ◌++◌, ◌<◌, ◌^◌, ◌∙◌, ◌∷◌, ◌≡◌, ◌≢◌, ◌≤◌, ◌⊎◌, AllByRecursion, IsSpan, IsUtf8, IsUtf8-from_is_utf8, Line, List, NumberRange, Ok, Reading, RecordLine, Rectangle, ShapeLine, SpanLine, and_left, and_right, ap, arith, codes, cond, decimal, eqb, fails, false, gives, inl, inr, length, map, ne_eqb, place, reads_anchor, reads_positive_length, reads_shape, reads_length, refl, says_line, sized, tab_separated, then_reads, whole, ℕ, Size, if_span, reads_span_size, rectangle}
use Rattle.std.specs.Str.{chars, is_utf8}
use Rattle.tabled_language.proofs.BackToNumbers.{decimal-utf8, length_of-decimal}
use Rattle.tabled_language.proofs.BackToTexts.{texts_of-joined}
use Rattle.tabled_language.proofs.ScriptLines.{line_of-texts}

row_utf8 : IsUtf8 (codes "row")
unfolding is_utf8 chars lib.Utf8.encode
row_utf8 = IsUtf8-from_is_utf8 (codes "row") refl

shape_utf8 : IsUtf8 (codes "shape")
unfolding is_utf8 chars lib.Utf8.encode
shape_utf8 = IsUtf8-from_is_utf8 (codes "shape") refl

span_utf8 : IsUtf8 (codes "span")
unfolding is_utf8 chars lib.Utf8.encode
span_utf8 = IsUtf8-from_is_utf8 (codes "span") refl

row_some : (texts : List (List ℕ)) → length (tab_separated (codes "row" ∷ texts)) ≢ 0
row_some [] = omega arith
row_some (text ∷ texts) = omega arith

-- the line of a record
pub row_back : (texts : List (List ℕ)) → AllByRecursion IsUtf8 texts → says_line (tab_separated (codes "row" ∷ texts)) ≡ RecordLine texts
row_back texts utf8 = line_of-texts (tab_separated (codes "row" ∷ texts)) (codes "row" ∷ texts) (row_some texts) (texts_of-joined (codes "row") texts row_utf8 utf8)

-- the words of a shape
abbrev pub shape_words : ℕ → ℕ → List (List ℕ)
shape_words rows columns = decimal rows ∷ decimal columns ∷ []

pub shape_back : (rows columns : ℕ) → rows < 2 ^ 64 → columns < 2 ^ 64 → says_line (tab_separated (codes "shape" ∷ shape_words rows columns)) ≡ ShapeLine (Ok (rows, columns))
shape_back rows columns r c =
    let read : whole reads_shape (shape_words rows columns) ≡ Ok (rows, columns) = rw (length_of-decimal rows r, length_of-decimal columns c) refl in
    line_of-texts (tab_separated (codes "shape" ∷ shape_words rows columns)) (codes "shape" ∷ shape_words rows columns) (omega arith)
    (texts_of-joined (codes "shape") (shape_words rows columns) shape_utf8 (decimal-utf8 rows r, (decimal-utf8 columns c, tt)))
    ∙ ap ShapeLine read

-- the words of an anchor
abbrev pub span_words : Rectangle → List (List ℕ)
span_words e = decimal e.first.row ∷ decimal e.first.col ∷ decimal e.size.height ∷ decimal e.size.width ∷ []

-- each number of an anchor is one that may be
pub record IsSmall (e : Rectangle) : Type 0 where
  pub row : e.first.row < 2 ^ 64
  pub col : e.first.col < 2 ^ 64
  pub height : e.size.height < 2 ^ 64
  pub width : e.size.width < 2 ^ 64

pub not_one : (h w : ℕ) → (1 < h) ⊎ (1 < w) → (eqb h 1 && eqb w 1) ≡ false
not_one h w (inl more) = and_left (eqb h 1) (eqb w 1) (ne_eqb h 1 (λ one. omega (arith, more, one)))
not_one h w (inr more) = and_right (eqb h 1) (eqb w 1) (ne_eqb w 1 (λ one. omega (arith, more, one)))

-- one reading and then another, where the first is known
reads-next : {A B : Type 0} (first : Reading A) (next : A → Reading B) (texts left : List (List ℕ)) (x : A) → first.reads texts ≡ Ok (x, left) → (then_reads first next).reads texts ≡ (next x).reads left
reads-next first next texts left x is = rw is refl

whole-read : {A : Type 0} (reading : Reading A) (texts : List (List ℕ)) (x : A) → reading.reads texts ≡ Ok (x, []) → whole reading texts ≡ Ok x
whole-read reading texts x is = rw is refl

length_read : (n : ℕ) (texts : List (List ℕ)) → n < 2 ^ 64 → reads_length.reads (decimal n ∷ texts) ≡ Ok (n, texts)
length_read n texts small = rw (length_of-decimal n small) refl

positive_length_read : (n : ℕ) (texts : List (List ℕ)) → n < 2 ^ 64 → 1 ≤ n → reads_positive_length.reads (decimal n ∷ texts) ≡ Ok (n, texts)
positive_length_read n texts small some =
    let more : eqb n 0 ≡ false = ne_eqb n 0 (λ none. omega (arith, some, none)) in
    reads-next reads_length (λ (m : ℕ). cond (eqb m 0) (fails NumberRange) (gives m)) (decimal n ∷ texts) texts n (length_read n texts small) ∙ rw more refl

-- a height and a width of more than one cell
span_size_read : (size : Size) (texts : List (List ℕ)) → size.height < 2 ^ 64 → size.width < 2 ^ 64 → IsSpan size → reads_span_size.reads (decimal size.height ∷ decimal size.width ∷ texts) ≡ Ok (size, texts)
span_size_read size texts tall wide some =
    reads-next reads_positive_length (λ height. then_reads reads_positive_length (λ width. if_span (sized height width))) (decimal size.height ∷ decimal size.width ∷ texts) (decimal size.width ∷ texts) size.height (positive_length_read size.height (decimal size.width ∷ texts) tall some.height)
    ∙ reads-next reads_positive_length (λ width. if_span (sized size.height width)) (decimal size.width ∷ texts) texts size.width (positive_length_read size.width texts wide some.width)
    ∙ rw (not_one size.height size.width some.merges) refl

-- what is read after the row and the column of an anchor
abbrev behind_column : ℕ → ℕ → Reading Rectangle
behind_column row column = then_reads reads_span_size (λ size. gives (rectangle (place row column) size))

abbrev behind_row : ℕ → Reading Rectangle
behind_row row = then_reads reads_length (λ column. behind_column row column)

anchor_back : (e : Rectangle) → IsSmall e → IsSpan e.size → whole reads_anchor (span_words e) ≡ Ok e
anchor_back e small size =
    let sizes = decimal e.size.height ∷ decimal e.size.width ∷ [] in
    whole-read reads_anchor (span_words e) e
    (reads-next reads_length behind_row (span_words e) (decimal e.first.col ∷ sizes) e.first.row (length_read e.first.row (decimal e.first.col ∷ sizes) small.row)
    ∙ reads-next reads_length (λ column. behind_column e.first.row column) (decimal e.first.col ∷ sizes) sizes e.first.col (length_read e.first.col sizes small.col)
    ∙ reads-next reads_span_size (λ size. gives (rectangle (place e.first.row e.first.col) size)) sizes [] e.size (span_size_read e.size [] small.height small.width size))

pub span_back : (e : Rectangle) → IsSmall e → IsSpan e.size → says_line (tab_separated (codes "span" ∷ span_words e)) ≡ SpanLine (Ok e)
span_back e small size =
    line_of-texts (tab_separated (codes "span" ∷ span_words e)) (codes "span" ∷ span_words e) (omega arith)
    (texts_of-joined (codes "span") (span_words e) span_utf8 (decimal-utf8 e.first.row small.row, (decimal-utf8 e.first.col small.col, (decimal-utf8 e.size.height small.height, (decimal-utf8 e.size.width small.width, tt)))))
    ∙ ap SpanLine (anchor_back e small size)

-- lines of things, each of which says what it says
pub all_back : {A : Type 0} (texts_in : A → List (List ℕ)) (make : A → Line) (P : A → Type 0) → ((x : A) → P x → says_line (tab_separated (texts_in x)) ≡ make x) → (xs : List A) (lines : List (List ℕ)) → AllByRecursion P xs → map says_line (map (λ x. tab_separated (texts_in x)) xs ++ lines) ≡ map make xs ++ map says_line lines
all_back texts_in make P back [] lines all = refl
all_back texts_in make P back (x ∷ xs) lines all = rw (back x all.0, all_back texts_in make P back xs lines all.1) refl
