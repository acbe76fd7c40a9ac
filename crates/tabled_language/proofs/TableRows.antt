-- Rows of a table, taken from a list of texts.
use Rattle.tabled_language.proofs.Common.{[], ◌*◌, ◌++◌, ◌+◌, ◌<◌, ◌∙◌, ◌∷◌, ◌≡◌, ◌≤◌, AreWide, Bool, EndsEarly, Err, Faulty, Grid, IsEven, List, NumberRange, Ok, OutOfMemory, Read, LineError, Reading, ap, ap₂, arith, cond, drop, drop-drop, drop_more, eqb, eqb-false, even-width, fails, false, first_word, get_or, gives, grid_of, le-leb, length, length-drop, length-map, length-map-range_with_len, map, map-append, map-range_with_len_more, map_grid, mul-le-mul_right, or_right, range_with_len, reads_positive_number, reads_number, reads_rows, reads_table, reads_text, refl, rows_of_texts, same_grid, suc, sym, take, take_more, true, wide-map, width_of, zero, ℕ}
use Rattle.std.proofs.lemmas.List.{length-take}

abbrev row_at : ℕ → List (List ℕ) → ℕ → List (List ℕ)
row_at columns texts i = take columns (drop (i * columns) texts)

-- there is room for one row more
pub row_left : (columns rows i : ℕ) (texts : List (List ℕ)) → i < rows → rows * columns ≤ length texts → columns ≤ length (drop (i * columns) texts)
row_left columns rows i texts below fits =
    let row : (i + 1) * columns ≤ rows * columns = mul-le-mul_right columns (omega (arith, below)) in
    omega (arith, row, fits, length-drop (i * columns) texts)

-- one row more
pub rows_more : {A : Type 0} (view : A → List (List ℕ)) (columns i : ℕ) (texts : List (List ℕ)) (rows : List A) (row : A) → map view rows ≡ map (row_at columns texts) (range_with_len 0 i) → view row ≡ take columns (drop (i * columns) texts) → map view (rows ++ row ∷ []) ≡ map (row_at columns texts) (range_with_len 0 (i + 1))
rows_more view columns i texts rows row before is = map-append view rows (row ∷ []) ∙ ap₂ (λ (xs : List (List (List ℕ))) (y : List (List ℕ)). xs ++ y ∷ []) before is ∙ sym (map-range_with_len_more (row_at columns texts) 0 i i (omega arith))

-- the texts after one row more
pub left_more : (columns i : ℕ) (texts : List (List ℕ)) → drop columns (drop (i * columns) texts) ≡ drop ((i + 1) * columns) texts
left_more columns i texts = drop-drop columns (i * columns) texts ∙ ap (λ n. drop n texts) (omega arith)

abbrev first : Read (List ℕ) → List ℕ
first (Ok read) = read.0
first (Err fault) = []

abbrev rest : Read (List ℕ) → List (List ℕ)
rest (Ok read) = read.1
rest (Err fault) = []

-- the word that was read, and those after it
pub word_read : (texts now : List (List ℕ)) (i : ℕ) (x : List ℕ) (new : List (List ℕ)) → now ≡ drop i texts → i < length texts → first_word now ≡ Ok (x, new) → (x ≡ get_or texts i []) × (new ≡ drop (i + 1) texts)
word_read texts now i x new is below told =
    let next : ◌≡◌ {A = Read (List ℕ)} (Ok (x, new)) (Ok (get_or texts i [], drop (i + 1) texts)) = sym told ∙ ap first_word (is ∙ drop_more texts i [] below) in
    (ap first next, ap rest next)

-- where a word is left, only memory can be wanted
pub only_memory : (texts now : List (List ℕ)) (i : ℕ) (error : LineError) → now ≡ drop i texts → i < length texts → EndsEarly reads_text now error → error ≡ OutOfMemory
only_memory texts now i OutOfMemory is below told = refl
only_memory texts now i (Faulty fault) is below told = cc (sym told ∙ ap first_word (is ∙ drop_more texts i [] below))

-- one text more of a row
pub row_more : {A : Type 0} (view : A → List ℕ) (texts : List (List ℕ)) (i : ℕ) (row : List A) (x : A) → i < length texts → map view row ≡ take i texts → view x ≡ get_or texts i [] → map view (row ++ x ∷ []) ≡ take (i + 1) texts
row_more view texts i row x below before is = map-append view row (x ∷ []) ∙ ap₂ (λ (xs : List (List ℕ)) (y : List ℕ). xs ++ y ∷ []) before is ∙ sym (take_more texts i [] below)

rows_wide : (columns : ℕ) (texts : List (List ℕ)) (i n : ℕ) → (i + n) * columns ≤ length texts → AreWide columns (map (row_at columns texts) (range_with_len i n))
rows_wide columns texts i zero fits = tt
rows_wide columns texts i (suc n) fits =
    let here : (i + 1) * columns ≤ (i + suc n) * columns = mul-le-mul_right columns (omega arith) in
    (omega (arith, here, fits, length-take columns (drop (i * columns) texts), length-drop (i * columns) texts), rows_wide columns texts (i + 1) n (omega (arith, fits)))

-- a grid of rows that have these texts
pub record HasRows {A : Type 0} (f : A → List ℕ) (rows columns : ℕ) (texts : List (List ℕ)) (cells : List (List A)) : Type 0 where
  pub even : IsEven (grid_of cells)
  pub texts_are : map_grid f (grid_of cells) ≡ rows_of_texts rows columns texts

pub has_rows : {A : Type 0} (f : A → List ℕ) (rows columns : ℕ) (texts : List (List ℕ)) (cells : List (List A)) → 0 < rows → rows * columns ≤ length texts → map (map f) cells ≡ (rows_of_texts rows columns texts).cells → HasRows f rows columns texts cells
has_rows {A} f rows columns texts cells some fits is =
    let wide : AreWide columns cells = wide-map f columns cells (rw is (rows_wide columns texts 0 rows (omega (arith, fits)))) in
    let tall : length cells ≡ rows = omega (arith, ap length is, length-map cells (map f), length-map-range_with_len (row_at columns texts) 0 rows) in
    let broad : width_of cells ≡ columns = width cells wide (omega (arith, tall, some)) in
    record { even = record { tall = refl; wide = even-width columns cells wide }; texts_are = same_grid _ _ _ _ _ _ tall broad is }
  where
    width : (cells : List (List A)) → AreWide columns cells → 0 < length cells → width_of cells ≡ columns
    width [] wide some = absurd (omega (arith, some))
    width (row ∷ cells) wide some = wide.0

abbrev number : Read ℕ → ℕ
number (Ok counted) = counted.0
number (Err fault) = 0

counted : (b : Bool) (m n : ℕ) (rest left : List (List ℕ)) → eqb m 0 ≡ b → (cond {A = Reading ℕ} b (fails NumberRange) (gives m)).reads rest ≡ Ok (n, left) → 0 < n
counted true m n rest left none e = let fails : ◌≡◌ {A = Read ℕ} (Err NumberRange) (Ok (n, left)) = e in cc
counted false m n rest left some e = let same : m ≡ n = ap number e in omega (arith, same, eqb-false m 0 some)

-- a positive number is at least 1
pub positive_number_some : (texts left : List (List ℕ)) (n : ℕ) → reads_positive_number.reads texts ≡ Ok (n, left) → 0 < n
positive_number_some texts left n is = some_if_read (reads_number.reads texts) refl
  where
    some_if_read : (r : Read ℕ) → reads_number.reads texts ≡ r → 0 < n
    some_if_read (Err fault) e = let fails = rw e at is in cc
    some_if_read (Ok (m, rest)) e = counted (eqb m 0) m n rest left refl (rw e at is)

-- a table that was read
pub table_read : (texts first second left : List (List ℕ)) (rows columns : ℕ) (g : Grid (List ℕ)) → reads_positive_number.reads texts ≡ Ok (rows, first) → reads_positive_number.reads first ≡ Ok (columns, second) → rows * columns ≤ length second → g ≡ rows_of_texts rows columns second → left ≡ drop (rows * columns) second → reads_table.reads texts ≡ Ok (g, left)
table_read texts first second left rows columns g a b fits is rest = rw (a, b, le-leb (rows * columns) (length second) fits, is, rest) refl

-- memory is asked for where there are words enough
pub table_asks : (texts first second : List (List ℕ)) (rows columns : ℕ) → reads_positive_number.reads texts ≡ Ok (rows, first) → reads_positive_number.reads first ≡ Ok (columns, second) → rows * columns ≤ length second → reads_table.asks texts ≡ true
table_asks texts first second rows columns a b fits =
    let behind : (reads_rows rows columns).asks second ≡ true = rw (le-leb (rows * columns) (length second) fits) refl in
    or_right (reads_positive_number.asks texts) _ (rw a (or_right (reads_positive_number.asks first) _ (rw b behind)))
