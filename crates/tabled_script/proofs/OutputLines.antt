-- Lines of words, piece by piece.
use Rattle.tabled_script.proofs.Common.{[], ◌++◌, ◌+◌, ◌<◌, ◌^◌, ◌∷◌, ◌≡◌, ◌≤◌, List, Vec, all_ascii_digits, and_parts, ap, arith, codes, decimal, digits_decimal, escaped, escaped_byte, flat_map, flat_map-append, get_or, grid_of, join_with_byte, leb-true, length, line, map, map_grid, map_items, nat_le, ne_eqb, refl, sym, table_lines, take, take_more, true, width_of, ℕ}
use Rattle.std.specs.Char.{is_ascii_digit}
use Rattle.std.proofs.lemmas.List.{append-nil, append_assoc}
use Rattle.std.proofs.lemmas.List.Folds.{flat_map-map}
use Rattle.tabled_language.proofs.Numbers.{numerals}

-- after the first list, each list with the byte before it
pub join_with_byte-cons : (c : ℕ) (xs : List ℕ) (xss : List (List ℕ)) → join_with_byte c (xs ∷ xss) ≡ xs ++ flat_map (λ ys. c ∷ ys) xss
join_with_byte-cons c xs [] = sym (append-nil xs)
join_with_byte-cons c xs (ys ∷ yss) = ap (λ bs. xs ++ c ∷ bs) (join_with_byte-cons c ys yss)

-- a line: its first word, each other word after a tab, and a newline
pub line-pieces : {A : Type 0} (text_of : A → List ℕ) (first : List ℕ) (xs : List A) → line (first ∷ map text_of xs) ≡ (escaped first ++ flat_map (λ x. 9 ∷ escaped (text_of x)) xs) ++ 10 ∷ []
line-pieces text_of first xs = rw (join_with_byte-cons 9 (escaped first) (map escaped (map text_of xs)), flat_map-map (λ ys. 9 ∷ ys) escaped (map text_of xs), flat_map-map (λ ys. 9 ∷ escaped ys) text_of xs) refl

-- a table's shape, and the lines of its rows
pub table_lines-pieces : {A : Type 0} (text_of : A → List ℕ) (rows : List (Vec A)) → table_lines (map_grid text_of (grid_of (map_items rows))) ≡ line (codes "shape" ∷ decimal (length (map_items rows)) ∷ decimal (width_of (map_items rows)) ∷ []) ++ flat_map (λ (row : Vec A). line (codes "row" ∷ map text_of row.items)) rows
table_lines-pieces {A} text_of rows = rw (flat_map-map (λ row. line (codes "row" ∷ row)) (map text_of) (map_items rows), flat_map-map (λ row. line (codes "row" ∷ map text_of row)) (λ (row : Vec A). row.items) rows) refl

-- one more thing's line after those of the things before it
pub pushed_last : {A : Type 0} (line_of : A → List ℕ) (before : List ℕ) (xs : List A) (x : A) → (before ++ flat_map line_of xs) ++ line_of x ≡ before ++ flat_map line_of (xs ++ x ∷ [])
pushed_last line_of before xs x = rw (flat_map-append line_of xs (x ∷ []), append-nil (line_of x)) (append_assoc before (flat_map line_of xs) (line_of x))

-- the line of the thing at an index after those of the things before it
pub pushed_more : {A : Type 0} (line_of : A → List ℕ) (before out : List ℕ) (xs : List A) (i : ℕ) (x : A) → i < length xs → x ≡ get_or xs i x → out ≡ before ++ flat_map line_of (take i xs) → out ++ line_of x ≡ before ++ flat_map line_of (take (i + 1) xs)
pushed_more line_of before out xs i x here is read = rw (take_more xs i x here, ← is, read) (pushed_last line_of before (take i xs) x)

-- a digit stands as it is in a word
digit_stays : (b : ℕ) → is_ascii_digit b ≡ true → escaped_byte b ≡ b ∷ []
digit_stays b digit =
    let parts = and_parts (nat_le 48 b) (nat_le b 57) digit in
    let low : 48 ≤ b = leb-true 48 b parts.0 in
    let high : b ≤ 57 = leb-true b 57 parts.1 in
    rw (ne_eqb b 9 (λ e. omega (arith, low, e)), ne_eqb b 10 (λ e. omega (arith, low, e)), ne_eqb b 92 (λ e. omega (arith, high, e))) refl

digits_stay : (bs : List ℕ) → all_ascii_digits bs ≡ true → escaped bs ≡ bs
digits_stay [] all = refl
digits_stay (b ∷ bs) all =
    let parts = and_parts (is_ascii_digit b) (all_ascii_digits bs) all in
    rw (digit_stays b parts.0, digits_stay bs parts.1) refl

-- a number stands as it is in a word
pub escaped-decimal : (n : ℕ) → n < 2 ^ 64 → escaped (decimal n) ≡ decimal n
escaped-decimal n fits = digits_stay (decimal n) (digits_decimal numerals n fits)
