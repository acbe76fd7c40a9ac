-- The cells of the lines of Markdown, as a reader parts them.
use Rattle.std.proofs.lemmas.List.{reverse-append, reverse-reverse}
use Rattle.std.specs.Char.{is_control, is_whitespace}
use Rattle.std.specs.Fmt.{decimal}
use Rattle.std.specs.Prelude.{chars, codes, reverse}
use Rattle.tabled_draw.proofs.Common.{Alignment, AllByRecursion, Bool, Grid, List, Position, Rectangle, Some, [], aligned, alignment_in, ap, append-nil, append_assoc, ap₂, arith, cond, each, eqb, false, get_or, indent, is_hidden_in, length, map, ne_eqb, place, refl, replicate, replicate-append-replicate, subst, suc, sym, text_of_cell, text_width, true, zero, ℕ, ◌&&◌, ◌++◌, ◌+◌, ◌-◌, ◌<◌, ◌||◌, ◌∙◌, ◌∷◌, ◌≡◌, ◌≤◌, false≢true}
use Rattle.std.proofs.lemmas.List.{map-append}
use Rattle.tabled_draw.proofs.Each.{each-same, get-singles, length-singles}
use Rattle.tabled_draw.specs.declared.alignment.Alignment.TheVariants.{Left, Center, Right}
use Rattle.tabled_draw.proofs.MarkdownRead.{digits-only, numbered-small, or-false, read-escaped}
use Rattle.tabled_draw.specs.Markdown.{cell_apart, dashes, dashes_line, escape, escaped, escaped_behind, is_mark, is_markup, is_numbered, lines_at, row_line}
use Rattle.tabled_draw.specs.MarkdownRead.{behind_blanks, cells_of, line_of_row, parts_behind, read_behind, read_cell, text_seen, trimmed}

-- ---- blanks at the ends

-- characters that begin with no blank
pub record BeginsInk (xs : List ℕ) : Type 0 where
  pub first : ℕ
  pub rest : List ℕ
  pub is : xs ≡ first ∷ rest
  pub ink : is_whitespace first ≡ false

skip-blanks : (n : ℕ) (xs : List ℕ) → behind_blanks (replicate n 32 ++ xs) ≡ behind_blanks xs
skip-blanks zero xs = refl
skip-blanks (suc n) xs = skip-blanks n xs

skip-none : (xs ys : List ℕ) → BeginsInk xs → behind_blanks (xs ++ ys) ≡ xs ++ ys
skip-none xs ys ink = ap (λ zs. behind_blanks (zs ++ ys)) ink.is ∙ rw ink.ink refl ∙ ap (λ zs. zs ++ ys) (sym ink.is)

reverse-blanks : (n : ℕ) → reverse {A = ℕ} (replicate n 32) ≡ replicate n 32
reverse-blanks zero = refl
reverse-blanks (suc n) = let one : List ℕ = 32 ∷ [] in reverse-append one (replicate n 32) ∙ ap (λ (xs : List ℕ). xs ++ one) (reverse-blanks n) ∙ replicate-append-replicate n 1 32 ∙ ap (λ k. replicate k 32) (let e : n + 1 ≡ suc n = omega arith in e)

-- blanks round characters that neither begin nor end with one
trimmed-ink : (n k : ℕ) (xs : List ℕ) → BeginsInk xs → BeginsInk (reverse xs) → trimmed (replicate n 32 ++ (xs ++ replicate k 32)) ≡ xs
trimmed-ink n k xs begins ends =
    ap (λ ys. reverse (behind_blanks (reverse ys))) (skip-blanks n (xs ++ replicate k 32) ∙ skip-none xs (replicate k 32) begins)
    ∙ ap (λ ys. reverse (behind_blanks ys)) (reverse-append xs (replicate k 32) ∙ ap (λ ys. ys ++ reverse xs) (reverse-blanks k))
    ∙ ap reverse (skip-blanks k (reverse xs) ∙ ap behind_blanks (sym (append-nil (reverse xs))) ∙ skip-none (reverse xs) [] ends ∙ append-nil (reverse xs))
    ∙ reverse-reverse xs

trimmed-none : (n k : ℕ) → trimmed (replicate n 32 ++ replicate k 32) ≡ []
trimmed-none n k = ap (λ ys. reverse (behind_blanks (reverse ys))) (skip-blanks n (replicate k 32) ∙ ap behind_blanks (sym (append-nil (replicate k 32))) ∙ skip-blanks k [])

-- ---- what stands for a character begins and ends with no blank, where it is the first or the last one

unnumbered-first : (c after : ℕ) → is_numbered 10 c after ≡ false → is_whitespace c ≡ false
unfolding is_numbered
unnumbered-first c after is = blank (is_control c) (is_whitespace c) is
  where
    blank : (k w : Bool) → (k || (w && true)) ≡ false → w ≡ false
    blank true w is = absurd (false≢true (sym is))
    blank false true is = is
    blank false false is = refl

unnumbered-last : (before c : ℕ) → is_numbered before c 10 ≡ false → is_whitespace c ≡ false
unfolding is_numbered
unnumbered-last before c is = blank (is_control c) (is_whitespace c) (is_whitespace before) is
  where
    blank : (k w b : Bool) → (k || (w && (b || true))) ≡ false → w ≡ false
    blank true w b is = absurd (false≢true (sym is))
    blank false true true is = is
    blank false true false is = is
    blank false false b is = refl

first-ink : (c after : ℕ) (rest : List ℕ) → BeginsInk (escape 10 c after ++ rest)
unfolding escape
first-ink c after rest = ink (eqb c 10) (eqb c 38) (eqb c 60) (is_numbered 10 c after) (is_markup 10 c after) refl
  where
    ink : (n a l r m : Bool) → is_numbered 10 c after ≡ r → BeginsInk (cond n (codes "<br>") (cond a (codes "&amp;") (cond l (codes "&lt;") (cond r (codes "&#" ++ (decimal c ++ codes ";")) (cond m (92 ∷ c ∷ []) (c ∷ []))))) ++ rest)
    ink true a l r m er = record { first = 60; rest = _; is = refl; ink = refl }
    ink false true l r m er = record { first = 38; rest = _; is = refl; ink = refl }
    ink false false true r m er = record { first = 38; rest = _; is = refl; ink = refl }
    ink false false false true m er = record { first = 38; rest = _; is = refl; ink = refl }
    ink false false false false true er = record { first = 92; rest = _; is = refl; ink = refl }
    ink false false false false false er = record { first = c; rest = _; is = refl; ink = unnumbered-first c after er }

last-ink : (before c : ℕ) → BeginsInk (reverse (escape before c 10))
unfolding escape
last-ink before c = ink (eqb c 10) (eqb c 38) (eqb c 60) (is_numbered before c 10) (is_markup before c 10) refl
  where
    ink : (n a l r m : Bool) → is_numbered before c 10 ≡ r → BeginsInk (reverse (cond n (codes "<br>") (cond a (codes "&amp;") (cond l (codes "&lt;") (cond r (codes "&#" ++ (decimal c ++ codes ";")) (cond m (92 ∷ c ∷ []) (c ∷ [])))))))
    ink true a l r m er = record { first = 62; rest = _; is = refl; ink = refl }
    ink false true l r m er = record { first = 59; rest = _; is = refl; ink = refl }
    ink false false true r m er = record { first = 59; rest = _; is = refl; ink = refl }
    ink false false false true m er = record { first = 59; rest = reverse (codes "&#" ++ decimal c); is = ap reverse (sym (append_assoc (codes "&#") (decimal c) (59 ∷ []))) ∙ reverse-append (codes "&#" ++ decimal c) (59 ∷ []); ink = refl }
    ink false false false false true er = record { first = c; rest = _; is = refl; ink = unnumbered-last before c er }
    ink false false false false false er = record { first = c; rest = _; is = refl; ink = unnumbered-last before c er }

ink-before : (xs ys : List ℕ) → BeginsInk xs → BeginsInk (xs ++ ys)
ink-before xs ys ink = record { first = ink.first; rest = ink.rest ++ ys; is = ap (λ zs. zs ++ ys) ink.is; ink = ink.ink }

ends-ink : (before c : ℕ) (cs : List ℕ) → BeginsInk (reverse (escaped_behind before (c ∷ cs)))
ends-ink before c [] = subst (λ xs. BeginsInk (reverse xs)) (sym (append-nil (escape before c 10))) (last-ink before c)
ends-ink before c (d ∷ ds) = subst BeginsInk (sym (reverse-append (escape before c d) (escaped_behind c (d ∷ ds)))) (ink-before _ (reverse (escape before c d)) (ends-ink c d ds))

trimmed-characters : (n k : ℕ) (cs : List ℕ) → trimmed (replicate n 32 ++ (escaped_behind 10 cs ++ replicate k 32)) ≡ escaped_behind 10 cs
trimmed-characters n k [] = trimmed-none n k
trimmed-characters n k (c ∷ cs) = trimmed-ink n k (escaped_behind 10 (c ∷ cs)) (first-ink c (get_or cs 0 10) (escaped_behind c cs)) (ends-ink 10 c cs)

-- the text of a cell, aligned, is read
pub read-aligned : (alignment : Alignment) (width : ℕ) (text : List ℕ) → read_cell (aligned alignment width (escaped text)) ≡ Some (chars text)
read-aligned alignment width text =
    let free = width - text_width (escaped text) in
    ap (read_behind 10 0) (trimmed-characters (indent alignment free + 1) (free - indent alignment free + 1) (chars text)) ∙ read-escaped text

pub read-none : (alignment : Alignment) (width : ℕ) → read_cell (aligned alignment width []) ≡ Some []
read-none alignment width =
    let free = width - text_width [] in
    ap (read_behind 10 0) (trimmed-none (indent alignment free + 1) (free - indent alignment free + 1))

-- ---- bars

-- characters in which no part ends
record IsUnparted (xs : List ℕ) : Type 0 where
  passes : (before : ℕ) (part rest : List ℕ) → (last : ℕ) × (parts_behind before part (xs ++ rest) ≡ parts_behind last (part ++ xs) rest)

unparted-none : IsUnparted []
unparted-none = record { passes = λ before part rest. (before, ap (λ p. parts_behind before p rest) (sym (append-nil part))) }

unparted-one : (c : ℕ) → eqb c 124 ≡ false → IsUnparted (c ∷ [])
unparted-one c other = record { passes = λ before part rest. (c, rw other refl) }

unparted-both : (xs ys : List ℕ) → IsUnparted xs → IsUnparted ys → IsUnparted (xs ++ ys)
unparted-both xs ys first second = record {
  passes = λ before part rest.
      let one = first.passes before part (ys ++ rest) in
      let two = second.passes one.0 (part ++ xs) rest in
      (two.0, ap (parts_behind before part) (append_assoc xs ys rest) ∙ one.1 ∙ two.1 ∙ ap (λ p. parts_behind two.0 p rest) (append_assoc part xs ys));
}

unparted-all : (xs : List ℕ) → AllByRecursion (λ c. eqb c 124 ≡ false) xs → IsUnparted xs
unparted-all [] all = unparted-none
unparted-all (c ∷ cs) all = unparted-both (c ∷ []) cs (unparted-one c all.0) (unparted-all cs all.1)

-- a bar behind a backslash ends no part
unparted-mark : (c : ℕ) → IsUnparted (92 ∷ c ∷ [])
unparted-mark c = record { passes = λ before part rest. (c, marked (eqb c 124) part rest) }
  where
    marked : (b : Bool) (part rest : List ℕ) → cond (b && false) ((part ++ (92 ∷ [])) ∷ parts_behind c [] rest) (parts_behind c ((part ++ (92 ∷ [])) ++ (c ∷ [])) rest) ≡ parts_behind c (part ++ (92 ∷ c ∷ [])) rest
    marked true part rest = ap (λ p. parts_behind c p rest) (append_assoc part (92 ∷ []) (c ∷ []))
    marked false part rest = ap (λ p. parts_behind c p rest) (append_assoc part (92 ∷ []) (c ∷ []))

digits-unparted : (ds : List ℕ) → AllByRecursion (λ d. (48 ≤ d) × (d ≤ 57)) ds → AllByRecursion (λ c. eqb c 124 ≡ false) ds
digits-unparted [] all = tt
digits-unparted (d ∷ ds) all = (ne_eqb d 124 (λ e. omega (arith, e, all.0.1)), digits-unparted ds all.1)

no-bar : (before c after : ℕ) → is_markup before c after ≡ false → eqb c 124 ≡ false
unfolding is_markup is_mark
no-bar before c after is = bar (eqb c 92) (eqb c 96) (eqb c 42) (eqb c 95) (eqb c 91) (eqb c 93) (eqb c 126) (eqb c 124) (or-false (is_mark c) _ is)
  where
    bar : (s t u v w x y z : Bool) → (s || (t || (u || (v || (w || (x || (y || z))))))) ≡ false → z ≡ false
    bar s t u v w x y z is = grind (arith)

unparted-escape : (before c after : ℕ) → IsUnparted (escape before c after)
unfolding escape
unparted-escape before c after = one (eqb c 10) (eqb c 38) (eqb c 60) (is_numbered before c after) (is_markup before c after) refl refl
  where
    one : (n a l r m : Bool) → is_numbered before c after ≡ r → is_markup before c after ≡ m → IsUnparted (cond n (codes "<br>") (cond a (codes "&amp;") (cond l (codes "&lt;") (cond r (codes "&#" ++ (decimal c ++ codes ";")) (cond m (92 ∷ c ∷ []) (c ∷ []))))))
    one true a l r m er em = unparted-all (codes "<br>") (refl, (refl, (refl, (refl, tt))))
    one false true l r m er em = unparted-all (codes "&amp;") (refl, (refl, (refl, (refl, (refl, tt)))))
    one false false true r m er em = unparted-all (codes "&lt;") (refl, (refl, (refl, (refl, tt))))
    one false false false true m er em = unparted-both (codes "&#") (decimal c ++ codes ";") (unparted-all (codes "&#") (refl, (refl, tt))) (unparted-both (decimal c) (codes ";") (unparted-all (decimal c) (digits-unparted (decimal c) (digits-only c (numbered-small before c after er)))) (unparted-all (codes ";") (refl, tt)))
    one false false false false true er em = unparted-mark c
    one false false false false false er em = unparted-one c (no-bar before c after em)

unparted-escaped : (cs : List ℕ) (before : ℕ) → IsUnparted (escaped_behind before cs)
unparted-escaped [] before = unparted-none
unparted-escaped (c ∷ cs) before = unparted-both (escape before c (get_or cs 0 10)) (escaped_behind c cs) (unparted-escape before c (get_or cs 0 10)) (unparted-escaped cs c)

-- ---- the cells of a line

-- characters in which no part ends, the last of which is neither a bar nor a backslash
record IsClosed (xs : List ℕ) : Type 0 where
  body : List ℕ
  last : ℕ
  is : xs ≡ body ++ (last ∷ [])
  unparted : IsUnparted body
  bar : eqb last 124 ≡ false
  backslash : eqb last 92 ≡ false

-- a bar behind them ends a part
closed-part : (xs rest : List ℕ) → IsClosed xs → parts_behind 124 [] (xs ++ (124 ∷ rest)) ≡ xs ∷ parts_behind 124 [] rest
closed-part xs rest closed =
    let body = closed.unparted.passes 124 [] (closed.last ∷ 124 ∷ rest) in
    ap (λ ys. parts_behind 124 [] (ys ++ (124 ∷ rest))) closed.is
    ∙ ap (parts_behind 124 []) (append_assoc closed.body (closed.last ∷ []) (124 ∷ rest))
    ∙ body.1
    ∙ rw (closed.bar, closed.backslash) refl
    ∙ ap (λ ys. ys ∷ parts_behind 124 [] rest) (sym closed.is)

parted : (n : ℕ) (cells : ℕ → List ℕ) (rest : List ℕ) → ((j : ℕ) → j < n → IsClosed (cells j)) → cells_of (each n (λ j. 124 ∷ cells j) ++ (124 ∷ rest)) ≡ each n (λ j. cells j ∷ []) ++ parts_behind 124 [] rest
parted zero cells rest closed = refl
parted (suc n) cells rest closed =
    ap cells_of (append_assoc (each n (λ j. 124 ∷ cells j)) (124 ∷ cells n) (124 ∷ rest))
    ∙ parted n cells (cells n ++ (124 ∷ rest)) (λ j less. closed j (omega (arith, less)))
    ∙ ap (λ parts. each n (λ j. cells j ∷ []) ++ parts) (closed-part (cells n) rest (closed n (omega arith)))
    ∙ sym (append_assoc (each n (λ j. cells j ∷ [])) (cells n ∷ []) (parts_behind 124 [] rest))

-- the cells of a line are those that were written
cells-of : (n : ℕ) (cells : ℕ → List ℕ) → ((j : ℕ) → j < n → IsClosed (cells j)) → cells_of (each n (λ j. 124 ∷ cells j) ++ (124 ∷ [])) ≡ each n (λ j. cells j ∷ [])
cells-of n cells closed = parted n cells [] closed ∙ append-nil (each n (λ j. cells j ∷ []))

unparted-blanks : (n : ℕ) → IsUnparted (replicate n 32)
unparted-blanks zero = unparted-none
unparted-blanks (suc n) = unparted-both (32 ∷ []) (replicate n 32) (unparted-one 32 refl) (unparted-blanks n)

unparted-dashes : (n : ℕ) → IsUnparted (replicate n 45)
unparted-dashes zero = unparted-none
unparted-dashes (suc n) = unparted-both (45 ∷ []) (replicate n 45) (unparted-one 45 refl) (unparted-dashes n)

closed-aligned : (alignment : Alignment) (width : ℕ) (xs : List ℕ) → IsUnparted xs → IsClosed (aligned alignment width xs)
closed-aligned alignment width xs unparted =
    let free = width - text_width xs in
    let before = indent alignment free in
    record {
      body = replicate (before + 1) 32 ++ (xs ++ replicate (free - before) 32);
      last = 32;
      is = ap (λ ys. replicate (before + 1) 32 ++ (xs ++ ys)) (sym (replicate-append-replicate (free - before) 1 32)) ∙ ap (λ ys. replicate (before + 1) 32 ++ ys) (sym (append_assoc xs (replicate (free - before) 32) (32 ∷ []))) ∙ sym (append_assoc (replicate (before + 1) 32) (xs ++ replicate (free - before) 32) (32 ∷ []));
      unparted = unparted-both (replicate (before + 1) 32) (xs ++ replicate (free - before) 32) (unparted-blanks (before + 1)) (unparted-both xs (replicate (free - before) 32) unparted (unparted-blanks (free - before)));
      bar = refl;
      backslash = refl;
    }

closed-dashes : (alignment : Alignment) (n : ℕ) → IsClosed (dashes alignment n)
closed-dashes Left n = record { body = 45 ∷ replicate n 45; last = 45; is = refl; unparted = unparted-both (45 ∷ []) (replicate n 45) (unparted-one 45 refl) (unparted-dashes n); bar = refl; backslash = refl }
closed-dashes Center n = record { body = 58 ∷ replicate n 45; last = 58; is = refl; unparted = unparted-both (58 ∷ []) (replicate n 45) (unparted-one 58 refl) (unparted-dashes n); bar = refl; backslash = refl }
closed-dashes Right n = record { body = 45 ∷ replicate n 45; last = 58; is = refl; unparted = unparted-both (45 ∷ []) (replicate n 45) (unparted-one 45 refl) (unparted-dashes n); bar = refl; backslash = refl }

-- ---- the cells of a table

map-each : {A B : Type 0} (f : A → B) (n : ℕ) (h : ℕ → A) → map f (each n (λ j. h j ∷ [])) ≡ each n (λ j. f (h j) ∷ [])
map-each f zero h = refl
map-each f (suc n) h = map-append f (each n (λ j. h j ∷ [])) (h n ∷ []) ∙ ap (λ xs. xs ++ (f (h n) ∷ [])) (map-each f n h)

unparted-apart : (g : Grid (List ℕ)) (es : List Rectangle) (p : Position) → IsUnparted (cell_apart g es p)
unparted-apart g es p = hidden (is_hidden_in es p)
  where
    hidden : (b : Bool) → IsUnparted (cond b [] (escaped (text_of_cell g p)))
    hidden true = unparted-none
    hidden false = unparted-escaped (chars (text_of_cell g p)) 10

read-apart : (alignment : Alignment) (width : ℕ) (g : Grid (List ℕ)) (es : List Rectangle) (p : Position) → read_cell (aligned alignment width (cell_apart g es p)) ≡ Some (text_seen g es p)
read-apart alignment width g es p = hidden (is_hidden_in es p)
  where
    hidden : (b : Bool) → read_cell (aligned alignment width (cond b [] (escaped (text_of_cell g p)))) ≡ Some (cond b [] (chars (text_of_cell g p)))
    hidden true = read-none alignment width
    hidden false = read-aligned alignment width (text_of_cell g p)

module _ (aligns : List Alignment) (widths : List ℕ) where
  pub dashes-read : (n : ℕ) → length widths ≡ n → cells_of (dashes_line aligns widths) ≡ each n (λ j. dashes (alignment_in aligns j) (get_or widths j 0) ∷ [])
  dashes-read n long = cells-of (length widths) (λ j. dashes (alignment_in aligns j) (get_or widths j 0)) (λ j less. closed-dashes (alignment_in aligns j) (get_or widths j 0)) ∙ ap (λ k. each k (λ j. dashes (alignment_in aligns j) (get_or widths j 0) ∷ [])) long

  pub row-read : (g : Grid (List ℕ)) (es : List Rectangle) (i : ℕ) (row : List (List ℕ)) → length widths ≡ g.columns → ((j : ℕ) → j < g.columns → get_or row j [] ≡ cell_apart g es (place i j)) → map read_cell (cells_of (row_line aligns widths row)) ≡ each g.columns (λ j. Some (text_seen g es (place i j)) ∷ [])
  row-read g es i row long are =
      let cell = λ (j : ℕ). aligned (alignment_in aligns j) (get_or widths j 0) (get_or row j []) in
      ap (map read_cell) (cells-of (length widths) cell (λ j less. closed-aligned (alignment_in aligns j) (get_or widths j 0) (get_or row j []) (subst IsUnparted (sym (are j (omega (arith, less, long)))) (unparted-apart g es (place i j)))))
      ∙ map-each read_cell (length widths) cell
      ∙ ap (λ k. each k (λ j. read_cell (cell j) ∷ [])) long
      ∙ each-same (λ j. read_cell (cell j) ∷ []) (λ j. Some (text_seen g es (place i j)) ∷ []) g.columns (λ j less. ap (λ x. x ∷ []) (ap (λ xs. read_cell (aligned (alignment_in aligns j) (get_or widths j 0) xs)) (are j less) ∙ read-apart (alignment_in aligns j) (get_or widths j 0) g es (place i j)))

-- ---- the lines of a table

module _ (aligns : List Alignment) (widths : List ℕ) (rows : List (List (List ℕ))) where
  -- the first line, the line of dashes and the others
  lines-are : (n : ℕ) → each (suc n) (lines_at aligns widths rows) ≡ row_line aligns widths (get_or rows 0 []) ∷ dashes_line aligns widths ∷ each n (λ i. row_line aligns widths (get_or rows (suc i) []) ∷ [])
  lines-are zero = refl
  lines-are (suc n) =
      ap₂ (λ xs ys. xs ++ (row_line aligns widths (get_or rows (suc n) []) ∷ ys)) (lines-are n) (ap (λ b. cond b (dashes_line aligns widths ∷ []) []) (ne_eqb (suc n) 0 (λ e. omega (arith, e))))

  pub count-lines : (n : ℕ) → 0 < n → length (each n (lines_at aligns widths rows)) ≡ n + 1
  count-lines zero some = absurd (omega (arith, some))
  count-lines (suc n) some = ap length (lines-are n) ∙ ap (λ k. suc (suc k)) (length-singles (λ i. row_line aligns widths (get_or rows (suc i) [])) n) ∙ (let e : suc (suc n) ≡ suc n + 1 = omega arith in e)

  pub second-line : (n : ℕ) → 0 < n → get_or (each n (lines_at aligns widths rows)) 1 [] ≡ dashes_line aligns widths
  second-line zero some = absurd (omega (arith, some))
  second-line (suc n) some = ap (λ ls. get_or ls 1 []) (lines-are n)

  pub line-at : (n i : ℕ) → i < n → get_or (each n (lines_at aligns widths rows)) (line_of_row i) [] ≡ row_line aligns widths (get_or rows i [])
  line-at zero i less = absurd (omega (arith, less))
  line-at (suc n) zero less = ap (λ ls. get_or ls 0 []) (lines-are n)
  line-at (suc n) (suc i) less =
      ap₂ (λ ls k. get_or ls k []) (lines-are n) (ap (λ b. cond b 0 (suc i + 1)) (ne_eqb (suc i) 0 (λ e. omega (arith, e))) ∙ (let e : suc i + 1 ≡ suc (suc i) = omega arith in e))
      ∙ get-singles (λ i. row_line aligns widths (get_or rows (suc i) [])) n i [] (omega (arith, less))
