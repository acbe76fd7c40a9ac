-- The lines of Markdown, as they are drawn.
use Rattle.std.specs.Global.{Global, Vec}
use Rattle.std.specs.Prelude.{String}
use Rattle.tabled_draw.proofs.Common.{Alignment, Draws, List, Option, Pen, [], add-one, ap, append-nil, ap₂, arith, cases_lt, cond, each, eq-eqb, ext_get_or, get_or, get_or-map, inl, inr, largest, length, map, max, ne_eqb, refl, suc, sym, text_width, widths, with_newlines, zero, ℕ, ◌++◌, ◌+◌, ◌<◌, ◌∙◌, ◌∷◌, ◌≡◌, ◌≢◌, ◌≤◌, ◌⊎◌}
use Rattle.std.proofs.lemmas.Grind.{flat_map-append}
use Rattle.tabled_draw.proofs.Each.{each-more, get-singles, length-singles, split-each}
use Rattle.tabled_draw.specs.Markdown.{characters, dashes_line, lines_at, lines_of, markdown_width, markdown_widths, row_line, rows_of_characters}
use Rattle.tabled_grid.specs.Evenness.{AreWide}
use Rattle.tabled_grid.specs.Grid.{map_items}
use Rattle.tabled_held.proofs.Pens.{draws-as, draws-then}

-- the characters of a text in a row
pub characters-at : (row : List (String Global)) (j : ℕ) (text : String Global) → j < length row → text ≡ get_or row j text → characters text ≡ get_or (map characters row) j []
characters-at row j text less is = ap characters is ∙ sym (get_or-map characters row j text [] less)

-- a line whose parts are drawn is ended by a bar and a newline
module _ {W : Type 0} {contents : W → Option (List ℕ)} where
  pub line-ended : {a b c d : Pen W} {j n : ℕ} (part : ℕ → List ℕ) → j ≡ n → Draws contents a b (each j part) → Draws contents b c (124 ∷ []) → Draws contents c d (10 ∷ []) → Draws contents a d ((each n part ++ (124 ∷ [])) ++ (10 ∷ []))
  line-ended part all drawn bar end = draws-then (draws-then (draws-as (ap (λ k. each k part) all) drawn) bar) end

-- ---- rows

-- a row of some that are equally long
pub wide-at : (n : ℕ) (rows : List (Vec (String Global))) (i : ℕ) (row : Vec (String Global)) → AreWide n (map_items rows) → i < length rows → row ≡ get_or rows i row → length row.items ≡ n
wide-at n [] i row wide less is = absurd (omega (arith, less))
wide-at n (r ∷ rows) zero row wide less is = ap (λ (v : Vec (String Global)). length v.items) is ∙ wide.0
wide-at n (r ∷ rows) (suc i) row wide less is = wide-at n rows i row wide.1 (omega (arith, less)) is

-- the characters of the texts of a row
pub row-at : (rows : List (Vec (String Global))) (i : ℕ) (row : Vec (String Global)) → i < length rows → row ≡ get_or rows i row → map characters row.items ≡ get_or (rows_of_characters rows) i []
row-at [] i row less is = absurd (omega (arith, less))
row-at (r ∷ rows) zero row less is = ap (λ (v : Vec (String Global)). map characters v.items) is
row-at (r ∷ rows) (suc i) row less is = row-at rows i row (omega (arith, less)) is

pub length-rows : (rows : List (Vec (String Global))) → length (rows_of_characters rows) ≡ length rows
length-rows [] = refl
length-rows (r ∷ rows) = ap suc (length-rows rows)

-- ---- lines, row after row

module _ (aligns : List Alignment) (widths : List ℕ) (rows : List (List (List ℕ))) where
  pub lines-more : (i : ℕ) → with_newlines (each (i + 1) (lines_at aligns widths rows)) ≡ with_newlines (each i (lines_at aligns widths rows)) ++ with_newlines (lines_at aligns widths rows i)
  lines-more i = ap with_newlines (each-more (lines_at aligns widths rows) i) ∙ flat_map-append (λ line. line ++ (10 ∷ [])) (each i (lines_at aligns widths rows)) (lines_at aligns widths rows i)

  pub first-lines : (i : ℕ) → i ≡ 0 → with_newlines (lines_at aligns widths rows i) ≡ (row_line aligns widths (get_or rows i []) ++ (10 ∷ [])) ++ (dashes_line aligns widths ++ (10 ∷ []))
  first-lines i first = ap (λ b. with_newlines (row_line aligns widths (get_or rows i []) ∷ cond b (dashes_line aligns widths ∷ []) [])) (eq-eqb i 0 first) ∙ ap (λ bs. (row_line aligns widths (get_or rows i []) ++ (10 ∷ [])) ++ bs) (append-nil (dashes_line aligns widths ++ (10 ∷ [])))

  pub later-lines : (i : ℕ) → i ≢ 0 → with_newlines (lines_at aligns widths rows i) ≡ row_line aligns widths (get_or rows i []) ++ (10 ∷ [])
  later-lines i later = ap (λ b. with_newlines (row_line aligns widths (get_or rows i []) ∷ cond b (dashes_line aligns widths ∷ []) [])) (ne_eqb i 0 later) ∙ append-nil (row_line aligns widths (get_or rows i []) ++ (10 ∷ []))

module _ (aligns : List Alignment) (widths : List ℕ) (rows : List (List (List ℕ))) where
  -- the lines that are left behind those of some rows
  pub lines-left : (k n : ℕ) → k ≤ n → (left : List ℕ) × (with_newlines (each k (lines_at aligns widths rows)) ++ left ≡ with_newlines (each n (lines_at aligns widths rows)))
  lines-left k n less = left (cases_lt k n)
    where
      left : (k < n) ⊎ (n ≤ k) → (left : List ℕ) × (with_newlines (each k (lines_at aligns widths rows)) ++ left ≡ with_newlines (each n (lines_at aligns widths rows)))
      left (inl some) =
          let split = split-each (lines_at aligns widths rows) n k some in
          (with_newlines (lines_at aligns widths rows k ++ split.rest), sym (ap with_newlines split.is ∙ flat_map-append (λ l. l ++ (10 ∷ [])) (each k (lines_at aligns widths rows)) (lines_at aligns widths rows k ++ split.rest)))
      left (inr none) = ([], append-nil (with_newlines (each k (lines_at aligns widths rows))) ∙ ap (λ i. with_newlines (each i (lines_at aligns widths rows))) (let e : k ≡ n = omega (arith, less, none) in e))

  -- where there are columns, there is no other line
  pub lines-some : (n : ℕ) → length widths ≢ 0 → n ≡ length rows → with_newlines (each n (lines_at aligns widths rows)) ≡ with_newlines (lines_of aligns widths rows)
  lines-some n some all = ap (λ k. with_newlines (each k (lines_at aligns widths rows))) all ∙ ap (λ b. with_newlines (cond b [] (each (length rows) (lines_at aligns widths rows)))) (sym (ne_eqb (length widths) 0 some))

-- ---- the widths of columns

-- a width is raised by one more row
pub width-more : (rows : List (List (List ℕ))) (row : List (List ℕ)) (i j old new : ℕ) → row ≡ get_or rows i [] → old ≡ largest 3 i (λ k. text_width (get_or (get_or rows k []) j [])) → new ≡ max old (text_width (get_or row j [])) → new ≡ largest 3 (i + 1) (λ k. text_width (get_or (get_or rows k []) j []))
width-more rows row i j old new is was raised =
    raised ∙ ap₂ (λ a r. max a (text_width (get_or r j []))) was is ∙ ap (λ n. largest 3 n (λ k. text_width (get_or (get_or rows k []) j []))) (sym (add-one i))

pub widths-all : (rows : List (List (List ℕ))) (n : ℕ) (widths : List ℕ) → length widths ≡ n → ((j : ℕ) → j < n → get_or widths j 0 ≡ markdown_width rows j) → widths ≡ markdown_widths n rows
widths-all rows n widths long are = ext_get_or 0 widths (markdown_widths n rows) (long ∙ sym (length-singles (markdown_width rows) n)) (λ j less. are j (omega (arith, less, long)) ∙ sym (get-singles (markdown_width rows) n j 0 (omega (arith, less, long))))
