-- The highest level at which columns come to a width.
use Rattle.std.specs.Prelude.{nat_le}
use Rattle.tabled_draw.proofs.Common.{[], ◌<◌, ◌∙◌, ◌∷◌, ◌≡◌, ◌≤◌, ◌⊎◌, Bool, Columns, List, ap, ap₂, arith, cases_lt, cond-false, cond-true, false, get_or, inl, inr, le-leb, length, line_size, nat_tests, refl, start_of, suc, sym, true, zero, ℕ}
use Rattle.tabled_draw.proofs.Shares.{Larger}
use Rattle.tabled_draw.specs.Width.{width_of_columns}
use Rattle.tabled_draw.specs.declared.style.Lines.{Lines}
use Rattle.tabled_script.specs.Limits.{come_to, highest, larger_of, level, limits, raised_to}

-- where no number above one is fine, and that one is, or is 0, it is the highest
pub highest-is : (n k : ℕ) (is_fine : ℕ → Bool) → k ≤ n → (k ≡ 0) ⊎ (is_fine k ≡ true) → ((j : ℕ) → k < j → j ≤ n → is_fine j ≡ false) → highest n is_fine ≡ k
highest-is zero k is_fine le fine none = omega arith
highest-is (suc n) k is_fine le fine none = at_end (cases_lt k (suc n)) fine (λ less. highest-is n k is_fine (omega (arith, less)) fine (λ j more low. none j more (omega (arith, low))))
  where
    at_end : (k < suc n) ⊎ (suc n ≤ k) → (k ≡ 0) ⊎ (is_fine k ≡ true) → (k < suc n → highest n is_fine ≡ k) → highest (suc n) is_fine ≡ k
    at_end (inl less) here lower = cond-false _ _ _ (none (suc n) less (omega arith)) ∙ lower less
    at_end (inr end) (inl is_zero) lower = absurd (omega arith)
    at_end (inr end) (inr is_so) lower = let same : k ≡ suc n = omega arith in cond-true _ _ _ (ap is_fine (sym same) ∙ is_so) ∙ sym same

-- ---- at a higher level no column is narrower

pub raised-larger : (j k : ℕ) → j ≤ k → (xs ys : List ℕ) → Larger (raised_to j xs ys) (raised_to k xs ys)
raised-larger j k le [] ys = record { long = refl; each = λ i. omega arith }
raised-larger j k le (x ∷ xs) [] = record { long = refl; each = λ i. omega arith }
raised-larger j k le (x ∷ xs) (y ∷ ys) = one_more (raised-larger j k le xs ys)
  where
    each_of : Larger (raised_to j xs ys) (raised_to k xs ys) → (i : ℕ) → get_or (raised_to j (x ∷ xs) (y ∷ ys)) i 0 ≤ get_or (raised_to k (x ∷ xs) (y ∷ ys)) i 0
    each_of rest zero = omega arith
    each_of rest (suc i) = rest.each i

    one_more : Larger (raised_to j xs ys) (raised_to k xs ys) → Larger (raised_to j (x ∷ xs) (y ∷ ys)) (raised_to k (x ∷ xs) (y ∷ ys))
    one_more rest = record { long = ap suc rest.long; each = each_of rest }

start-larger : (lines : ℕ → ℕ) (s t : List ℕ) → Larger s t → (n : ℕ) → start_of Columns lines s n ≤ start_of Columns lines t n
start-larger lines s t more zero = omega arith
start-larger lines s t more (suc n) = omega (arith, start-larger lines s t more n, more.each n)

pub width-larger : (lines : Lines) (s t : List ℕ) → Larger s t → width_of_columns lines s ≤ width_of_columns lines t
width-larger lines s t more = rw more.long (let low : start_of Columns (line_size lines (length s)) s (length s) ≤ start_of Columns (line_size lines (length s)) t (length s) = start-larger (line_size lines (length s)) s t more (length s) in omega arith)

-- what is too wide at a level is so at a higher one
pub too-wide-above : (n : ℕ) (lines : Lines) (j k : ℕ) → j ≤ k → (least most : List ℕ) → n < width_of_columns lines (raised_to j least most) → come_to n lines (raised_to k least most) ≡ false
too-wide-above n lines j k le least most wide =
    let more : width_of_columns lines (raised_to j least most) ≤ width_of_columns lines (raised_to k least most) = width-larger lines (raised_to j least most) (raised_to k least most) (raised-larger j k le least most) in
    grind (arith, nat_tests)

-- ---- the widths that columns are cut to

-- whole words, where each has room
pub limits-words : (n : ℕ) (lines : Lines) (of_lines of_words of_pieces a b c widths : List ℕ) (width found : ℕ) → a ≡ larger_of of_words of_pieces → b ≡ a → c ≡ a → width ≡ width_of_columns lines a → width ≤ n → found ≡ level n lines b of_lines → widths ≡ raised_to found c of_lines → widths ≡ limits n lines of_lines of_words of_pieces
unfolding limits
limits-words n lines of_lines of_words of_pieces a b c widths width found is_a is_b is_c sum low is_found is =
    let words = larger_of of_words of_pieces in
    let room : width_of_columns lines words ≤ n = rw is_a at (rw sum at low) in
    is ∙ ap₂ (λ k w. raised_to k w of_lines) (is_found ∙ ap (λ w. level n lines w of_lines) (is_b ∙ is_a)) (is_c ∙ is_a) ∙ sym (cond-true _ _ _ (le-leb _ _ room))

-- else whole pieces
pub limits-pieces : (n : ℕ) (lines : Lines) (of_lines of_words of_pieces a b c widths : List ℕ) (width found : ℕ) → a ≡ larger_of of_words of_pieces → b ≡ a → c ≡ a → width ≡ width_of_columns lines a → n < width → found ≡ level n lines of_pieces b → widths ≡ raised_to found of_pieces c → widths ≡ limits n lines of_lines of_words of_pieces
unfolding limits
limits-pieces n lines of_lines of_words of_pieces a b c widths width found is_a is_b is_c sum wide is_found is =
    let words = larger_of of_words of_pieces in
    let past : n < width_of_columns lines words = rw is_a at (rw sum at wide) in
    let no : nat_le (width_of_columns lines words) n ≡ false = grind (arith, nat_tests) in
    is ∙ ap₂ (λ k w. raised_to k of_pieces w) (is_found ∙ ap (λ w. level n lines of_pieces w) (is_b ∙ is_a)) (is_c ∙ is_a) ∙ sym (cond-false _ _ _ no)
