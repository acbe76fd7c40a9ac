-- Texts cut line by line.
use Rattle.std.proofs.Common.{[], ◌++◌, ◌-◌, ◌<◌, ◌==◌, ◌∙◌, ◌∷◌, ◌≡◌, ◌≤◌, Bool, List, ap, append_assoc, arith, cond, encode_utf8, false, length, map, refl, sym, true, ℕ}
use Rattle.std.proofs.lemmas.Bool.{le-leb, lt-leb}
use Rattle.std.proofs.lemmas.List.{map-id}
use Rattle.std.proofs.lemmas.List.Splits.{join_with_byte-slice_split, slice_split_first, slice_split_none}
use Rattle.std.proofs.lemmas.List.Sums.{fails_before_first}
use Rattle.std.proofs.lemmas.Str.{encode_ascii}
use Rattle.std.specs.List.{after_first, before_first, join_with_byte, onto_first, position_or_len}
use Rattle.tabled_settings.specs.Truncates.{beginning, columns, lines_of, truncated, truncated_line}

-- what stands before the first newline, and behind it
abbrev pub AreParts : List ℕ → List ℕ → List ℕ → Type 0
AreParts bs first others = (first ≡ before_first (λ b. b == 10) bs) × (others ≡ after_first (λ b. b == 10) bs) × (position_or_len (λ b. b == 10) bs < length bs)

-- there is no newline
abbrev pub IsOneLine : List ℕ → Type 0
IsOneLine bs = position_or_len (λ b. b == 10) bs ≡ length bs

abbrev HasLine : List (List ℕ) → Type 0
HasLine lines = (line : List ℕ) × (more : List (List ℕ)) × (lines ≡ line ∷ more)

some-lines : (bs : List ℕ) → HasLine (lines_of bs)
some-lines [] = ([], [], refl)
some-lines (b ∷ bs) = some-next (b == 10) (some-lines bs)
  where
    some-next : (is : Bool) → HasLine (lines_of bs) → HasLine (cond is ([] ∷ lines_of bs) (onto_first b (lines_of bs)))
    some-next true some = ([], lines_of bs, refl)
    some-next false (line, more, is) = (b ∷ line, more, ap (onto_first b) is)

-- each line made anew: the first, and those behind it
join-more : (f : List ℕ → List ℕ) (line : List ℕ) (lines : List (List ℕ)) → HasLine lines → join_with_byte 10 (map f (line ∷ lines)) ≡ f line ++ 10 ∷ join_with_byte 10 (map f lines)
join-more f line lines (next, more, is) = rw is refl

first-line : (f : List ℕ → List ℕ) (bs first others : List ℕ) → AreParts bs first others → join_with_byte 10 (map f (lines_of bs)) ≡ f first ++ 10 ∷ join_with_byte 10 (map f (lines_of others))
first-line f bs first others (is, behind, within) =
    let split : lines_of bs ≡ first ∷ lines_of others = rw (is, behind) (slice_split_first (λ b. b == 10) bs 0 within) in
    ap (λ lines. join_with_byte 10 (map f lines)) split ∙ join-more f first (lines_of others) (some-lines others)

only-line : (bs : List ℕ) → IsOneLine bs → lines_of bs ≡ bs ∷ []
only-line bs none = slice_split_none (λ b. b == 10) bs (λ k d less. fails_before_first (λ b. b == 10) bs k d (omega (arith, none, less)))

line-last : (n : ℕ) (suffix bs : List ℕ) → IsOneLine bs → truncated n suffix bs ≡ truncated_line n suffix bs
line-last n suffix bs none = ap (λ lines. join_with_byte 10 (map (truncated_line n suffix) lines)) (only-line bs none)

-- a text is its first line, and those behind it
whole : (bs first others : List ℕ) → AreParts bs first others → bs ≡ first ++ 10 ∷ others
whole bs first others parts =
    sym (ap (join_with_byte 10) (map-id (lines_of bs)) ∙ join_with_byte-slice_split 10 bs)
    ∙ first-line (λ x. x) bs first others parts
    ∙ ap (λ xs. first ++ 10 ∷ xs) (ap (join_with_byte 10) (map-id (lines_of others)) ∙ join_with_byte-slice_split 10 others)

-- a line that fits stays
pub line-same : (n : ℕ) (suffix line : List ℕ) → columns line ≤ n → truncated_line n suffix line ≡ line
line-same n suffix line fits = rw (le-leb _ _ fits) refl

-- any other is cut, with a suffix that fits or without
pub line-cut : (n : ℕ) (suffix line : List ℕ) → n < columns line → columns suffix ≤ n → truncated_line n suffix line ≡ beginning (n - columns suffix) line ++ suffix
line-cut n suffix line over fits = rw (lt-leb _ _ over, le-leb _ _ fits) refl

pub line-gone : (n : ℕ) (suffix line : List ℕ) → n < columns line → n < columns suffix → truncated_line n suffix line ≡ beginning n suffix
line-gone n suffix line over past = rw (lt-leb _ _ over, lt-leb _ _ past) refl

-- where the first line fits, and those behind it stay, the text stays
pub fits-first : (n : ℕ) (suffix bs first others : List ℕ) → AreParts bs first others → columns first ≤ n → others ≡ truncated n suffix others → bs ≡ truncated n suffix bs
fits-first n suffix bs first others parts fits same =
    whole bs first others parts
    ∙ ap (λ xs. first ++ 10 ∷ xs) same
    ∙ ap (λ xs. xs ++ 10 ∷ truncated n suffix others) (sym (line-same n suffix first fits))
    ∙ sym (first-line (truncated_line n suffix) bs first others parts)

pub fits-last : (n : ℕ) (suffix bs : List ℕ) → IsOneLine bs → columns bs ≤ n → bs ≡ truncated n suffix bs
fits-last n suffix bs none fits = sym (line-last n suffix bs none ∙ line-same n suffix bs fits)

-- one more line, put behind others
pub put-line : (n : ℕ) (suffix bs first others out mid end all : List ℕ) → AreParts bs first others → mid ≡ out ++ truncated_line n suffix first → end ≡ mid ++ encode_utf8 10 → out ++ truncated n suffix bs ≡ all → end ++ truncated n suffix others ≡ all
put-line n suffix bs first others out mid end all parts put turn same =
    ap (λ xs. xs ++ truncated n suffix others) (turn ∙ ap (λ xs. mid ++ xs) (encode_ascii 10 (omega arith)) ∙ ap (λ xs. xs ++ 10 ∷ []) put)
    ∙ regroup (truncated_line n suffix first) (truncated n suffix others)
    ∙ ap (λ xs. out ++ xs) (sym (first-line (truncated_line n suffix) bs first others parts))
    ∙ same
  where
    regroup : (a b : List ℕ) → ((out ++ a) ++ 10 ∷ []) ++ b ≡ out ++ (a ++ 10 ∷ b)
    regroup a b = simp append_assoc

-- and the last one
pub put-last : (n : ℕ) (suffix bs out end all : List ℕ) → IsOneLine bs → end ≡ out ++ truncated_line n suffix bs → out ++ truncated n suffix bs ≡ all → end ≡ all
put-last n suffix bs out end all none put same = put ∙ ap (λ xs. out ++ xs) (sym (line-last n suffix bs none)) ∙ same
