-- Each character of a plain text takes one column, and is a piece by itself.
use Rattle.std.proofs.Common.{[], ◌&&◌, ◌++◌, ◌≤◌, ◌∙◌, ◌∷◌, ◌≡◌, ◌⊎◌, Bool, List, ap, ap₂, arith, cond, encode_utf8, encode_utf8_all, false, fold, get_or, inl, inr, length, map, max, min, nat_le, ne_eqb, refl, subst, sym, true, ℕ}
use Rattle.std.proofs.lemmas.Bool.Decides.{nat_tests}
use Rattle.std.proofs.lemmas.List.Elements.{All-cons, All-head, All-tail}
use Rattle.std.proofs.lemmas.List.Sums.{sum_by-cons}
use Rattle.std.proofs.lemmas.Str.{IsUtf8-from_ascii, chars-IsAscii, chars-nil, chars_past_char, encode_ascii}
use Rattle.std.proofs.lemmas.Str.Ascii.{IsAscii-from_all}
use Rattle.std.specs.Int.{is_in_range}
use Rattle.std.specs.List.{concat, list_all, onto_first, slice_split}
use Rattle.std.specs.Str.{IsUtf8, chars}
use Rattle.tabled_width.proofs.Characters.{printable-ascii, printable-stays}
use Rattle.tabled_width.proofs.Scanning.{scalar-first}
use Rattle.tabled_width.specs.Columns.{text_width}
use Rattle.tabled_width.specs.Pieces.{columns_in, is_just, pieces, pieces_from, pieces_in, stays, widest_piece}
use Rattle.tabled_width.specs.Plain.{ArePlain, IsPlain}
use Rattle.tabled_width.specs.Wraps.{all_lines_fit, lines}
use Rattle.unicode_width.proofs.Rules.{str_width-printable}

pub plain-chars : (bs : List ℕ) → ArePlain bs → chars bs ≡ bs
plain-chars bs all = chars-IsAscii bs (IsAscii-from_all bs (λ k d h. omega (arith, (all k d h).1)))

pub plain-utf8 : (bs : List ℕ) → ArePlain bs → IsUtf8 bs
plain-utf8 bs all = IsUtf8-from_ascii bs (IsAscii-from_all bs (λ k d h. omega (arith, (all k d h).1)))

pub plain-bytes : (bs : List ℕ) → ArePlain bs → encode_utf8_all bs ≡ bs
plain-bytes [] all = refl
plain-bytes (b ∷ bs) all = ap₂ (λ x xs. x ++ xs) (encode_ascii b (omega (arith, (All-head IsPlain b bs all).1))) (plain-bytes bs (All-tail IsPlain b bs all))

-- what makes up such a text is such a text
pub plain-front : (xs ys : List ℕ) → ArePlain (xs ++ ys) → ArePlain xs
plain-front [] ys all = λ k d less. absurd (omega (arith, less))
plain-front (x ∷ xs) ys all = All-cons IsPlain x xs (All-head IsPlain x (xs ++ ys) all) (plain-front xs ys (All-tail IsPlain x (xs ++ ys) all))

pub plain-back : (xs ys : List ℕ) → ArePlain (xs ++ ys) → ArePlain ys
plain-back [] ys all = all
plain-back (x ∷ xs) ys all = plain-back xs ys (All-tail IsPlain x (xs ++ ys) all)

-- ---- columns

pub plain-width : (b : ℕ) → IsPlain b → text_width (b ∷ []) ≡ 1
plain-width b h = str_width-printable false (b ∷ []) (printable-ascii b h.0 h.1)

plain-printable : (bs : List ℕ) → ArePlain bs → list_all (is_in_range 0x20 0x7E) bs ≡ true
plain-printable [] all = refl
plain-printable (b ∷ bs) all =
    let h = All-head IsPlain b bs all in
    let one : is_in_range 0x20 0x7E b ≡ true = grind (arith, nat_tests, h.0, h.1) in
    rw one (plain-printable bs (All-tail IsPlain b bs all))

pub plain-columns : (bs : List ℕ) → ArePlain bs → length bs ≡ text_width (chars bs)
plain-columns bs all = sym (ap text_width (plain-chars bs all) ∙ str_width-printable false bs (plain-printable bs all))

-- ---- pieces

-- each character as a text
abbrev pub singles : List ℕ → List (List ℕ)
singles bs = map (λ b. b ∷ []) bs

pub singles-concat : (bs : List ℕ) → concat (singles bs) ≡ bs
singles-concat [] = refl
singles-concat (b ∷ bs) = ap (λ xs. b ∷ xs) (singles-concat bs)

pub singles-columns : (bs : List ℕ) → ArePlain bs → columns_in (singles bs) ≡ length bs
singles-columns [] all = refl
singles-columns (b ∷ bs) all = omega (arith, sum_by-cons text_width (b ∷ []) (singles bs), plain-width b (All-head IsPlain b bs all), singles-columns bs (All-tail IsPlain b bs all))

cut-between : (b d : ℕ) → IsPlain b → IsPlain d → stays (b ∷ []) d ≡ false
cut-between b d h next = printable-stays d next.0 next.1 _ _ _ (λ e. omega (arith, e, h.0)) ∙ rw (ne_eqb b 0x200D (λ e. omega (arith, e, h.1))) refl

pieces-behind : (b : ℕ) (bs : List ℕ) → IsPlain b → ArePlain bs → pieces_from (b ∷ []) bs ≡ singles (b ∷ bs)
pieces-behind b [] h all = refl
pieces-behind b (d ∷ ds) h all =
    let next = All-head IsPlain d ds all in
    rw (cut-between b d h next) (ap (λ ps. (b ∷ []) ∷ ps) (pieces-behind d ds next (All-tail IsPlain d ds all)))

pub plain-pieces : (bs : List ℕ) → ArePlain bs → pieces (chars bs) ≡ singles bs
plain-pieces bs all = ap pieces (plain-chars bs all) ∙ pieces-of bs all
  where
    pieces-of : (bs : List ℕ) → ArePlain bs → pieces bs ≡ singles bs
    pieces-of [] all = refl
    pieces-of (b ∷ bs) all = pieces-behind b bs (All-head IsPlain b bs all) (All-tail IsPlain b bs all)

-- ---- the first piece

first-char : (b : ℕ) (bs : List ℕ) → IsPlain b → IsUtf8 (b ∷ bs) → (chars (b ∷ bs) ≡ b ∷ chars bs) × IsUtf8 bs
first-char b bs h utf8 =
    let is : b ∷ bs ≡ encode_utf8 b ++ bs = ap (λ x. x ++ bs) (sym (encode_ascii b (omega (arith, h.1)))) in
    (chars_past_char (b ∷ bs) bs b utf8 is, (scalar-first (b ∷ bs) bs b utf8 is).1)

encode-one : (b : ℕ) → IsPlain b → encode_utf8_all (b ∷ []) ≡ b ∷ []
encode-one b h = ap (λ x. x ++ []) (encode_ascii b (omega (arith, h.1)))

-- a text that is this character, or in which another such character follows
pub plain-first : (bs : List ℕ) → IsUtf8 bs → 1 ≤ length bs → IsPlain (get_or bs 0 0) → (length bs ≡ 1) ⊎ IsPlain (get_or bs 1 0) → (first rest : List ℕ) → bs ≡ first ++ rest → length first ≡ 1 → pieces_in bs ≡ first ∷ pieces_in rest
plain-first bs utf8 some h next [] rest is one = absurd (omega (arith, one))
plain-first bs utf8 some h next (b ∷ c ∷ cs) rest is one = absurd (omega (arith, one))
plain-first bs utf8 some h next (b ∷ []) [] is one =
    let here : IsPlain b = subst (λ xs. IsPlain (get_or xs 0 0)) is h in
    let utf8_b = subst IsUtf8 is utf8 in
    ap pieces_in is ∙ ap (λ cs. map encode_utf8_all (pieces cs)) ((first-char b [] here utf8_b).0 ∙ ap (λ cs. b ∷ cs) chars-nil) ∙ ap (λ x. x ∷ []) (encode-one b here) ∙ ap (λ cs. (b ∷ []) ∷ map encode_utf8_all (pieces cs)) (sym chars-nil)
plain-first bs utf8 some h (inl alone) (b ∷ []) (d ∷ ds) is one = absurd (omega (arith, alone, ap length is))
plain-first bs utf8 some h (inr next) (b ∷ []) (d ∷ ds) is one =
    let here : IsPlain b = subst (λ xs. IsPlain (get_or xs 0 0)) is h in
    let there : IsPlain d = subst (λ xs. IsPlain (get_or xs 1 0)) is next in
    let first = first-char b (d ∷ ds) here (subst IsUtf8 is utf8) in
    let second = first-char d ds there first.1 in
    let cut : pieces_from (b ∷ []) (d ∷ chars ds) ≡ (b ∷ []) ∷ pieces (d ∷ chars ds) = rw (cut-between b d here there) refl in
    ap pieces_in is ∙ ap (λ cs. map encode_utf8_all (pieces cs)) (first.0 ∙ ap (λ cs. b ∷ cs) second.0) ∙ ap (map encode_utf8_all) cut ∙ ap (λ x. x ∷ map encode_utf8_all (pieces (d ∷ chars ds))) (encode-one b here) ∙ ap (λ cs. (b ∷ []) ∷ map encode_utf8_all (pieces cs)) (sym second.0)

-- ---- the widest piece

abbrev widest_of : ℕ → List (List ℕ) → ℕ
widest_of most ps = fold (λ most piece. cond (is_just 10 piece) most (max most (text_width piece))) most ps

widest-next : (most b : ℕ) (bs : List ℕ) → IsPlain b → widest_of most (singles (b ∷ bs)) ≡ widest_of (max most 1) (singles bs)
widest-next most b bs h =
    let step : cond (is_just 10 (b ∷ [])) most (max most (text_width (b ∷ []))) ≡ max most 1 = rw (ne_eqb b 10 (λ e. omega (arith, e, h.0)), plain-width b h) refl in
    ap (λ m. widest_of m (singles bs)) step

widest-seen : (bs : List ℕ) → ArePlain bs → widest_of 1 (singles bs) ≡ 1
widest-seen [] all = refl
widest-seen (b ∷ bs) all = widest-next 1 b bs (All-head IsPlain b bs all) ∙ widest-seen bs (All-tail IsPlain b bs all)

widest-single : (bs : List ℕ) → ArePlain bs → widest_of 0 (singles bs) ≡ min (length bs) 1
widest-single [] all = refl
widest-single (b ∷ bs) all = widest-next 0 b bs (All-head IsPlain b bs all) ∙ widest-seen bs (All-tail IsPlain b bs all) ∙ grind arith

pub plain-widest_piece : (bs : List ℕ) → ArePlain bs → min (length bs) 1 ≡ widest_piece (chars bs)
plain-widest_piece bs all = sym (ap (widest_of 0) (plain-pieces bs all) ∙ widest-single bs all)

-- ---- one line

single-line : (bs : List ℕ) → ArePlain bs → slice_split (is_just 10) (singles bs) ≡ singles bs ∷ []
single-line [] all = refl
single-line (b ∷ bs) all = rw (ne_eqb b 10 (λ e. omega (arith, e, (All-head IsPlain b bs all).0))) (ap (onto_first (b ∷ [])) (single-line bs (All-tail IsPlain b bs all)))

pub plain-line : (bs : List ℕ) → ArePlain bs → lines (chars bs) ≡ singles bs ∷ []
plain-line bs all = ap (slice_split (is_just 10)) (plain-pieces bs all) ∙ single-line bs all

pub plain-fits : (n : ℕ) (bs : List ℕ) → ArePlain bs → nat_le (length bs) n ≡ all_lines_fit n (chars bs)
plain-fits n bs all = sym (ap (list_all (λ line. nat_le (columns_in line) n)) (plain-line bs all) ∙ ap (λ k. nat_le k n && true) (singles-columns bs all) ∙ alone (nat_le (length bs) n))
  where
    alone : (b : Bool) → (b && true) ≡ b
    alone true = refl
    alone false = refl
