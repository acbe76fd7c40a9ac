-- Lines that are cut take at most so many columns.
use Rattle.std.proofs.Common.{[], ◌++◌, ◌+◌, ◌-◌, ◌<◌, ◌∙◌, ◌∷◌, ◌≡◌, ◌≤◌, ◌⊎◌, List, ap, arith, false, inl, inr, map, nat_le, refl, subst, sum_by, sym, true, ℕ}
use Rattle.std.proofs.lemmas.Bool.{cases_Bool, leb-false, leb-true}
use Rattle.std.proofs.lemmas.List.{map-append}
use Rattle.std.proofs.lemmas.List.Elements.{All-head, All-tail}
use Rattle.std.proofs.lemmas.List.Sums.{sum_by-cons}
use Rattle.std.proofs.lemmas.Str.{IsUtf8-append, IsUtf8-nil, chars-append, chars-nil}
use Rattle.std.specs.List.{AllByRecursion, concat, list_all}
use Rattle.std.specs.Str.{IsUtf8, chars}
use Rattle.tabled_settings.proofs.Truncated.{line-cut, line-gone, line-same}
use Rattle.tabled_settings.specs.Truncates.{AddsColumns, IsBeginning, beginning, columns, first_within, truncated_line}
use Rattle.tabled_width.proofs.Chains.{Chain, chain, chain-front, chain-sum, concat-append, line-parts}
use Rattle.tabled_width.proofs.PieceTexts.{chars-pieces, concat-pieces, utf8-pieces}
use Rattle.tabled_width.proofs.PlainPieces.{plain-chars}
use Rattle.tabled_width.specs.Columns.{text_width}
use Rattle.tabled_width.specs.Laws.{IsLine}
use Rattle.tabled_width.specs.Pieces.{columns_in, pieces, pieces_in}
use Rattle.tabled_width.specs.Plain.{ArePlain, IsPlain}
use Rattle.unicode_width.proofs.Computing.{unicode_width}
use Rattle.unicode_width.proofs.Rules.{is_simple, str_width-append_simple}
use borrow.Author.Tests.{le-leb}

-- ---- the first pieces

-- pieces that fit, of which no more would
record Fitting (n : ℕ) (ps : List (List ℕ)) : Type 0 where
  behind : List (List ℕ)
  whole : ps ≡ first_within n ps ++ behind
  narrow : sum_by columns (first_within n ps) ≤ n
  longest : (piece : List ℕ) (more : List (List ℕ)) → behind ≡ piece ∷ more → n < sum_by columns (first_within n ps) + columns piece

fitting : (n : ℕ) (ps : List (List ℕ)) → Fitting n ps
fitting n [] = record { behind = []; whole = refl; narrow = omega arith; longest = λ piece more e. cc }
fitting n (p ∷ ps) = next (cases_Bool (nat_le (columns p) n)) (fitting (n - columns p) ps)
  where
    next : (nat_le (columns p) n ≡ true) ⊎ (nat_le (columns p) n ≡ false) → Fitting (n - columns p) ps → Fitting n (p ∷ ps)
    next (inl holds) f =
        let here : first_within n (p ∷ ps) ≡ p ∷ first_within (n - columns p) ps = rw holds refl in
        let sum : sum_by columns (first_within n (p ∷ ps)) ≡ columns p + sum_by columns (first_within (n - columns p) ps) = ap (sum_by columns) here ∙ sum_by-cons columns p (first_within (n - columns p) ps) in
        let fits : columns p ≤ n = leb-true _ _ holds in
        record {
          behind = f.behind;
          whole = ap (λ qs. p ∷ qs) f.whole ∙ ap (λ qs. qs ++ f.behind) (sym here);
          narrow = omega (arith, sum, fits, f.narrow);
          longest = λ piece more e. let l = f.longest piece more e in omega (arith, sum, fits, l);
        }
    next (inr fails) f =
        let here : first_within n (p ∷ ps) ≡ [] = rw fails refl in
        let over : n < columns p = leb-false _ _ fails in
        let none : sum_by columns (first_within n (p ∷ ps)) ≡ 0 = ap (sum_by columns) here in
        record {
          behind = p ∷ ps;
          whole = ap (λ qs. qs ++ (p ∷ ps)) (sym here);
          narrow = omega (arith, none);
          longest = λ piece more e. let same : p ≡ piece = cc in subst (λ q. n < sum_by columns (first_within n (p ∷ ps)) + columns q) same (omega (arith, none, over));
        }

-- ---- their columns

sum-chars : (ps : List (List ℕ)) → columns_in (map chars ps) ≡ sum_by columns ps
sum-chars [] = refl
sum-chars (p ∷ ps) = sum_by-cons text_width (chars p) (map chars ps) ∙ ap (λ n. columns p + n) (sum-chars ps) ∙ sym (sum_by-cons columns p ps)

chars-concat : (ps qs : List (List ℕ)) → AllByRecursion IsUtf8 (ps ++ qs) → chars (concat ps) ≡ concat (map chars ps)
chars-concat [] qs all = chars-nil
chars-concat (p ∷ ps) qs all = chars-append p (concat ps) all.0 ∙ ap (λ cs. chars p ++ cs) (chars-concat ps qs all.1)

-- the first pieces of a line take the columns that they take one by one
front-columns : (line : List ℕ) (before behind : List (List ℕ)) → IsUtf8 line → IsLine (chars line) → pieces_in line ≡ before ++ behind → columns (concat before) ≡ sum_by columns before
front-columns line before behind utf8 one is =
    let parts : pieces (chars line) ≡ map chars before ++ map chars behind = sym (chars-pieces line utf8) ∙ ap (map chars) is ∙ map-append chars before behind in
    let whole : concat (map chars before) ++ concat (map chars behind) ≡ chars line = sym (concat-append (map chars before) (map chars behind)) ∙ ap concat (sym parts) ∙ concat-pieces (chars line) in
    ap text_width (chars-concat before behind (subst (AllByRecursion IsUtf8) is (utf8-pieces line utf8)))
    ∙ chain-sum (map chars before) (chain-front (map chars before) (map chars behind) (subst Chain parts (chain (chars line)))) (line-parts (concat (map chars before)) (concat (map chars behind)) (subst IsLine (sym whole) one)).0
    ∙ sum-chars before

pub begins : (n : ℕ) (line : List ℕ) → IsUtf8 line → IsLine (chars line) → IsBeginning n line (beginning n line)
begins n line utf8 one =
    let f = fitting n (pieces_in line) in
    let same = front-columns line (first_within n (pieces_in line)) f.behind utf8 one f.whole in
    record {
      before = first_within n (pieces_in line);
      behind = f.behind;
      whole = f.whole;
      is = refl;
      narrow = omega (arith, same, f.narrow);
      longest = λ piece more e. let l = f.longest piece more e in omega (arith, same, l);
    }

-- ---- with a suffix

utf8-front : (ps qs : List (List ℕ)) → AllByRecursion IsUtf8 (ps ++ qs) → IsUtf8 (concat ps)
utf8-front [] qs all = IsUtf8-nil
utf8-front (p ∷ ps) qs all = IsUtf8-append p (concat ps) all.0 (utf8-front ps qs all.1)

pub narrow-line : (n : ℕ) (suffix line : List ℕ) → IsUtf8 suffix → IsUtf8 line → IsLine (chars suffix) → IsLine (chars line) → AddsColumns suffix → columns (truncated_line n suffix line) ≤ n
narrow-line n suffix line suffix_text text one_suffix one adds = chosen (cases_Bool (nat_le (columns line) n)) (cases_Bool (nat_le (columns suffix) n))
  where
    chosen : (nat_le (columns line) n ≡ true) ⊎ (nat_le (columns line) n ≡ false) → (nat_le (columns suffix) n ≡ true) ⊎ (nat_le (columns suffix) n ≡ false) → columns (truncated_line n suffix line) ≤ n
    chosen (inl holds) q =
        let fits : columns line ≤ n = leb-true _ _ holds in
        rw (line-same n suffix line fits) fits
    chosen (inr fails) (inl holds) =
        let fits : columns suffix ≤ n = leb-true _ _ holds in
        let front = begins (n - columns suffix) line text one in
        let utf8 : IsUtf8 (beginning (n - columns suffix) line) = subst IsUtf8 (sym front.is) (utf8-front front.before front.behind (subst (AllByRecursion IsUtf8) front.whole (utf8-pieces line text))) in
        let sum : columns (beginning (n - columns suffix) line ++ suffix) ≡ columns (beginning (n - columns suffix) line) + columns suffix = ap text_width (chars-append (beginning (n - columns suffix) line) suffix utf8) ∙ adds (chars (beginning (n - columns suffix) line)) in
        rw (line-cut n suffix line (leb-false _ _ fails) fits) (omega (arith, sum, fits, front.narrow))
    chosen (inr fails) (inr past) =
        rw (line-gone n suffix line (leb-false _ _ fails) (leb-false _ _ past)) (begins n suffix suffix_text one_suffix).narrow

-- ---- suffixes that add their columns

simple-adds : (suffix : List ℕ) → list_all is_simple (chars suffix) ≡ true → AddsColumns suffix
simple-adds suffix simple = λ cs. str_width-append_simple false cs (chars suffix) simple

plain-simple : (bs : List ℕ) → ArePlain bs → list_all is_simple bs ≡ true
plain-simple [] all = refl
plain-simple (b ∷ bs) all =
    let here = All-head IsPlain b bs all in
    let low : nat_le 0x20 b ≡ true = le-leb _ _ (omega (arith, here.0)) in
    let high : nat_le b 0x7E ≡ true = le-leb _ _ (omega (arith, here.1)) in
    rw (low, high, plain-simple bs (All-tail IsPlain b bs all)) refl

pub plain-adds : (suffix : List ℕ) → ArePlain suffix → AddsColumns suffix
plain-adds suffix all = simple-adds suffix (ap (list_all is_simple) (plain-chars suffix all) ∙ plain-simple suffix all)

pub ellipsis-adds : AddsColumns (0xE2 ∷ 0x80 ∷ 0xA6 ∷ [])
unfolding chars unicode_width
ellipsis-adds = simple-adds (0xE2 ∷ 0x80 ∷ 0xA6 ∷ []) refl
