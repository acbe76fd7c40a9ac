-- The pieces that are one character, and the widest words between those that are spaces.
use Rattle.std.proofs.Common.{[], ◌+◌, ◌∙◌, ◌∷◌, ◌≡◌, ◌⊎◌, Bool, List, ap, arith, cond, encode_utf8_all, eqb-true, false, fold, inl, inr, map, max, refl, sym, true, zero-add, ℕ}
use Rattle.std.proofs.lemmas.Bool.{cases_Bool}
use Rattle.std.proofs.lemmas.List.Sums.{sum_by-cons}
use Rattle.std.proofs.lemmas.Str.{encodes-chars}
use Rattle.std.specs.Char.{encode_utf8}
use Rattle.std.specs.Cmp.Lexicographic.{other_text, same_text}
use Rattle.std.specs.List.{onto_first, slice_split}
use Rattle.std.specs.Str.{IsUtf8, bytes_eq, chars}
use Rattle.tabled_width.specs.Columns.{text_width}
use Rattle.tabled_width.specs.Pieces.{columns_in, is_just, is_space}
use borrow.Author.Tests.{eq-eqb}

pub just-is : (k : ℕ) (cs : List ℕ) → is_just k cs ≡ true → cs ≡ k ∷ []
just-is k [] h = cc
just-is k (c ∷ []) h = ap (λ x. x ∷ []) (eqb-true c k h)
just-is k (c ∷ d ∷ cs) h = cc

just-self : (k : ℕ) → is_just k (k ∷ []) ≡ true
just-self k = eq-eqb k k refl

-- a text that is compared with one character
pub just-text : (k : ℕ) → chars (k ∷ []) ≡ k ∷ [] → encode_utf8_all (k ∷ []) ≡ k ∷ [] → (bs : List ℕ) → IsUtf8 bs → bytes_eq bs (k ∷ []) ≡ is_just k (chars bs)
just-text k decoded encoded bs utf8 = same-test (cases_Bool (bytes_eq bs (k ∷ []))) (cases_Bool (is_just k (chars bs)))
  where
    same-test : (bytes_eq bs (k ∷ []) ≡ true) ⊎ (bytes_eq bs (k ∷ []) ≡ false) → (is_just k (chars bs) ≡ true) ⊎ (is_just k (chars bs) ≡ false) → bytes_eq bs (k ∷ []) ≡ is_just k (chars bs)
    same-test (inl t) q = t ∙ sym (ap (λ xs. is_just k (chars xs)) (same_text bs (k ∷ []) (sym t)) ∙ ap (is_just k) decoded ∙ just-self k)
    same-test (inr f) (inl t) = absurd (other_text bs (k ∷ []) (sym f) (sym (encodes-chars bs utf8) ∙ ap encode_utf8_all (just-is k (chars bs) t) ∙ encoded))
    same-test (inr f) (inr g) = f ∙ sym g

pub newline-text : (bs : List ℕ) → IsUtf8 bs → bytes_eq bs (10 ∷ []) ≡ is_just 10 (chars bs)
unfolding chars encode_utf8
newline-text bs utf8 = just-text 10 refl refl bs utf8

pub blank-text : (bs : List ℕ) → IsUtf8 bs → bytes_eq bs (32 ∷ []) ≡ is_just 32 (chars bs)
unfolding chars encode_utf8
blank-text bs utf8 = just-text 32 refl refl bs utf8

-- the widest word where some columns of the first are read already, and the widest before it is known
abbrev pub widest_from : ℕ → ℕ → List (List ℕ) → ℕ
widest_from most columns [] = max most columns
widest_from most columns (p ∷ ps) = cond (is_space p) (widest_from (max most columns) 0 ps) (widest_from most (columns + text_width p) ps)

abbrev with_first : ℕ → List (List (List ℕ)) → List ℕ
with_first columns [] = []
with_first columns (word ∷ words) = (columns + columns_in word) ∷ map columns_in words

abbrev most_of : ℕ → List ℕ → ℕ
most_of most widths = fold max most widths

with_none : (words : List (List (List ℕ))) → with_first 0 words ≡ map columns_in words
with_none [] = refl
with_none (word ∷ words) = ap (λ n. n ∷ map columns_in words) (zero-add (columns_in word))

-- what is split has a part
abbrev some : List (List (List ℕ)) → List (List (List ℕ))
some [] = [] ∷ []
some (word ∷ words) = word ∷ words

some-split : (ps : List (List ℕ)) → some (slice_split is_space ps) ≡ slice_split is_space ps
some-split [] = refl
some-split (p ∷ ps) = some-next (is_space p)
  where
    onto : (words : List (List (List ℕ))) → some (onto_first p words) ≡ onto_first p words
    onto [] = refl
    onto (word ∷ words) = refl

    some-next : (b : Bool) → some (cond b ([] ∷ slice_split is_space ps) (onto_first p (slice_split is_space ps))) ≡ cond b ([] ∷ slice_split is_space ps) (onto_first p (slice_split is_space ps))
    some-next true = refl
    some-next false = onto (slice_split is_space ps)

with_more : (columns : ℕ) (p : List ℕ) (words : List (List (List ℕ))) → with_first columns (onto_first p words) ≡ with_first (columns + text_width p) (some words)
with_more columns p [] = ap (λ n. n ∷ []) (ap (λ n. columns + n) (sum_by-cons text_width p []) ∙ (let e : columns + (text_width p + 0) ≡ columns + text_width p + 0 = omega arith in e))
with_more columns p (word ∷ words) = ap (λ n. n ∷ map columns_in words) (ap (λ n. columns + n) (sum_by-cons text_width p word) ∙ (let e : columns + (text_width p + columns_in word) ≡ columns + text_width p + columns_in word = omega arith in e))

from_words : (most columns : ℕ) (ps : List (List ℕ)) → widest_from most columns ps ≡ most_of most (with_first columns (slice_split is_space ps))
from_words most columns [] = ap (max most) (let e : columns ≡ columns + 0 = omega arith in e)
from_words most columns (p ∷ ps) = widest-next (is_space p) (from_words (max most columns) 0 ps) (from_words most (columns + text_width p) ps)
  where
    widest-next : (b : Bool) → widest_from (max most columns) 0 ps ≡ most_of (max most columns) (with_first 0 (slice_split is_space ps)) → widest_from most (columns + text_width p) ps ≡ most_of most (with_first (columns + text_width p) (slice_split is_space ps)) → cond b (widest_from (max most columns) 0 ps) (widest_from most (columns + text_width p) ps) ≡ most_of most (with_first columns (cond b ([] ∷ slice_split is_space ps) (onto_first p (slice_split is_space ps))))
    widest-next true space more = space ∙ ap (most_of (max most columns)) (with_none (slice_split is_space ps)) ∙ ap (λ n. most_of (max most n) (map columns_in (slice_split is_space ps))) (let e : columns ≡ columns + 0 = omega arith in e)
    widest-next false space more = more ∙ ap (most_of most) (ap (with_first (columns + text_width p)) (sym (some-split ps)) ∙ sym (with_more columns p (slice_split is_space ps)))

fold-columns : (most : ℕ) (words : List (List (List ℕ))) → most_of most (map columns_in words) ≡ fold (λ most word. max most (columns_in word)) most words
fold-columns most [] = refl
fold-columns most (word ∷ words) = fold-columns (max most (columns_in word)) words

pub widest-words : (ps : List (List ℕ)) → widest_from 0 0 ps ≡ fold (λ most word. max most (columns_in word)) 0 (slice_split is_space ps)
widest-words ps = from_words 0 0 ps ∙ ap (most_of 0) (with_none (slice_split is_space ps)) ∙ fold-columns 0 (slice_split is_space ps)
