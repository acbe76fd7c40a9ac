-- Texts cut at the occurrences of another.
use Rattle.std.proofs.Common.{[], ◌++◌, ◌-◌, ◌<◌, ◌==◌, ◌∙◌, ◌∷◌, ◌≡◌, ◌≤◌, ◌⊎◌, Bool, List, None, Some, ap, append-nil, append_assoc, arith, cond, drop, false, flat_map, inl, inr, length, not, refl, suc, sym, take, true, zero, ℕ}
use Rattle.std.proofs.Math.Seq.{drop-append_seam, drop-nil}
use Rattle.std.proofs.lemmas.Bool.{cases_Bool, false≢true}
use Rattle.std.proofs.lemmas.Bool.Decides.{Decides-eqb}
use Rattle.std.proofs.lemmas.Slice.Eq.{starts_is}
use Rattle.std.specs.List.{join_by, onto_first, starts_with}
use Rattle.std.specs.Prelude.{IsTrue, MatchBool, nat_eq}
use Rattle.std.specs.Str.Pattern.{FindsText, HasMatch, LacksTextAt}
use Rattle.tabled_settings.specs.Replaced.{parts_behind, replaced_text}

starts-yes : (n s rest : List ℕ) → s ≡ n ++ rest → starts_with nat_eq s n ≡ true
starts-yes n s rest is = (starts_is Decides-eqb s n (starts_with nat_eq s n) refl).1 rest is

starts-no : (n s : List ℕ) → ((rest : List ℕ) → s ≡ n ++ rest → ⊥) → starts_with nat_eq s n ≡ false
starts-no n s lacks = unless (starts_with nat_eq s n) (λ is. lacks _ ((starts_is Decides-eqb s n (starts_with nat_eq s n) refl).0 is))
  where
    unless : (b : Bool) → (b ≡ true → ⊥) → b ≡ false
    unless true never = absurd (never refl)
    unless false never = refl

-- bytes of what was found are passed over
passed-over : (n : List ℕ) (k : ℕ) (text : List ℕ) → parts_behind n k text ≡ parts_behind n 0 (drop k text)
passed-over n zero text = refl
passed-over n (suc k) [] = refl
passed-over n (suc k) (b ∷ text) = passed-over n k text

-- the first part ends where the other text first occurs
found : (n bs : List ℕ) (i : ℕ) → 1 ≤ length n → ((k : ℕ) → k < i → LacksTextAt n bs k) → (rest : List ℕ) → drop i bs ≡ n ++ rest → parts_behind n 0 bs ≡ take i bs ∷ parts_behind n 0 rest
found [] bs i some lacks rest is = absurd (omega (arith, some))
found (c ∷ m) [] i some lacks rest is = let none : [] ≡ c ∷ (m ++ rest) = sym (drop-nil i) ∙ is in cc
found (c ∷ m) (b ∷ bs) zero some lacks rest is =
    let tail : bs ≡ m ++ rest = cc in
    let less : length (c ∷ m) - 1 ≡ length m = omega arith in
    rw (starts-yes (c ∷ m) (b ∷ bs) rest is) (ap (λ ps. [] ∷ ps) (passed-over (c ∷ m) (length (c ∷ m) - 1) bs ∙ ap (λ k. parts_behind (c ∷ m) 0 (drop k bs)) less ∙ ap (parts_behind (c ∷ m) 0) (ap (drop (length m)) tail ∙ drop-append_seam m rest)))
found (c ∷ m) (b ∷ bs) (suc i) some lacks rest is =
    rw (starts-no (c ∷ m) (b ∷ bs) (lacks 0 (omega arith)), found (c ∷ m) bs i some (λ k less. lacks (suc k) (omega (arith, less))) rest is) refl

-- where it doesn't occur, there is one part
unparted : (n bs : List ℕ) → 1 ≤ length n → ((i : ℕ) → i ≤ length bs → LacksTextAt n bs i) → parts_behind n 0 bs ≡ bs ∷ []
unparted [] bs some lacks = absurd (omega (arith, some))
unparted (c ∷ m) [] some lacks = refl
unparted (c ∷ m) (b ∷ bs) some lacks = rw (starts-no (c ∷ m) (b ∷ bs) (lacks 0 (omega arith)), unparted (c ∷ m) bs some (λ i less. lacks (suc i) (omega (arith, less)))) refl

abbrev IsSome : List (List ℕ) → Type 0
IsSome parts = (part : List ℕ) × (more : List (List ℕ)) × (parts ≡ part ∷ more)

some-parts : (n : List ℕ) (k : ℕ) (bs : List ℕ) → IsSome (parts_behind n k bs)
some-parts n zero [] = ([], [], refl)
some-parts n (suc k) [] = ([], [], refl)
some-parts n (suc k) (b ∷ bs) = some-parts n k bs
some-parts n zero (b ∷ bs) = some-next (starts_with nat_eq (b ∷ bs) n) (some-parts n 0 bs)
  where
    some-next : (is : Bool) → IsSome (parts_behind n 0 bs) → IsSome (cond is ([] ∷ parts_behind n (length n - 1) bs) (onto_first b (parts_behind n 0 bs)))
    some-next true some = ([], parts_behind n (length n - 1) bs, refl)
    some-next false (part, more, is) = (b ∷ part, more, ap (onto_first b) is)

put-before : (to : List ℕ) (parts : List (List ℕ)) → IsSome parts → flat_map (λ part. to ++ part) parts ≡ to ++ join_by (λ part. part) to parts
put-before to parts (part, more, is) = rw is (append_assoc to part (flat_map (λ p. to ++ p) more))

-- the text before the first occurrence stays, and what is behind it is replaced
pub replaced-first : (from to bs : List ℕ) (i : ℕ) → 1 ≤ length from → ((k : ℕ) → k < i → LacksTextAt from bs k) → (rest : List ℕ) → drop i bs ≡ from ++ rest → replaced_text from to bs ≡ take i bs ++ (to ++ replaced_text from to rest)
replaced-first [] to bs i some lacks rest is = absurd (omega (arith, some))
replaced-first (c ∷ m) to bs i some lacks rest is =
    ap (join_by (λ part. part) to) (found (c ∷ m) bs i some lacks rest is) ∙ ap (λ xs. take i bs ++ xs) (put-before to (parts_behind (c ∷ m) 0 rest) (some-parts (c ∷ m) 0 rest))

-- a text without an occurrence stays
pub replaced-none : (from to bs : List ℕ) → 1 ≤ length from → ((i : ℕ) → i ≤ length bs → LacksTextAt from bs i) → replaced_text from to bs ≡ bs
replaced-none [] to bs some lacks = absurd (omega (arith, some))
replaced-none (c ∷ m) to bs some lacks = ap (join_by (λ part. part) to) (unparted (c ∷ m) bs some lacks) ∙ append-nil bs

pub replaced-lacking : (from to bs : List ℕ) (r : Bool) → 1 ≤ length from → MatchBool r (HasMatch (FindsText from) bs) (FindsText from bs None) → IsTrue (not r) → bs ≡ replaced_text from to bs
replaced-lacking from to bs true some cases free = absurd (false≢true free)
replaced-lacking from to bs false some cases free = sym (replaced-none from to bs some cases)

-- so does any, where the part is empty
pub replaced-empty : (from to bs : List ℕ) → length from ≡ 0 → bs ≡ replaced_text from to bs
replaced-empty [] to bs none = sym (append-nil bs)
replaced-empty (c ∷ m) to bs none = absurd (omega (arith, none))

-- the text up to an occurrence and what comes in its place, put behind another text
pub put-part : (from to bs before others out mid end all : List ℕ) (i j : ℕ) → 1 ≤ length from → FindsText from bs (Some (i, j)) → before ≡ take i bs → others ≡ drop j bs → mid ≡ out ++ before → end ≡ mid ++ to → out ++ replaced_text from to bs ≡ all → end ++ replaced_text from to others ≡ all
put-part from to bs before others out mid end all i j some finds is behind put turn same =
    let rest : drop i bs ≡ from ++ others = finds.1.split ∙ ap (λ xs. from ++ xs) (sym behind) in
    ap (λ xs. xs ++ replaced_text from to others) (turn ∙ ap (λ xs. xs ++ to) put)
    ∙ regroup before (replaced_text from to others)
    ∙ ap (λ xs. out ++ xs) (ap (λ xs. xs ++ (to ++ replaced_text from to others)) is ∙ sym (replaced-first from to bs i some finds.0 others rest))
    ∙ same
  where
    regroup : (a b : List ℕ) → ((out ++ a) ++ to) ++ b ≡ out ++ (a ++ (to ++ b))
    regroup a b = simp append_assoc

-- and the rest
pub put-rest : (from to bs out end all : List ℕ) → 1 ≤ length from → FindsText from bs None → end ≡ out ++ bs → out ++ replaced_text from to bs ≡ all → end ≡ all
put-rest from to bs out end all some lacks put same = put ∙ ap (λ xs. out ++ xs) (sym (replaced-none from to bs some lacks)) ∙ same

pub not-empty : (from : List ℕ) → (length from == 0) ≡ false → 1 ≤ length from
not-empty [] is = cc
not-empty (c ∷ m) is = omega arith

-- ---- the parts, with the other text between them

join-onto : (n : List ℕ) (b : ℕ) (parts : List (List ℕ)) → IsSome parts → join_by (λ part. part) n (onto_first b parts) ≡ b ∷ join_by (λ part. part) n parts
join-onto n b parts (part, more, is) = rw is refl

back : (n : List ℕ) (k : ℕ) (bs : List ℕ) → 1 ≤ length n → join_by (λ part. part) n (parts_behind n k bs) ≡ drop k bs
back n zero [] some = refl
back n (suc k) [] some = refl
back n (suc k) (b ∷ bs) some = back n k bs some
back n zero (b ∷ bs) some = next (cases_Bool (starts_with nat_eq (b ∷ bs) n)) (back n (length n - 1) bs some) (back n 0 bs some)
  where
    next : (starts_with nat_eq (b ∷ bs) n ≡ true) ⊎ (starts_with nat_eq (b ∷ bs) n ≡ false) → join_by (λ part. part) n (parts_behind n (length n - 1) bs) ≡ drop (length n - 1) bs → join_by (λ part. part) n (parts_behind n 0 bs) ≡ bs → join_by (λ part. part) n (parts_behind n 0 (b ∷ bs)) ≡ b ∷ bs
    next (inl starts) behind rest =
        let whole = (starts_is Decides-eqb (b ∷ bs) n (starts_with nat_eq (b ∷ bs) n) refl).0 starts in
        let one : suc (length n - 1) ≡ length n = omega (arith, some) in
        rw starts (put-before n (parts_behind n (length n - 1) bs) (some-parts n (length n - 1) bs) ∙ ap (λ xs. n ++ xs) behind ∙ ap (λ k. n ++ drop k (b ∷ bs)) one ∙ sym whole)
    next (inr other) behind rest = rw other (join-onto n b (parts_behind n 0 bs) (some-parts n 0 bs) ∙ ap (λ xs. b ∷ xs) rest)

-- a text replaced by itself
pub replaced-itself : (from bs : List ℕ) → replaced_text from from bs ≡ bs
replaced-itself [] bs = append-nil bs
replaced-itself (c ∷ m) bs = back (c ∷ m) 0 bs (omega arith)
