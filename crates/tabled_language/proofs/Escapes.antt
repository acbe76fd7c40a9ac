-- Escapes undone one after another.
use Rattle.std.proofs.lemmas.List.{get_or-take}
use Rattle.std.proofs.lemmas.List.Folds.{list_any_none}
use Rattle.tabled_language.proofs.Common.{All-from_get_or, [], ◌++◌, ◌<◌, ◌∙◌, ◌∷◌, ◌≡◌, ◌≤◌, List, None, Option, Some, ap, append-nil, append_assoc, arith, before, drop, drop_more, eqb, escape, fails_before_first, false, get_or, length, length-take, list_any, nat_tests, option_and_then, option_map, or_parts, passes_at_first, position_or_len, refl, subst, sym, take, take-append-drop, take_all, unescaped, ℕ}

-- bytes before a text, where there is one
abbrev pub all_before : List ℕ → Option (List ℕ) → Option (List ℕ)
all_before bs text = option_map (λ (cs : List ℕ). bs ++ cs) text

pub all_before-none : (text : Option (List ℕ)) → all_before [] text ≡ text
all_before-none None = refl
all_before-none (Some t) = refl

pub all_before-all : (bs cs : List ℕ) (text : Option (List ℕ)) → all_before bs (all_before cs text) ≡ all_before (bs ++ cs) text
all_before-all bs cs None = refl
all_before-all bs cs (Some t) = ap Some (sym (append_assoc bs cs t))

-- a byte that is no backslash stands for itself
pub unescaped-plain : (b : ℕ) (bs : List ℕ) → eqb b 92 ≡ false → unescaped (b ∷ bs) ≡ before b (unescaped bs)
unescaped-plain b [] e = rw e refl
unescaped-plain b (c ∷ bs) e = rw e refl

-- so do bytes without backslashes before a word
pub unescaped-behind : (plain word : List ℕ) → list_any (λ b. eqb b 92) plain ≡ false → unescaped (plain ++ word) ≡ all_before plain (unescaped word)
unescaped-behind [] word e = sym (all_before-none (unescaped word))
unescaped-behind (b ∷ plain) word e =
    let parts = or_parts (eqb b 92) _ e in
    unescaped-plain b (plain ++ word) parts.0 ∙ ap (before b) (unescaped-behind plain word parts.1) ∙ all_before-all (b ∷ []) plain (unescaped word)

-- a word without backslashes is its text
pub unescaped-clean : (word : List ℕ) → list_any (λ b. eqb b 92) word ≡ false → unescaped word ≡ Some word
unescaped-clean word e = ap unescaped (sym (append-nil word)) ∙ unescaped-behind word [] e ∙ ap Some (append-nil word)

-- before the first backslash there is none
none_before_first : (word : List ℕ) (n : ℕ) → n ≤ position_or_len (λ b. eqb b 92) word → list_any (λ b. eqb b 92) (take n word) ≡ false
none_before_first word n before =
    let plain : (i : ℕ) → i < length (take n word) → eqb (get_or (take n word) i 0) 92 ≡ false = λ i within.
    let short : i < n = omega (arith, within, length-take n word) in
    ap (λ b. eqb b 92) (get_or-take n word i 0 short) ∙ fails_before_first (λ b. eqb b 92) word i 0 (omega (arith, short, before)) in
    list_any_none (λ b. eqb b 92) (take n word) (All-from_get_or (λ b. eqb b 92 ≡ false) (take n word) 0 plain)

-- the text of what stands before the first backslash is itself
pub unescaped-from : (word : List ℕ) (place : ℕ) → position_or_len (λ b. eqb b 92) word ≡ place → unescaped word ≡ all_before (take place word) (unescaped (drop place word))
unescaped-from word place first = ap unescaped (sym (take-append-drop place word)) ∙ unescaped-behind (take place word) (drop place word) (none_before_first word place (omega (arith, first)))

-- bytes before a word without backslashes
pub unescaped-last : (bytes word : List ℕ) → position_or_len (λ b. eqb b 92) word ≡ length word → all_before bytes (unescaped word) ≡ Some (bytes ++ word)
unescaped-last bytes word none = ap (all_before bytes) (unescaped-clean word (ap (list_any (λ b. eqb b 92)) (sym (take_all (length word) word (omega arith))) ∙ none_before_first word (length word) (omega (arith, none))))

-- where the first backslash stands
pub first_backslash : (word : List ℕ) (place : ℕ) → position_or_len (λ b. eqb b 92) word ≡ place → place < length word → get_or word place 0 ≡ 92
first_backslash word place first within =
    let passes = passes_at_first (λ (b : ℕ). eqb b 92) word 0 (subst (λ i. i < length word) (sym first) within) in
    subst (λ i. get_or word i 0 ≡ 92) first (grind (arith, nat_tests, passes))

-- bytes of which there are two
two_first : (bs : List ℕ) → 2 ≤ length bs → bs ≡ get_or bs 0 0 ∷ get_or bs 1 0 ∷ drop 2 bs
two_first [] two = absurd (omega (arith, two))
two_first (b ∷ []) two = absurd (omega (arith, two))
two_first (b ∷ c ∷ bs) two = refl

-- what stands from the first backslash on
pub from_backslash : (word behind : List ℕ) (place : ℕ) → position_or_len (λ b. eqb b 92) word ≡ place → place < length word → behind ≡ drop place word → 2 ≤ length behind → drop place word ≡ 92 ∷ get_or behind 1 0 ∷ drop 2 behind
from_backslash word behind place first within is two =
    let backslash : get_or behind 0 0 ≡ 92 = ap (λ bs. get_or bs 0 0) (is ∙ drop_more word place 0 within) ∙ first_backslash word place first within in
    sym is ∙ two_first behind two ∙ ap (λ b. b ∷ get_or behind 1 0 ∷ drop 2 behind) backslash

-- it begins no escape
pub no_escape_at : (bytes word behind : List ℕ) (place : ℕ) → position_or_len (λ b. eqb b 92) word ≡ place → drop place word ≡ behind → unescaped behind ≡ None → all_before bytes (unescaped word) ≡ None
no_escape_at bytes word behind place first is none = ap (all_before bytes) (unescaped-from word place first ∙ ap (λ w. all_before (take place word) (unescaped w)) is ∙ ap (all_before (take place word)) none)

-- it begins one
pub escape_at : (bytes word others : List ℕ) (place letter e : ℕ) → position_or_len (λ b. eqb b 92) word ≡ place → drop place word ≡ 92 ∷ letter ∷ others → escape letter ≡ Some e → all_before bytes (unescaped word) ≡ all_before ((bytes ++ take place word) ++ e ∷ []) (unescaped others)
escape_at bytes word others place letter e first is read =
    let start = take place word in
    let undone : unescaped (92 ∷ letter ∷ others) ≡ all_before (e ∷ []) (unescaped others) = ap (option_and_then (λ x. before x (unescaped others))) read in
    ap (all_before bytes) (unescaped-from word place first ∙ ap (λ w. all_before start (unescaped w)) is ∙ ap (all_before start) undone) ∙ ap (all_before bytes) (all_before-all start (e ∷ []) (unescaped others)) ∙ all_before-all bytes (start ++ e ∷ []) (unescaped others) ∙ ap (λ bs. all_before bs (unescaped others)) (sym (append_assoc bytes start (e ∷ [])))
