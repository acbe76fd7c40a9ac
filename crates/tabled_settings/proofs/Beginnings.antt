-- The beginnings of texts that take at most n columns.
use Rattle.std.proofs.Common.{[], ◌++◌, ◌+◌, ◌-◌, ◌<◌, ◌∙◌, ◌∷◌, ◌≡◌, ◌≤◌, List, ap, append-nil, append_assoc, refl, sym, ℕ}
use Rattle.std.proofs.lemmas.Bool.{le-leb, lt-leb}
use Rattle.std.specs.List.{concat}
use Rattle.tabled_settings.specs.Truncates.{columns, first_within}

-- one piece more is put
pub begin-more : (left : ℕ) (piece : List ℕ) (rest : List (List ℕ)) (out end all : List ℕ) (taken : ℕ) → columns piece ≤ left → taken ≡ columns piece → end ≡ out ++ piece → out ++ concat (first_within left (piece ∷ rest)) ≡ all → end ++ concat (first_within (left - taken) rest) ≡ all
begin-more left piece rest out end all taken fits is put same =
    let here : concat (first_within left (piece ∷ rest)) ≡ piece ++ concat (first_within (left - columns piece) rest) = rw (le-leb _ _ fits) refl in
    ap (λ xs. xs ++ concat (first_within (left - taken) rest)) put
    ∙ append_assoc out piece (concat (first_within (left - taken) rest))
    ∙ ap (λ n. out ++ (piece ++ concat (first_within (left - n) rest))) is
    ∙ ap (λ xs. out ++ xs) (sym here)
    ∙ same

-- the next piece doesn't fit
pub begin-full : (left : ℕ) (piece : List ℕ) (rest : List (List ℕ)) (out all : List ℕ) → left < columns piece → out ++ concat (first_within left (piece ∷ rest)) ≡ all → out ≡ all
begin-full left piece rest out all over same =
    let here : concat (first_within left (piece ∷ rest)) ≡ [] = rw (lt-leb _ _ over) refl in
    sym (append-nil out) ∙ ap (λ xs. out ++ xs) (sym here) ∙ same

-- none is left
pub begin-done : (left : ℕ) (out all : List ℕ) → out ++ concat (first_within left []) ≡ all → out ≡ all
begin-done left out all same = sym (append-nil out) ∙ same
