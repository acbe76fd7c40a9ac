-- Rows of any lengths, padded to the longest.
use Rattle.tabled_table.proofs.Common.{[], ◌++◌, ◌+◌, ◌-◌, ◌∙◌, ◌∷◌, ◌≡◌, ◌≤◌, AreWide, List, ap, append_assoc, arith, common_steps, from_uneven, length, length-map, longest, map, map-id, maps_agree, max, padded_to, replicate-append-replicate, with_record, ℕ}
use Rattle.tabled_table.proofs.Padded.{length-padded_to}

pub even-longest : {A : Type 0} (n : ℕ) (filler : A) (rows : List (List A)) → longest rows ≤ n → AreWide n (map (padded_to n filler) rows)
even-longest n filler [] h = tt
even-longest n filler (row ∷ rows) h = (omega (arith, length-padded_to n filler row), even-longest n filler rows (omega arith))

pub longest-push : {A : Type 0} (rows : List (List A)) (row : List A) → longest (rows ++ row ∷ []) ≡ max (longest rows) (length row)
longest-push [] row = omega arith
longest-push (r ∷ rows) row = ap (max (length r)) (longest-push rows row) ∙ omega arith

-- padded twice
padded_to-padded_to : {A : Type 0} (n m : ℕ) (filler : A) (xs : List A) → n ≤ m → padded_to m filler (padded_to n filler xs) ≡ padded_to m filler xs
padded_to-padded_to n m filler xs h = grind (arith, common_steps, length-padded_to, append_assoc, replicate-append-replicate)

all-padded_twice : {A : Type 0} (n m : ℕ) (filler : A) (rows : List (List A)) → n ≤ m → map (padded_to m filler) (map (padded_to n filler) rows) ≡ map (padded_to m filler) rows
all-padded_twice n m filler rows h = maps_agree (padded_to m filler) (padded_to n filler) (padded_to m filler) (λ row. row) (λ row. padded_to-padded_to n m filler row h) rows ∙ ap (map (padded_to m filler)) (map-id rows)

-- one more record after the others
pub from_uneven-push : (rows : List (List (List ℕ))) (row : List (List ℕ)) → from_uneven (rows ++ row ∷ []) ≡ with_record (from_uneven rows) (length (from_uneven rows).rows) row
from_uneven-push rows row = grind (arith, common_steps, length-map, longest-push, all-padded_twice)
