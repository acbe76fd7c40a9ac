-- How columns are brought to the front of a row. Only the contracts of that work speak of this.
use Rattle.std.specs.Prelude.{ℕ, ◌+◌, Bool, true, false, List, [], ◌∷◌}
use Rattle.std.specs.List.{swap}

-- the marked members from j on, each swapped with the next one from `front` on
abbrev pub brought_forward : {A : Type 0} → List Bool → ℕ → ℕ → List A → List A
brought_forward [] front j xs = xs
brought_forward (true ∷ marks) front j xs = brought_forward marks (front + 1) (j + 1) (swap xs front j)
brought_forward (false ∷ marks) front j xs = brought_forward marks front (j + 1) xs
