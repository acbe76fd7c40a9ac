-- What holds of the pieces of every line.
use Rattle.std.specs.Prelude.{◌≡◌, ◌+◌, ◌≤◌, ◌==◌, ◌++◌, ℕ, List, ◌∷◌, not, true}
use Rattle.std.specs.List.{concat, list_all}
use Rattle.tabled_width.specs.Columns.{text_width}
use Rattle.tabled_width.specs.Pieces.{character_width, columns_in, pieces}

-- characters without a newline
abbrev pub IsLine : List ℕ → Type 0
IsLine cs = list_all (λ c. not (c == 10)) cs ≡ true

-- the first character takes a column by itself
abbrev pub BeginsWide : List ℕ → Type 0
BeginsWide cs = (c : ℕ) × (rest : List ℕ) × (cs ≡ c ∷ rest) × (1 ≤ character_width c)

-- the pieces make up the line, and its columns are theirs; wherever it is cut between two, the columns add up, and what is behind begins with a character that takes some
pub record AddsUp (line : List ℕ) : Type 0 where
  pub whole : concat (pieces line) ≡ line
  pub sum : text_width line ≡ columns_in (pieces line)
  pub cuts : (before behind : List (List ℕ)) → pieces line ≡ before ++ behind → text_width line ≡ text_width (concat before) + text_width (concat behind)
  pub begins : (before behind : List (List ℕ)) (one next : List ℕ) → pieces line ≡ before ++ (one ∷ next ∷ behind) → BeginsWide next
