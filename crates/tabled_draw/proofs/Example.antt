-- The picture of one table, computed.
use Rattle.tabled_draw.proofs.Common.{Grid, List, Rectangle, [], picture, place, rectangle, refl, sized, with_newlines, ℕ, ◌∷◌, ◌≡◌}
use Rattle.std.specs.Prelude.{codes}
use Rattle.tabled_draw.specs.Owners.{owner}
use Rattle.tabled_draw.specs.Sizes.{sizes}
use Rattle.tabled_draw.specs.declared.alignment.Alignment.TheVariants.{Right}
use Rattle.tabled_draw.specs.declared.style.TheConstants.Style.{ASCII, MODERN}
use Rattle.unicode_width.proofs.Computing.{unicode_width}

abbrev table : Grid (List ℕ)
table = record { rows = 3; columns = 3; cells = (codes "0" ∷ codes "1" ∷ codes "x" ∷ []) ∷ (codes "y" ∷ codes "2" ∷ codes "3" ∷ []) ∷ (codes "4" ∷ codes "z" ∷ codes "w" ∷ []) ∷ [] }

abbrev merged : List Rectangle
merged = rectangle (place 0 0) (sized 2 1) ∷ rectangle (place 0 1) (sized 1 2) ∷ rectangle (place 2 0) (sized 1 3) ∷ []

pub drawn : with_newlines (picture ASCII [] table merged) ≡ codes "+---+---+---+\n| 0 | 1     |\n+   +---+---+\n|   | 2 | 3 |\n+---+---+---+\n| 4         |\n+---+---+---+\n"
unfolding unicode_width owner sizes
drawn = refl

-- one in the middle, and four around it
abbrev nested : List Rectangle
nested = rectangle (place 0 0) (sized 1 2) ∷ rectangle (place 0 2) (sized 2 1) ∷ rectangle (place 1 0) (sized 2 1) ∷ rectangle (place 2 1) (sized 1 2) ∷ []

pub modern : with_newlines (picture MODERN (Right ∷ []) table nested) ≡ codes "┌───────┬───┐\n│     0 │ x │\n├───┬───┤   │\n│ y │ 2 │   │\n│   ├───┴───┤\n│   │     z │\n└───┴───────┘\n"
unfolding unicode_width owner sizes
modern = refl
