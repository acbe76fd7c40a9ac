-- Marks of places.
use Rattle.std.specs.Prelude.{◌≡◌, ℕ, ◌+◌, ◌*◌, Bool, true, false, ltb, ◌&&◌, not, if◌then◌else◌, List, get_or, length, Option, Some, None}
use Rattle.std.specs.List.{AllByRecursion}
use Rattle.std.specs.Option.{IsSome, unwrap_or}
use Rattle.tabled_grid.specs.declared.config.position.Position.{Position}
use Rattle.tabled_select.specs.Algebra.{is_among}
use Rattle.tabled_grid.specs.Entity.{same_place}

-- of each place the mark, yes or no, where there is room for one
abbrev pub Marks : Type 0
Marks = Position → Option Bool

-- there is room for the mark of a place
abbrev pub HasRoom : Marks → Position → Type 0
HasRoom s p = IsSome (s p)

-- a place is marked
abbrev pub has : Marks → Position → Bool
has s p = unwrap_or (s p) false

-- one place has this mark, and all others are as they were
abbrev pub SetsMark : Marks → Marks → Position → Bool → Type 0
SetsMark old new p mark = (q : Position) → new q ≡ (if same_place p q then Some mark else old q)

-- there is room for these places, and those are marked that are among them, or none
pub record MarksAll (s : Marks) (places : List Position) (mark : Bool) : Type 0 where
  pub room : AllByRecursion (HasRoom s) places
  pub just : (p : Position) → has s p ≡ (is_among places p && mark)

-- where the mark of a place stands in a list of marks of all places, row by row
abbrev pub mark_index : ℕ → Position → ℕ
mark_index columns p = p.row * columns + p.col

-- the mark of a place in such a list
abbrev pub mark_at : ℕ → List Bool → Marks
mark_at columns marks p = if ltb p.col columns && ltb (mark_index columns p) (length marks) then Some (get_or marks (mark_index columns p) false) else None

-- the marked places pass, or else the others
abbrev pub passes : Bool → Marks → Position → Bool
passes true s p = has s p
passes false s p = not (has s p)
