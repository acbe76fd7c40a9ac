-- Steps that do what options do, and leave where they are refused what these leave.
use Rattle.std.specs.Prelude.{◌≡◌, ℕ, List}
use Rattle.std.specs.String.{string_bytes}
use Rattle.tabled_grid.specs.Along.{count_along}
use Rattle.tabled_grid.specs.Bounds.{indexes}
use Rattle.tabled_grid.specs.Grid.{Grid, map_grid}
use Rattle.tabled_grid.specs.Spans.{SpanMap}
use Rattle.tabled_grid.specs.declared.config.bounds.ToBounds.{Ghosts as BoundsOf}
use Rattle.tabled_grid.specs.declared.records.axis.Axis.{Axis}
use Rattle.tabled_grid.specs.declared.records.axis.Axis.TheVariants.{Rows, Columns}
use Rattle.tabled_options.specs.Does.{Change, EachListed}
use Rattle.tabled_options.specs.Shapes.{FitsAfter}
use Rattle.tabled_options.specs.declared.cell_option.CellOption.{Ghosts as CellOptionOf}
use Rattle.tabled_options.specs.declared.table_option.TableOption.{Ghosts as TableOptionOf}
use Rattle.tabled_select.specs.Locators.{columns_with}
use Rattle.tabled_select.specs.declared.location.Location.{Ghosts as LocationOf}
use Rattle.tabled_select.specs.declared.object.Object.{Ghosts as ObjectOf}
use Rattle.tabled_steps.specs.Selected.{half_open}
use Rattle.tabled_steps.specs.Steps.{Does, Leaves, LeavesFirst, Names}
use Rattle.tabled_steps.specs.declared.select.Select.{Select}
use Rattle.tabled_steps.specs.declared.step.Step.{Step}
use Rattle.tabled_steps.specs.declared.step.Step.TheVariants as step

-- whatever one change makes, another makes, too
abbrev pub Makes : {A C : Type 0} → Change A C → Change A C → Type 0
Makes {A} {C} change other = (old : Grid A) (cfg : C) (new : Grid A) (new_cfg : C) → change old cfg new new_cfg → other old cfg new new_cfg

-- two relations hold of the same grids and lists
abbrev pub ListTheSame : {A X : Type 0} → (Grid A → List X → Type 0) → (Grid A → List X → Type 0) → Type 0
ListTheSame {A} {X} lists others = (g : Grid A) (items : List X) → (lists g items → others g items) × (others g items → lists g items)

-- merged cells that fit the table do so after an option, whether it is done or refused
abbrev pub FitsAfterOption : {X R D A : Type 0} → TableOptionOf X R SpanMap D A → X → Type 0
FitsAfterOption how x = FitsAfter (how.does x) (how.leaves x)

-- the step that takes away the rows, or the columns, of a range
abbrev pub range_removed : Axis → ℕ → ℕ → Step
range_removed Rows = step.RemoveRows
range_removed Columns = step.RemoveColumns

-- these are the indexes of a range of the rows, or of the columns, of a table
abbrev pub IndexesAlong : {A : Type 0} → Axis → ℕ → ℕ → Grid A → List ℕ → Type 0
IndexesAlong axis a b g found = found ≡ indexes (half_open a b) (count_along axis g)

-- these are the columns with a text in the first row
abbrev pub ColumnsNamed : {A : Type 0} → (A → List ℕ) → List ℕ → Grid A → List ℕ → Type 0
ColumnsNamed text_of name g found = found ≡ columns_with name (map_grid text_of g)

module _ {A : Type 0} (is_blank : A → Type 0) (text_of : A → List ℕ) where
  -- a step does, and leaves where it is refused, just what an option does and leaves
  pub record ActsAs (step : Step) (does leaves : Change A SpanMap) : Type 0 where
    pub done : (old : Grid A) (cfg : SpanMap) (new : Grid A) (new_cfg : SpanMap) → (Does is_blank text_of step old cfg new new_cfg → does old cfg new new_cfg) × (does old cfg new new_cfg → Does is_blank text_of step old cfg new new_cfg)
    pub refused : (old : Grid A) (cfg : SpanMap) (new : Grid A) (new_cfg : SpanMap) → (Leaves is_blank text_of step old cfg new new_cfg → leaves old cfg new new_cfg) × (leaves old cfg new new_cfg → Leaves is_blank text_of step old cfg new new_cfg)

  -- a step acts as an option of some type
  abbrev pub ActsAsOption : {X R D : Type 0} → Step → TableOptionOf X R SpanMap D A → X → Type 0
  ActsAsOption step how x = ActsAs step (how.does x) (how.leaves x)

  -- a kind of step acts as a kind of option, whatever the option is
  abbrev pub ActAs : {X R D : Type 0} → (X → Step) → TableOptionOf X R SpanMap D A → Type 0
  ActAs {X} step how = (x : X) → ActsAsOption (step x) how x

  -- a kind of step with a selector acts as a kind of option on each entity that the selector names
  abbrev pub OnEach : {X R : Type 0} → (X → Select → Step) → CellOptionOf X R SpanMap A → Type 0
  OnEach {X} step how = (x : X) (select : Select) → ActsAs (step x select) (EachListed (Names text_of select) (how.does x)) (LeavesFirst text_of select (how.does x) (how.leaves x))

  -- two steps in one act as two options one after the other, where each of the steps acts as its option
  abbrev pub InTurn : {X Y R D : Type 0} → TableOptionOf X R SpanMap D A → TableOptionOf Y R SpanMap D A → TableOptionOf (X × Y) R SpanMap D A → X → Y → Type 0
  InTurn how next both x y = (p : _) (first : Step) (q : _) (second : Step) → ActsAsOption first how x → ActsAsOption second next y → ActsAsOption (step.Both' p first q second) both (x, y)

  -- a kind of step on what two selectors name acts as an option on two objects, where these list that
  abbrev pub OnObjects : {X Y R I J D : Type 0} → (Select → Select → Step) → ObjectOf X R I A → ObjectOf Y R J A → TableOptionOf (X × Y) R SpanMap D A → X × Y → Type 0
  OnObjects step to from how x = (destination source : Select) → ListTheSame (to.lists x.0) (Names text_of destination) → ListTheSame (from.lists x.1) (Names text_of source) → ActsAsOption (step destination source) how x

  -- a kind of step on a range of rows and one of columns acts as an option on two ranges, where these have the same bounds
  abbrev pub Within : {X Y R D : Type 0} → (ℕ → ℕ → ℕ → ℕ → Step) → BoundsOf X → BoundsOf Y → TableOptionOf (X × Y) R SpanMap D A → X × Y → Type 0
  Within step rows columns how x = (a b m n : ℕ) → rows.bounds_of x.0 ≡ half_open a b → columns.bounds_of x.1 ≡ half_open m n → ActsAsOption (step a b m n) how x

  -- the step that takes away a range acts as an option that takes away lines, where it takes rows, or columns, and its location finds those of the range
  abbrev pub RemovesRange : {X R I J N : Type 0} → Axis → Axis → LocationOf X R ℕ I J A → TableOptionOf X R SpanMap N A → X → Type 0
  RemovesRange axis lines location how x = (a b : ℕ) → lines ≡ axis → ListTheSame (location.locates x) (IndexesAlong axis a b) → ActsAsOption (range_removed axis a b) how x

  -- the step that takes away the columns of a name acts as such an option, where it takes columns, and its location finds those of the name
  abbrev pub RemovesNamed : {X R I J N : Type 0} → Axis → LocationOf X R ℕ I J A → TableOptionOf X R SpanMap N A → X → Type 0
  RemovesNamed lines location how x = (name : _) → lines ≡ Columns → ListTheSame (location.locates x) (ColumnsNamed text_of (string_bytes name)) → ActsAsOption (step.RemoveNamed name) how x

  -- the step that keeps the lines of names acts as an option that keeps lines, where it keeps rows, or columns, and its location finds those
  abbrev pub KeepsNamed : {X R I J N : Type 0} → Axis → Axis → (Grid (List ℕ) → List ℕ) → LocationOf X R ℕ I J A → Step → TableOptionOf X R SpanMap N A → X → Type 0
  KeepsNamed axis lines named location step how x = lines ≡ axis → ListTheSame (location.locates x) (λ g found. found ≡ named (map_grid text_of g)) → ActsAsOption step how x
