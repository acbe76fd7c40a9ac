-- The kinds of steps: what is done, whatever the step is called.
use Rattle.std.specs.Prelude.{◌≡◌, ◌⊎◌, if◌then◌else◌, ℕ, ℤ, Bool, List, [], None, Option, Some, nat_lt}
use Rattle.std.specs.String.{string_bytes}
use Rattle.tabled_grid.specs.Entity.{inside}
use Rattle.tabled_grid.specs.Fitting.{Fits}
use Rattle.tabled_grid.specs.Grid.{Grid}
use Rattle.tabled_grid.specs.Spans.{SpanMap}
use Rattle.tabled_grid.specs.declared.config.entity.Entity.{Entity}
use Rattle.tabled_grid.specs.declared.records.axis.Axis.{Axis}
use Rattle.tabled_grid.specs.declared.records.axis.Axis.TheVariants.{Rows, Columns}
use Rattle.tabled_options.specs.Writes.{Write}
use Rattle.tabled_select.specs.Selectors.{columns_of, rows_of}
use Rattle.tabled_settings.specs.Charsets.{is_set, mapped_writes, recoded}
use Rattle.tabled_settings.specs.Named.{all_columns_named, all_rows_named}
use Rattle.tabled_settings.specs.Replaced.{replaced_text}
use Rattle.tabled_settings.specs.Sorted.{sort_column, text_order}
use Rattle.tabled_settings.specs.Truncates.{truncated}
use Rattle.tabled_settings.specs.declared.reverse.Reverse.{Reverse}
use Rattle.tabled_settings.specs.declared.rotate.Rotate.{Rotate}
use Rattle.tabled_settings.specs.declared.rotate.Rotate.TheVariants.{Bottom, Top}
use Rattle.tabled_settings.specs.declared.sort.Sort.{Sort}
use Rattle.tabled_settings.specs.declared.sort.SortColumn.{SortColumn}
use Rattle.tabled_settings.specs.declared.sort.SortColumn.TheVariants as column
use Rattle.tabled_settings.specs.declared.split.Split.{Split}
use Rattle.tabled_steps.specs.Rearrangements.{Rearrangement, extract, keep, remove_named, remove_range, sort_rows, turn}
use Rattle.tabled_steps.specs.Selected.{Named, named_by}
use Rattle.tabled_steps.specs.declared.select.Select.{Select}
use Rattle.tabled_steps.specs.declared.select.Select.TheVariants as select
use Rattle.tabled_steps.specs.declared.step.Step.{Step}
use Rattle.tabled_steps.specs.declared.step.Step.TheVariants as step
use Rattle.tabled_width.specs.Wraps.{wrapped}

-- a change of the cells that an entity names: each text becomes what a function makes of it, where some do at all;
-- a span of a size along rows or columns; equal neighbours there merged
pub data EntityChange : Type 0 where
  Rewrite : (List ℕ → List ℕ) → EntityChange
  RewriteIf : Bool → (List ℕ → List ℕ) → EntityChange
  Span : Axis → ℤ → EntityChange
  Merge : Axis → EntityChange

-- what a function makes of each text that an entity names
abbrev pub rewritten : (List ℕ → List ℕ) → Entity → Grid (List ℕ) → List Write
rewritten f e g = mapped_writes f g (inside e g.rows g.columns)

-- the same, where some texts are written at all
abbrev pub rewritten_if : Bool → (List ℕ → List ℕ) → Entity → Grid (List ℕ) → List Write
rewritten_if some f e g = if some then rewritten f e g else []

-- merged cells fit the table
abbrev pub FitIn : Grid (List ℕ) → SpanMap → Type 0
FitIn g cfg = Fits cfg g.rows g.columns

-- a table is turned upside down, and merged cells fit it
abbrev pub IsUpsideDown : Rotate → Grid (List ℕ) → SpanMap → Type 0
IsUpsideDown rotate g cfg = ((rotate ≡ Top) ⊎ (rotate ≡ Bottom)) × FitIn g cfg

-- the columns with an index or a name
abbrev pub columns_told : SortColumn → Named
columns_told (column.Index j) = named_by (select.Column j)
columns_told (column.Name name) = named_by (select.Name name)

-- those that rows are sorted by, where there are rows to sort
abbrev pub sorted_by : Sort → Named
sorted_by sort g = if nat_lt sort.from g.rows then columns_told sort.column g else []

-- what steps do:
-- - a change of each entity that a selector names;
-- - the texts of the second selector's cells, written to those of the first;
-- - a row or a column with a text, put in before a line that the table names;
-- - equal neighbours in all columns, or in all rows, merged;
-- - a rearrangement, what it takes away, keeps or goes by, if it is told that, and when it takes no memory;
-- - lines in the opposite order; rows or columns cut into pieces; a second table, joined;
-- - one and then another
pub data Act : Type 1 where
  ChangeEach : EntityChange → Select → Act
  Duplicate : Select → Select → Act
  PutPanel : Axis → (Grid (List ℕ) → ℕ) → List ℕ → Act
  MergeAll : Axis → Act
  Rearrange : Option Named → Rearrangement → (Grid (List ℕ) → SpanMap → Type 0) → Act
  ReverseLines : Reverse → Act
  CutLines : Split → Act
  JoinTable : Axis → Grid (List ℕ) → List ℕ → Act
  DoBoth : Act → Act → Act

-- what a step is
abbrev pub act_of : Step → Act
act_of (step.Set select text) = ChangeEach (Rewrite (λ _. string_bytes text)) select
act_of (step.Dup destination source) = Duplicate destination source
act_of (step.Charset charset select) = ChangeEach (RewriteIf (is_set charset) (recoded charset)) select
act_of (step.Wrap how select) = ChangeEach (Rewrite (wrapped how)) select
act_of (step.Truncate how select) = ChangeEach (Rewrite (truncated how.width how.suffix.now)) select
act_of (step.Replace from to select) = ChangeEach (Rewrite (replaced_text (string_bytes from) (string_bytes to))) select
act_of (step.ColumnSpan size select) = ChangeEach (Span Columns size) select
act_of (step.RowSpan size select) = ChangeEach (Span Rows size) select
act_of (step.Merge axis select) = ChangeEach (Merge axis) select
act_of (step.HorizontalPanel panel) = PutPanel Rows (λ _. panel.0) panel.1
act_of (step.VerticalPanel panel) = PutPanel Columns (λ _. panel.0) panel.1
act_of (step.Header text) = PutPanel Rows (λ _. 0) text
act_of (step.Footer text) = PutPanel Rows (λ g. g.rows) text
act_of (step.MergeVertical _) = MergeAll Rows
act_of (step.MergeHorizontal _) = MergeAll Columns
act_of (step.Rotate rotate) = Rearrange None (turn rotate) (IsUpsideDown rotate)
act_of (step.Extract a b c d) = Rearrange (Some (named_by (select.Segment a b c d))) (extract a b c d) FitIn
act_of (step.RemoveRows a b) = Rearrange (Some (named_by (select.Rows a b))) (remove_range Rows a b) (λ _ _. ⊥)
act_of (step.RemoveColumns a b) = Rearrange (Some (named_by (select.Columns a b))) (remove_range Columns a b) (λ _ _. ⊥)
act_of (step.RemoveNamed name) = Rearrange (Some (named_by (select.Name name))) (remove_named (string_bytes name)) (λ _ _. ⊥)
act_of (step.KeepRows names) = Rearrange (Some (λ g. rows_of (all_rows_named names g))) (keep Rows (all_rows_named names)) (λ _ _. ⊥)
act_of (step.KeepColumns names) = Rearrange (Some (λ g. columns_of (all_columns_named names g))) (keep Columns (all_columns_named names)) (λ _ _. ⊥)
act_of (step.Sort sort) = Rearrange (Some (sorted_by sort)) (sort_rows sort.from (text_order sort.keys sort.descending) (sort_column sort.column)) (λ _ _. ⊥)
act_of (step.Reverse how) = ReverseLines how
act_of (step.Split how) = CutLines how
act_of (step.Concat concat) = JoinTable concat.0 concat.1 concat.2
act_of (step.Both' _ first _ second) = DoBoth (act_of first) (act_of second)
