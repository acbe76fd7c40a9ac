-- The words that name cells, in prefix form.
use Rattle.std.specs.Prelude.{ℕ, zero, suc, [], ◌∷◌, codes, drop}
use Rattle.tabled_select.specs.Algebra.{others}
use Rattle.tabled_select.specs.Steps.{every}
use Rattle.tabled_steps.specs.Selected.{Named, named_by, named_columns, shared, united, with_content, without}
use Rattle.tabled_steps.specs.declared.select.Select.{Select}
use Rattle.tabled_steps.specs.declared.select.Select.TheVariants as select
use Rattle.tabled_language.specs.declared.fault.Fault.TheVariants.{SelectorDepth}
use Rattle.tabled_language.specs.Words.{Choices, Reading, behind, fails, gives, kept, reads_number, reads_text, reads_two, reads_word, then_reads}

-- a selector with one number
abbrev pub with_number : (ℕ → Select) → Reading Named
with_number make = then_reads reads_number (λ n. gives (named_by (make n)))

-- a selector with two numbers
abbrev pub with_two_numbers : (ℕ → ℕ → Select) → Reading Named
with_two_numbers make = then_reads (reads_two reads_number) (λ two. gives (named_by (make two.0 two.1)))

-- a selector with four numbers
abbrev pub with_four_numbers : (ℕ → ℕ → ℕ → ℕ → Select) → Reading Named
with_four_numbers make = then_reads (reads_two reads_number) (λ rows. then_reads (reads_two reads_number) (λ columns. gives (named_by (make rows.0 rows.1 columns.0 columns.1))))

-- the words of ranges and of the frame
abbrev pub range_selectors : Choices Named
range_selectors =
    (codes "frame", gives (named_by select.Frame))
    ∷ (codes "rows", with_two_numbers select.Rows)
    ∷ (codes "columns", with_two_numbers select.Columns)
    ∷ (codes "segment", with_four_numbers select.Segment)
    ∷ []

-- the words of first and last rows and columns, and of ranges
abbrev pub edge_selectors : Choices Named
edge_selectors =
    (codes "first-row", gives (named_by select.FirstRow))
    ∷ (codes "last-row", gives (named_by select.LastRow))
    ∷ (codes "first-column", gives (named_by select.FirstColumn))
    ∷ (codes "last-column", gives (named_by select.LastColumn))
    ∷ (codes "last-row-minus", with_number select.LastRowMinus)
    ∷ (codes "last-row-plus", with_number select.LastRowPlus)
    ∷ (codes "last-column-minus", with_number select.LastColumnMinus)
    ∷ (codes "last-column-plus", with_number select.LastColumnPlus)
    ∷ range_selectors

-- the words of further selectors, where a selector that they hold is read by a reading
abbrev pub holding_selectors : Reading Named → Choices Named
holding_selectors inner =
    (codes "and", then_reads (reads_two inner) (λ two. gives (λ g. united g (two.0 g) (two.1 g))))
    ∷ (codes "not", then_reads (reads_two inner) (λ two. gives (λ g. without g (two.0 g) (two.1 g))))
    ∷ (codes "intersect", then_reads (reads_two inner) (λ two. gives (λ g. shared g (two.0 g) (two.1 g))))
    ∷ (codes "inverse", then_reads inner (λ x. gives (λ g. others (x g) g.rows g.columns)))
    ∷ (codes "skip", then_reads reads_number (λ n. then_reads inner (λ x. gives (λ g. drop n (x g)))))
    ∷ (codes "step", then_reads reads_number (λ n. then_reads inner (λ x. gives (λ g. every n (x g)))))
    ∷ edge_selectors

-- the words of selectors, where a selector that they hold is read by a reading
abbrev pub selectors : Reading Named → Choices Named
selectors inner =
    (codes "all", gives (named_by select.All))
    ∷ (codes "cell", with_two_numbers select.Cell)
    ∷ (codes "row", with_number select.Row)
    ∷ (codes "column", with_number select.Column)
    ∷ (codes "content", then_reads reads_text (λ text. gives (with_content text)))
    ∷ (codes "name", then_reads reads_text (λ text. gives (named_columns text)))
    ∷ holding_selectors inner

-- the words of a selector that holds others to a depth, each in a place of its own
abbrev pub reads_selector : ℕ → Reading Named
reads_selector zero = then_reads reads_word (λ word. fails SelectorDepth)
reads_selector (suc depth) = then_reads reads_word (behind (selectors (kept (reads_selector depth))))

-- how many selectors stand in each other at most
abbrev pub largest_depth : ℕ
largest_depth = 64

-- a selector that may hold others
abbrev pub reads_cells : Reading Named
reads_cells = reads_selector largest_depth
