-- The words after `shape` and `span`.
use Rattle.std.specs.Prelude.{ℕ, if◌then◌else◌}
use Rattle.tabled_grid.specs.Entity.{place}
use Rattle.tabled_grid.specs.Spans.{is_cell, rectangle, sized}
use Rattle.tabled_grid.specs.declared.config.rectangle.Rectangle.{Rectangle}
use Rattle.tabled_grid.specs.declared.config.size.Size.{Size}
use Rattle.tabled_language.specs.declared.fault.Fault.TheVariants.{NumberRange}
use Rattle.tabled_language.specs.Words.{Reading, fails, gives, reads_length, reads_positive_length, then_reads}

-- how many rows and how many columns
abbrev pub reads_shape : Reading (ℕ × ℕ)
reads_shape = then_reads reads_length (λ rows. then_reads reads_length (λ columns. gives (rows, columns)))

-- a size, unless it is that of one cell
abbrev pub if_span : Size → Reading Size
if_span size = if is_cell size then fails NumberRange else gives size

-- a height and a width of more than one cell
abbrev pub reads_span_size : Reading Size
reads_span_size = then_reads reads_positive_length (λ height. then_reads reads_positive_length (λ width. if_span (sized height width)))

-- a row and a column, and then a height and a width
abbrev pub reads_anchor : Reading Rectangle
reads_anchor = then_reads reads_length (λ row. then_reads reads_length (λ column. then_reads reads_span_size (λ size. gives (rectangle (place row column) size))))
