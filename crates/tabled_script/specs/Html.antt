-- A table as HTML, as it is asked for.
use Rattle.std.specs.Prelude.{ℕ, List, map}
use Rattle.std.specs.Option.{option_map}
use Rattle.std.specs.String.{string_bytes}
use Rattle.tabled_draw.specs.declared.alignment.Alignment.{Alignment}
use Rattle.tabled_draw.specs.declared.alignment.Alignment.TheVariants as alignment
use Rattle.tabled_grid.specs.Grid.{Grid, IsEmptyWithoutRows}
use Rattle.tabled_grid.specs.Spans.{SpanMap}
use Rattle.tabled_html.specs.Elements.{fragment}
use Rattle.tabled_html.specs.Laws.{Shows}
use Rattle.tabled_html.specs.Limits.{keep_written}
use Rattle.tabled_html.specs.Looks.{Look, plain_look}
use Rattle.tabled_html.specs.declared.alignment.Alignment.{Alignment as HtmlAlignment}
use Rattle.tabled_html.specs.declared.alignment.Alignment.TheVariants as html_alignment_of
use Rattle.tabled_script.specs.Aligners.{aligner}
use Rattle.tabled_script.specs.declared.html_form.HtmlPage.{HtmlPage}

-- where a text stands in its cell, as it stands in that of a picture
abbrev pub html_alignment : Alignment → HtmlAlignment
html_alignment alignment.Left = html_alignment_of.Left
html_alignment alignment.Center = html_alignment_of.Center
html_alignment alignment.Right = html_alignment_of.Right

-- how a table is written, as it is asked for, with these alignments
abbrev pub look_with : HtmlPage → List HtmlAlignment → Look
look_with page alignments = record plain_look {
  header = page.header;
  caption = option_map string_bytes page.caption;
  alignments = alignments;
  is_whole = page.is_whole;
}

-- how a table of texts is written, as it is asked for
abbrev pub look_of : HtmlPage → Grid (List ℕ) → Look
look_of page g = look_with page (map html_alignment (aligner page.alignments g))

-- the table that is written is read as elements that form the grid
abbrev pub ShowsGrid : HtmlPage → Grid (List ℕ) → SpanMap → Type 0
ShowsGrid page g spans = IsEmptyWithoutRows g → Shows g (keep_written g.rows g.columns spans) (look_of page g) (fragment g spans (look_of page g))
