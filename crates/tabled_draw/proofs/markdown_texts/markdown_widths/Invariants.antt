use Rattle.tabled_draw.proofs.Common.{[], get_or, largest, length, text_width, ℕ, ◌<◌, ◌≡◌}
use Rattle.tabled_draw.specs.Markdown.{rows_of_characters}
use Rattle.tabled_draw.proofs.markdown_texts.markdown_widths.Given as goal

abbrev pub invariant-loop-row : goal.invariant-loop-row
invariant-loop-row l = record {
  long : length l.widths.items ≡ l.fn.columns;
  raised : (j : ℕ) → j < l.fn.columns → get_or l.widths.items j 0 ≡ largest 3 l.row-index (λ i. text_width (get_or (get_or (rows_of_characters l.rows) i []) j []));
}
