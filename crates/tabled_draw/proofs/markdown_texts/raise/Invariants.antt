use Rattle.tabled_draw.proofs.Common.{[], get_or, length, map, max, text_width, ℕ, ◌<◌, ◌≡◌, ◌≤◌}
use Rattle.tabled_draw.specs.Markdown.{characters}
use Rattle.tabled_draw.proofs.markdown_texts.raise.Given as goal

abbrev pub invariant-loop-j : goal.invariant-loop-j
invariant-loop-j l = record {
  long : length l.widths.items ≡ length l.fn.widths.items;
  done : (k : ℕ) → k < l.j → get_or l.widths.items k 0 ≡ max (get_or l.fn.widths.items k 0) (text_width (get_or (map characters l.row) k []));
  left : (k : ℕ) → l.j ≤ k → get_or l.widths.items k 0 ≡ get_or l.fn.widths.items k 0;
}
