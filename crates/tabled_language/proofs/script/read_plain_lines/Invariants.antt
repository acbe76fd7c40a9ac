use Rattle.tabled_language.proofs.Common.{InBytes, LackEach, draft_in, lines_of, map}
use Rattle.tabled_language.proofs.GivenLines.{LeavesLines}
use Rattle.tabled_language.proofs.script.read_plain_lines.Given as goal

abbrev pub invariant-loop-line : goal.invariant-loop-line
invariant-loop-line l = record {
  leaves : LeavesLines (draft_in l.fn.draft) l.before (map InBytes (lines_of l.text)) (map InBytes l.line-iterator) l.number (draft_in l.draft);
  no_newline : LackEach 10 l.line-iterator;
  no_escape : LackEach 92 l.line-iterator;
}
