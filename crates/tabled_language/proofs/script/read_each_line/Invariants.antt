use Rattle.tabled_language.proofs.Common.{InBytes, LackEach, draft_in, lines_of, map}
use Rattle.tabled_language.proofs.GivenLines.{LeavesLines}
use Rattle.tabled_language.proofs.script.read_each_line.Given as goal

abbrev pub invariant-loop-line : goal.invariant-loop-line
invariant-loop-line l = record {
  leaves : LeavesLines (draft_in l.fn.draft) l.before (map InBytes (lines_of l.lines)) (map InBytes l.line-iterator) l.number (draft_in l.draft);
  no_newline : LackEach 10 l.line-iterator;
}
