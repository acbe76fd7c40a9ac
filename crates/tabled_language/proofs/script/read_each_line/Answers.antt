use Rattle.tabled_language.proofs.Common.{[], ◌≡◌, InBytes, List, arith, draft_in, length-map, lines_of, map, parts_lack_separator, rules, ℕ}
use Rattle.tabled_language.proofs.EndedLines.{few_lines}
use Rattle.tabled_language.proofs.GivenLines.{leaves-all, leaves-end, leaves-less, leaves-none}
use Rattle.tabled_language.proofs.script.read_each_line.Goals as goal

pub loop-line-init : goal.loop-line-init
loop-line-init c = record {
  leaves = search (rules, leaves-all (draft_in c.args.draft) c.args.before (map InBytes (lines_of c.args.lines.now)));
  no_newline = search (rules, parts_lack_separator 10 c.args.lines.now);
}

pub overflow_add-number : goal.overflow_add-number
overflow_add-number c =
    let left = rw c.in-Some.ensures.steps at c.loop-line.invariant.leaves in
    omega (arith, left.counted, few_lines c.args.lines.now, length-map (lines_of c.args.lines.now) InBytes, c.requires)

pub read_line-requires : goal.read_line-requires
read_line-requires c = (rw c.in-Some.ensures.steps at c.loop-line.invariant.no_newline).0

pub returns-in-Err : goal.returns-in-Err
returns-in-Err c = rw c.in_line.ensures (leaves-end (InBytes c.in-Some.line.now) c.in-Err.error (rw c.in-Some.ensures.steps at c.loop-line.invariant.leaves) (rw c.in-Err.is at c.read_line.ensures))

pub loop-line-preserved : goal.loop-line-preserved
loop-line-preserved c =
    let read = rw c.in_default.is at c.read_line.ensures in
    record {
      leaves = rw read.1 (leaves-less (InBytes c.in-Some.line.now) (rw c.in-Some.ensures.steps at c.loop-line.invariant.leaves) read.0);
      no_newline = (rw c.in-Some.ensures.steps at c.loop-line.invariant.no_newline).1;
    }

pub returns : goal.returns
returns c =
    let none : ◌≡◌ {A = List (List ℕ)} c.loop-line.line-iterator [] = search rules in
    leaves-none c.loop-line.draft (rw none at c.loop-line.invariant.leaves)
