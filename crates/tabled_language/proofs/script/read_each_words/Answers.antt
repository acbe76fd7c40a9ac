use Rattle.tabled_language.proofs.Common.{[], ◌∙◌, ◌≡◌, InWords, LentText, List, Vec, arith, bytes_of, draft_in, into_iter_items, map, nil_from_length, rules, sym, texts_in_records}
use Rattle.tabled_language.proofs.GivenLines.{leaves-all, leaves-end, leaves-less, leaves-none, length-words}
use Rattle.tabled_language.proofs.script.read_each_words.Goals as goal

pub loop-texts-init : goal.loop-texts-init
loop-texts-init c = record {
  can = search rules;
  ends = search rules;
  counted = search rules;
  leaves = search (rules, leaves-all (draft_in c.args.draft) c.args.before (map InWords (texts_in_records c.args.words.items)));
}

pub overflow_add-number : goal.overflow_add-number
overflow_add-number c =
    let left = rw c.in-Some.ensures.steps.0 at c.loop-texts.invariant.leaves in
    omega (arith, left.counted, length-words c.args.words.items, c.requires)

pub returns-in-Err : goal.returns-in-Err
returns-in-Err c = rw c.in_line.ensures (leaves-end (InWords (map bytes_of c.in-Some.texts.items)) c.in-Err.error (rw c.in-Some.ensures.steps.0 at c.loop-texts.invariant.leaves) (rw c.in-Err.is at c.read_given.ensures))

pub loop-texts-preserved : goal.loop-texts-preserved
loop-texts-preserved c =
    let read = rw c.in_default.is at c.read_given.ensures in
    record {
      can = search rules;
      ends = search rules;
      counted = search rules;
      leaves = rw read.1 (leaves-less (InWords (map bytes_of c.in-Some.texts.items)) (rw c.in-Some.ensures.steps.0 at c.loop-texts.invariant.leaves) read.0);
    }

pub returns : goal.returns
returns c =
    let none : ◌≡◌ {A = List (Vec LentText)} (into_iter_items c.loop-texts.texts-iterator) [] = nil_from_length (into_iter_items c.loop-texts.texts-iterator) (sym c.loop-texts.invariant.counted ∙ c.in-None.ensures.steps.0) in
    leaves-none c.loop-texts.draft (rw none at c.loop-texts.invariant.leaves)
