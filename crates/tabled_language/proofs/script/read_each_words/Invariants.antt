use Rattle.tabled_language.proofs.Common.{◌≡◌, InWords, draft_in, into_iter_items, into_iter_len, length, map, texts_in_records}
use Rattle.tabled_language.proofs.GivenLines.{LeavesLines}
use Rattle.tabled_language.proofs.script.read_each_words.Given as goal

abbrev pub invariant-loop-texts : goal.invariant-loop-texts
invariant-loop-texts l = record {
  can : goal.iterator-loop-texts.can_next l.texts-iterator;
  ends : goal.iterator-loop-texts.is_finite l.texts-iterator;
  counted : into_iter_len l.texts-iterator ≡ length (into_iter_items l.texts-iterator);
  leaves : LeavesLines (draft_in l.fn.draft) l.before (map InWords (texts_in_records l.fn.words.items)) (map InWords (texts_in_records (into_iter_items l.texts-iterator))) l.number (draft_in l.draft);
}
