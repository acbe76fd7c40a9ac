use Rattle.tabled_language.proofs.Common.{[], ChangedBy, padded_to, texts_in_row}
use Rattle.tabled_language.proofs.padding.pad_each.Given as goal

abbrev pub invariant-loop-record : goal.invariant-loop-record
invariant-loop-record l = ChangedBy texts_in_row (padded_to l.columns []) l.fn.records l.records l.record-index
