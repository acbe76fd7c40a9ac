use Rattle.std.specs.Iterator.{AlwaysYields}
use Rattle.tabled_grid.specs.declared.config.entity.Entity.{Entity}
use Rattle.tabled_spans.proofs.Common.{Rows, false≢true, on_err, subst}
use Rattle.tabled_spans.proofs.MergeEach.{each_option, left_first}
use Rattle.tabled_spans.proofs.merge.MergeDuplicatesVerticalCellOptionSpannedConfig.change_at_once.Goals as goal

pub returns-clause-ok : goal.returns-clause-ok
returns-clause-ok g c = λ items gives none. each_option g.R.Cell.CellText.text_of Rows items (g.R.GridStore.grid c.args.records.now) c.args.cfg.now c.merge_each.new.cfg (c.in_ok-merge_each.ensures.ok items gives)

pub returns-in_err-merge_each-clause-err : goal.returns-in_err-merge_each-clause-err
returns-in_err-merge_each-clause-err g c = λ items gives. on_err c.from_residual.result (left_first _ items (g.R.GridStore.grid c.args.records.now) c.args.cfg.now c.merge_each.new.cfg c.in_err-merge_each.ensures.err (λ none. false≢true (c.in_err-merge_each.ensures.none (subst (AlwaysYields g.I.Iterator.next_gives (λ (e : Entity). e) c.args.entities) none gives))))
