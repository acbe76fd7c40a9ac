use Rattle.tabled_select.proofs.Common.{◌∙◌, arith, block-no_columns, block-no_rows, refl, sub_self, sym}
use Rattle.tabled_select.proofs.object.segment.SectorIter.new.Goals as goal

pub returns : goal.returns
returns c = elim c.if-columns.branch [
  | goal.then-columns w ↦ rw (sub_self, w.result-is) refl
  | goal.else-columns w ↦ rw (sub_self, w.result-is) (block-no_rows c.args.rows.start c.args.rows.start c.args.columns.start c.args.columns.end (omega arith) ∙ sym (block-no_columns c.args.rows.start c.args.rows.end c.args.columns.start c.args.columns.end w.if-columns.false))
]
