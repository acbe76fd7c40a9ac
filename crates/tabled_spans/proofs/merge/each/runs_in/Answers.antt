use Rattle.tabled_select.proofs.Common.{IfOk-weaker}
use Rattle.std.specs.Prelude.{false, get_or}
use Rattle.tabled_spans.proofs.Common.{Bool, List, map_grid, subst}
use Rattle.tabled_spans.specs.Lines.{RunsIn}
use Rattle.tabled_spans.proofs.MergeEach.{runs_named}
use Rattle.tabled_spans.proofs.merge.each.runs_in.Goals as goal

pub returns-in-Of : goal.returns-in-Of
returns-in-Of g c =
    let texts = map_grid g.R.Cell.CellText.text_of (g.R.GridStore.grid c.args.records.now) in
    IfOk-weaker c.runs_of.result _ _ (λ sizes listed. rw c.in-Of.is (runs_named c.args.axis texts c.in-Of.entity c.args.cfg.now sizes.items listed)) c.runs_of.ensures

pub returns-in-Marked : goal.returns-in-Marked
returns-in-Marked g c =
    let texts = map_grid g.R.Cell.CellText.text_of (g.R.GridStore.grid c.args.records.now) in
    IfOk-weaker c.runs_marked.result _ _ (λ sizes listed. rw c.in-Marked.is (subst (λ (marks : List Bool). RunsIn c.args.axis (λ line. get_or marks line false) texts c.args.cfg.now sizes.items) c.deref.ensures.value listed)) c.runs_marked.ensures
