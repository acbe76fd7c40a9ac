use Rattle.tabled_spans.proofs.Common.{◌+◌, arith, map_grid, on_err, pulling, rules, string_bytes}
use Rattle.tabled_spans.proofs.SpanWrites.{pull-more, pull-refused, pull-start}
use Rattle.tabled_spans.proofs.span.pull.pull.Goals as goal

pub loop-k-init : goal.loop-k-init
loop-k-init g c =
    let texts = λ (r : _). map_grid g.R.Cell.CellText.text_of (g.R.GridStore.grid r) in
    record {
      well = c.in_ok-set.ensures.well;
      rows = c.in_ok-set.ensures.rows;
      columns = c.in_ok-set.ensures.columns;
      texts = pull-start c.args.axis c.args.pos c.args.first c.args.many (texts c.args.records.now) (texts c.set.new.self) c.get_text.result.now (string_bytes c.in_ok-text.text) c.in_line.result c.get_text.ensures c.in_ok-text.ensures.ok c.in_line.ensures c.in_ok-set.ensures.texts;
    }

pub loop-k-preserved : goal.loop-k-preserved
loop-k-preserved g c =
    let texts = λ (r : _). map_grid g.R.Cell.CellText.text_of (g.R.GridStore.grid r) in
    record {
      well = c.in_ok-set-2.ensures.well;
      rows = search rules;
      columns = search rules;
      texts = pull-more (pulling c.args.axis c.args.pos (c.args.first, c.args.many) (texts c.args.records.now)) (texts c.args.records.now) c.args.axis c.args.pos c.loop-k.k (c.args.first + c.args.many) (texts c.loop-k.records) (texts c.set-in-loop-k.new.self) (string_bytes c.new.result) c.in_line-in-loop-k.result (omega arith) c.new.ensures.bytes c.in_line-in-loop-k.ensures c.in_ok-set-2.ensures.texts c.loop-k.invariant.texts;
    }

pub returns-in_err-set-2-clause-err : goal.returns-in_err-set-2-clause-err
returns-in_err-set-2-clause-err g c =
    let texts = λ (r : _). map_grid g.R.Cell.CellText.text_of (g.R.GridStore.grid r) in
    let old = texts c.args.records.now in
    on_err c.from_residual-in_err-set-2.result
    (rw c.in_err-set-2.ensures.err
    (pull-refused (pulling c.args.axis c.args.pos (c.args.first, c.args.many) old) old c.args.axis c.args.pos c.loop-k.k (c.args.first + c.args.many) (texts c.loop-k.records) (omega arith) c.loop-k.invariant.texts))
