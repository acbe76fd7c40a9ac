use Rattle.tabled_spans.proofs.Common.{◌-◌, ◌≡◌, emptying, map_grid, pulling}
use Rattle.tabled_spans.proofs.SpanWrites.{Continues}
use Rattle.tabled_spans.proofs.span.pull.pull.Given as goal

abbrev pub invariant-loop-k : goal.invariant-loop-k
invariant-loop-k g l =
    let old = map_grid g.R.Cell.CellText.text_of (g.R.GridStore.grid l.fn.records) in
    let new = map_grid g.R.Cell.CellText.text_of (g.R.GridStore.grid l.records) in
    record {
      well : g.R.GridStore.is_well_formed l.records;
      rows : (g.R.GridStore.grid l.records).rows ≡ (g.R.GridStore.grid l.fn.records).rows;
      columns : (g.R.GridStore.grid l.records).columns ≡ (g.R.GridStore.grid l.fn.records).columns;
      texts : Continues (pulling l.axis l.pos (l.first, l.many) old) old (emptying l.axis l.pos l.k (l.k-end - l.k)) new;
    }
