use Rattle.tabled_spans.proofs.Common.{◌<◌, ◌≡◌, AllByRecursion, Position, count_of, map_grid, pull_writes, pull_writes_on}
use Rattle.tabled_spans.proofs.SpanWrites.{Continues}
use Rattle.tabled_spans.proofs.span.pull.pull_texts.Given as goal

abbrev pub invariant-loop-pos : goal.invariant-loop-pos
invariant-loop-pos g l =
    let start = g.R.GridStore.grid l.fn.records in
    let old = map_grid g.R.Cell.CellText.text_of start in
    let new = map_grid g.R.Cell.CellText.text_of (g.R.GridStore.grid l.records) in
    record {
      can : (goal.iterator-loop-pos g).can_next l.pos-iterator;
      ends : (goal.iterator-loop-pos g).is_finite l.pos-iterator;
      well : g.R.GridStore.is_well_formed l.records;
      rows : (g.R.GridStore.grid l.records).rows ≡ start.rows;
      columns : (g.R.GridStore.grid l.records).columns ≡ start.columns;
      within : AllByRecursion (λ (p : Position). (p.row < start.rows) × (p.col < start.columns)) l.pos-iterator;
      texts : Continues (pull_writes_on l.axis l.fn.back l.fn.entity old) old (pull_writes l.axis l.fn.back (count_of l.axis start.rows start.columns) l.pos-iterator new) new;
    }
