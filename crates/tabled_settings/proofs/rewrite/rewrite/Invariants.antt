use Rattle.tabled_settings.proofs.Common.{◌++◌, ◌<◌, ◌≡◌, AllByRecursion, Position, inside, map_grid, text_at}
use Rattle.tabled_settings.proofs.Rewriting.{Apart, Rewritten}
use Rattle.tabled_settings.proofs.rewrite.rewrite.Given as goal

abbrev pub invariant-loop-pos : goal.invariant-loop-pos
invariant-loop-pos g l =
    let first = g.R.GridStore.grid l.fn.records in
    let texts = λ (r : _). map_grid g.R.Cell.CellText.text_of (g.R.GridStore.grid r) in
    record {
      can : (goal.iterator-loop-pos g).can_next l.pos-iterator;
      ends : (goal.iterator-loop-pos g).is_finite l.pos-iterator;
      well : g.R.GridStore.is_well_formed l.records;
      can_answer : g.A.Answers.can_answer l.answers;
      rows : (g.R.GridStore.grid l.records).rows ≡ first.rows;
      columns : (g.R.GridStore.grid l.records).columns ≡ first.columns;
      within : AllByRecursion (λ (p : Position). (p.row < first.rows) × (p.col < first.columns)) l.pos-iterator;
      apart : Apart l.pos-iterator;
      all : l.yielded ++ l.pos-iterator ≡ inside l.fn.entity first.rows first.columns;
      same : AllByRecursion (λ (p : Position). text_at (texts l.records) p ≡ text_at (texts l.fn.records) p) l.pos-iterator;
      so_far : Rewritten g.A.Answers.asks l.fn.answers l.yielded (texts l.fn.records) (texts l.records) l.answers;
    }
