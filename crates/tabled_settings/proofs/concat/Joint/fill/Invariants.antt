use Rattle.tabled_settings.proofs.Common.{FillsTo, text_of_joint}
use Rattle.tabled_settings.proofs.concat.Joint.fill.Given as goal

abbrev pub invariant-loop-i : goal.invariant-loop-i
invariant-loop-i g l =
    let grid = g.R.GridStore.grid in
    record {
      well : g.R.GridStore.is_well_formed l.records;
      fills : FillsTo g.R.Cell.CellText.text_of (text_of_joint l.self) l.self.size.height l.self.size.width l.i 0 (grid l.fn.records) (grid l.records);
    }

abbrev pub invariant-loop-j : goal.invariant-loop-j
invariant-loop-j g l =
    let grid = g.R.GridStore.grid in
    record {
      well : g.R.GridStore.is_well_formed l.records;
      fills : FillsTo g.R.Cell.CellText.text_of (text_of_joint l.self) l.self.size.height l.self.size.width l.i l.j (grid l.fn.records) (grid l.records);
    }
