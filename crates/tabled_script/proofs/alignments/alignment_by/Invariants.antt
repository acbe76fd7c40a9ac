use Rattle.tabled_script.proofs.Common.{◌≡◌, map, map_grid, take}
use Rattle.tabled_script.specs.Aligners.{alignment_by, rule_in}
use Rattle.tabled_script.proofs.alignments.alignment_by.Given as goal

abbrev pub invariant-loop-rule : goal.invariant-loop-rule
invariant-loop-rule g l = l.alignment ≡ alignment_by (map rule_in (take l.rule-index l.rules)) (map_grid g.R.Cell.CellText.text_of (g.R.GridStore.grid l.records)) l.column
