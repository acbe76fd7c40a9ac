use Rattle.tabled_language.proofs.Common.{◌≡◌, ◌⊎◌, length, map, true}
use Rattle.tabled_language.proofs.AllTold.{onto}
use Rattle.tabled_language.specs.LineNames.{rows_told}
use Rattle.tabled_language.specs.Parsing.{row_lines}
use Rattle.tabled_language.specs.Words.{all_told, asks_all}
use Rattle.tabled_language.proofs.words.Words.row_names.Given as goal

abbrev pub invariant-loop-alloc : goal.invariant-loop-alloc
invariant-loop-alloc l = record {
  told : all_told rows_told l.fn.self ≡ onto (map row_lines l.names.items) (all_told rows_told l.self);
  asked : (l.fn.self ≡ l.self) ⊎ (asks_all rows_told l.fn.self ≡ true);
}

abbrev pub decreases-loop-alloc : goal.decreases-loop-alloc
decreases-loop-alloc l = length l.self
