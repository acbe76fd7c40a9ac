use Rattle.tabled_language.proofs.Common.{◌≡◌, ◌⊎◌, length, map, true}
use Rattle.tabled_language.proofs.AllTold.{onto}
use Rattle.tabled_language.specs.LineNames.{columns_told}
use Rattle.tabled_language.specs.Parsing.{column_lines}
use Rattle.tabled_language.specs.Words.{all_told, asks_all}
use Rattle.tabled_language.proofs.words.Words.column_names.Given as goal

abbrev pub invariant-loop-alloc : goal.invariant-loop-alloc
invariant-loop-alloc l = record {
  told : all_told columns_told l.fn.self ≡ onto (map column_lines l.names.items) (all_told columns_told l.self);
  asked : (l.fn.self ≡ l.self) ⊎ (asks_all columns_told l.fn.self ≡ true);
}

abbrev pub decreases-loop-alloc : goal.decreases-loop-alloc
decreases-loop-alloc l = length l.self
