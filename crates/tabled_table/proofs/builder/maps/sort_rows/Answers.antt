use Rattle.tabled_table.proofs.Common.{IsPermutation-map, on_ok_weaker, texts_of}
use Rattle.tabled_table.proofs.Printed.{sorted_rows}
use Rattle.tabled_table.proofs.builder.maps.sort_rows.Goals as goal

pub returns-clause-same : goal.returns-clause-same
returns-clause-same c = IsPermutation-map texts_of _ _ c.sort.ensures.permutation

pub returns-clause-sorted : goal.returns-clause-sorted
returns-clause-sorted c = on_ok_weaker c.sort.result (sorted_rows c.sort.new.self.items) c.sort.ensures.sorted
