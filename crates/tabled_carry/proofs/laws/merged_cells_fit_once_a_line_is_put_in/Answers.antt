use Rattle.tabled_carry.proofs.Common.{fits_below}
use Rattle.tabled_carry.proofs.PutIn.{fits_beside_rows, none_crosses_the_first}
use Rattle.tabled_carry.proofs.laws.merged_cells_fit_once_a_line_is_put_in.Goals as goal

pub returns-clause-rows : goal.returns-clause-rows
returns-clause-rows g c i row old new m n put free fits = rw (put.grid, put.merged) (fits_below m i _ _ free fits)

pub returns-clause-columns : goal.returns-clause-columns
returns-clause-columns g c j column old new m n put free fits = rw (put.grid, put.merged) (fits_beside_rows m j _ _ free fits)

pub returns-clause-first : goal.returns-clause-first
returns-clause-first g c = none_crosses_the_first
