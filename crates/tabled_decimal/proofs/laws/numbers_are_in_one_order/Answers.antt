use Rattle.tabled_decimal.specs.TotalOrder.{number_cmp-total}
use Rattle.tabled_decimal.proofs.laws.numbers_are_in_one_order.Goals as goal

pub returns : goal.returns
returns c = number_cmp-total
