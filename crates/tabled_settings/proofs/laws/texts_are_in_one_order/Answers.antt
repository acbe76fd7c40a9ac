use Rattle.tabled_settings.proofs.KeyOrders.{text_order-total}
use Rattle.tabled_settings.proofs.laws.texts_are_in_one_order.Goals as goal

pub returns : goal.returns
returns c = text_order-total
