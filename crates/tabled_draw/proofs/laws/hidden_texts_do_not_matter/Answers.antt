use Rattle.tabled_draw.proofs.Alike.{drawn-alike}
use Rattle.tabled_draw.proofs.laws.hidden_texts_do_not_matter.Goals as goal

pub returns : goal.returns
returns c = λ g h m alike style aligns. drawn-alike style aligns g h m alike
