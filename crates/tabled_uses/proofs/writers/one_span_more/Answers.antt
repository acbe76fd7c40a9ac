use Rattle.std.proofs.Common.{[], ◌∷◌}
use Rattle.tabled_uses.proofs.writers.one_span_more.Goals as goal

-- the place lies inside: `search` stops at a limit among what spans do
pub returns : goal.returns
returns c = λ p m rows columns tall wide midway. c.spans_fit_midway.ensures (p ∷ []) m rows columns c.requires ((tall, wide), tt) midway
