use Rattle.tabled_draw.proofs.Common.{[], ap₂, replicate, ◌++◌, ◌∷◌}
use Rattle.tabled_held.proofs.Pens.{draws-as, draws-then}
use Rattle.tabled_draw.proofs.markdown.write_dashes.Goals as goal

pub returns : goal.returns
returns g c = draws-as (ap₂ (λ first last. first ∷ (replicate c.args.width 45 ++ (last ∷ []))) c.first_dash.ensures c.last_dash.ensures) (draws-then c.draw.ensures (draws-then c.write_level_dashes.ensures c.draw-2.ensures))
