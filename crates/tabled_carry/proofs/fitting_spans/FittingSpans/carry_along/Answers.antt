use Rattle.tabled_carry.proofs.Common.{◌∙◌, ◌≡◌, Fits, Option, SpanMap, ap, image, keep_fitting, keep_fitting-fits, subst, sym}
use Rattle.std.specs.Option.{unwrap_or}
use Rattle.tabled_carry.proofs.fitting_spans.FittingSpans.carry_along.Goals as goal
use Rattle.tabled_carry.proofs.fitting_spans.FittingSpans.carry_along.Goals.{Joined-fitting}

-- those that fit are those that were found
fitting_found : (g : _) (c : Joined-fitting g) → c.match-fitting.fitting ≡ keep_fitting c.self.inside.table.height c.self.inside.table.width c.args.cfg.now
fitting_found g c =
    let found : unwrap_or c.self.inside.fitting c.args.cfg.now ≡ keep_fitting c.self.inside.table.height c.self.inside.table.width c.args.cfg.now = rw (← c.self.view_is) at c.requires in
    elim c.match-fitting.branch [
      | goal.in-Some w ↦ w.fitting-is ∙ subst (λ (o : Option SpanMap). unwrap_or o c.args.cfg.now ≡ keep_fitting c.self.inside.table.height c.self.inside.table.width c.args.cfg.now) w.in-Some.is found
      | goal.in-None w ↦ w.fitting-is ∙ w.replace-fitting.ensures.value ∙ subst (λ (o : Option SpanMap). unwrap_or o c.args.cfg.now ≡ keep_fitting c.self.inside.table.height c.self.inside.table.width c.args.cfg.now) w.in-None.is found
    ]

pub carried_fitting-requires : goal.carried_fitting-requires
carried_fitting-requires g c = subst (λ (m : SpanMap). Fits m c.self.inside.table.height c.self.inside.table.width) (sym (fitting_found g (goal.at.carried_fitting-requires g c).Joined-fitting)) (keep_fitting-fits c.self.inside.table.height c.self.inside.table.width c.args.cfg.now)

pub returns : goal.returns
returns g c = record { carried = rw (← c.self.view_is) (c.carried_fitting.ensures.image ∙ ap (image (g.M.Moves.places c.args.moves.now)) (fitting_found g (goal.at.returns g c).Joined-fitting)) }
