use Rattle.tabled_carry.proofs.Common.{◌∙◌, Some, ap, refl, sym}
use Rattle.tabled_carry.proofs.Walks.{between-carries, between-one, carried-many}
use Rattle.tabled_carry.proofs.images.image_of.Goals as goal

pub returns-in_err-first-clause-finds : goal.returns-in_err-first-clause-finds
returns-in_err-first-clause-finds g c = λ f carries full. let missing = c.in_err-first.ensures.none refl in let p = carries.all missing.0 missing.1 in absurd (missing.2 p.0 p.1)

pub returns-then-count_of-clause-carries : goal.returns-then-count_of-clause-carries
returns-then-count_of-clause-carries g c = between-carries (g.M.Moves.places c.args.moves.now) c.args.of _ _ c.in_ok-first.ensures.around (sym c.count_of.ensures ∙ c.if-count_of.true ∙ c.count_of-2.ensures)

pub returns-then-count_of-clause-finds : goal.returns-then-count_of-clause-finds
returns-then-count_of-clause-finds g c = λ f carries full. ap Some (between-one (g.M.Moves.places c.args.moves.now) c.args.of _ _ c.in_ok-first.ensures.around f carries full)

pub returns-else-count_of-clause-finds : goal.returns-else-count_of-clause-finds
returns-else-count_of-clause-finds g c = λ f carries full. absurd (c.if-count_of.false (c.count_of.ensures ∙ carried-many (g.M.Moves.places c.args.moves.now) c.args.of _ _ c.in_ok-first.ensures.around f carries full ∙ sym c.count_of-2.ensures))
