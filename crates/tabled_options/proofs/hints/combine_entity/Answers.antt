use Rattle.tabled_options.proofs.Common.{◌∙◌, false, names_all_of, refl, sym, true}
use Rattle.tabled_options.proofs.Covering.{combined_means}
use Rattle.tabled_options.proofs.hints.combine_entity.Goals as goal

pub returns-then-covers-clause-means : goal.returns-then-covers-clause-means
returns-then-covers-clause-means c = combined_means c.args.a c.args.b true (names_all_of c.args.b c.args.a) (sym c.covers.ensures ∙ c.if-covers.true) refl

pub returns-then-covers-2-clause-means : goal.returns-then-covers-2-clause-means
returns-then-covers-2-clause-means c = combined_means c.args.a c.args.b false true (sym c.covers.ensures ∙ c.if-covers.false) (sym c.covers-else-covers.ensures ∙ c.if-covers-2.true)

pub returns-else-covers-2-clause-means : goal.returns-else-covers-2-clause-means
returns-else-covers-2-clause-means c = combined_means c.args.a c.args.b false false (sym c.covers.ensures ∙ c.if-covers.false) (sym c.covers-else-covers.ensures ∙ c.if-covers-2.false)
