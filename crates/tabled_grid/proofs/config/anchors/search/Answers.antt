use Rattle.tabled_grid.proofs.Common.{Rectangle, answers_always, rules}
use Rattle.tabled_grid.proofs.config.anchors.search.Goals as goal

pub returns-clause-found : goal.returns-clause-found
returns-clause-found c = c.binary_search_by_key.ensures.position (λ (anchor : Rectangle). anchor.first) (answers_always _ _ _ (λ f a r f' h. search rules))
