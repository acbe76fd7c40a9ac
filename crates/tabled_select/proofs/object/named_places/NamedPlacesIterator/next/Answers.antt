use Rattle.tabled_grid.specs.Entity.{place}
use Rattle.tabled_select.proofs.Common.{[], ◌++◌, ◌∙◌, ◌∷◌, ◌≡◌, Cell, ap₂, flat, into_iter_items, rules, sym}
use Rattle.tabled_select.proofs.Inverted.{inside-itself}
use Rattle.tabled_select.proofs.object.named_places.NamedPlacesIterator.next.Goals as goal

pub returns-then-col-self-clause-steps : goal.returns-then-col-self-clause-steps
returns-then-col-self-clause-steps c =
    let walk = c.loop-pos.self-inside in
    let pos = place c.in-Cell.row c.in-Cell.col in
    let rest = into_iter_items c.next-in-loop-pos.new.self in
    let none : walk.current ≡ [] = search rules in
    let gone : c.next.new.self ≡ [] = search rules in
    let next : into_iter_items walk.entities ≡ Cell pos.row pos.col ∷ rest = rw c.in-Cell.is at c.in_ok-entity.ensures.items in
    let itself = inside-itself pos walk.rows walk.columns (c.if-row-self.true, c.if-col-self.true) in
    sym c.loop-pos.invariant ∙ ap₂ (λ places entities. places ++ flat entities walk.rows walk.columns) none next ∙ ap₂ (λ first left. first ++ (left ++ flat rest walk.rows walk.columns)) itself (sym gone)

pub returns-then-col-self-clause-goes : goal.returns-then-col-self-clause-goes
returns-then-col-self-clause-goes c =
    let steps = returns-then-col-self-clause-steps c in
    search rules
