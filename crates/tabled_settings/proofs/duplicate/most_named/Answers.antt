use Rattle.tabled_settings.proofs.Common.{◌+◌, ◌<◌, ◌≡◌, ◌≤◌, ◌⊎◌, Entity, Global, List, arith, cases_lt, get_or, get_or_default, inl, inr, inside, length, recursion_from_All, ℕ}
use Rattle.tabled_settings.proofs.duplicate.most_named.Goals as goal

-- a bound on the counts of the first entities, and one on that of the next
more : (entities : List Entity) (rows columns i most greater : ℕ) → ((k : ℕ) → k < i → length (inside (get_or entities k Global) rows columns) ≤ most) → most ≤ greater → length (inside (get_or entities i Global) rows columns) ≤ greater →
    (k : ℕ) → k < i + 1 → length (inside (get_or entities k Global) rows columns) ≤ greater
more entities rows columns i most greater first large next k below = bounded (cases_lt k i)
  where
    bounded : (k < i) ⊎ (i ≤ k) → length (inside (get_or entities k Global) rows columns) ≤ greater
    bounded (inl before) = omega (arith, first k before, large)
    bounded (inr last) =
        let same : k ≡ i = omega (arith, below, last) in
        rw same next

pub loop-entity-preserved : goal.loop-entity-preserved
loop-entity-preserved c =
    let kept = more c.args.entities.now c.args.rows c.args.columns c.loop-entity.entity-index c.loop-entity.most c.if-many-most.most c.loop-entity.invariant in
    elim c.if-many-most.branch [
      | goal.then-many-most w ↦ kept (omega (arith, w.if-many-most.true, w.most-is)) (omega (arith, w.most-is, c.count_named-many.ensures))
      | goal.else-many-most w ↦ kept (omega (arith, w.most-is)) (omega (arith, w.if-many-most.false, w.most-is, c.count_named-many.ensures))
    ]

pub returns : goal.returns
returns c = recursion_from_All _ c.args.entities.now (λ k d below. rw (get_or_default c.args.entities.now k d Global below) (c.loop-entity.invariant k (omega (arith, below, c.loop-entity-test.false))))
