use Rattle.tabled_select.proofs.Common.{◌++◌, ◌≡◌, flat, into_iter_items, length}
use Rattle.tabled_select.proofs.object.named_places.NamedPlacesIterator.next.Given as goal

abbrev pub invariant-loop-pos : goal.invariant-loop-pos
invariant-loop-pos l = l.self-inside.current ++ flat (into_iter_items l.self-inside.entities) l.self-inside.rows l.self-inside.columns ≡ l.fn.self

abbrev pub decreases-loop-pos : goal.decreases-loop-pos
decreases-loop-pos l = length (into_iter_items l.self-inside.entities)
