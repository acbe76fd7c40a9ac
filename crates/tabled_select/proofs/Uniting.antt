-- The first places of a list that aren't marked.
use Rattle.std.proofs.Common.{arith}
use Rattle.tabled_select.proofs.Common.{◌&&◌, ◌||◌, ◌∷◌, ◌≡◌, Bool, Cell, Entity, List, Marks, MarksAll, Position, SetsMark, ap, cells_of, common_steps, cond, false, filter, firsts, has, not, passes, refl, same_place, true}
use Rattle.tabled_select.proofs.MarkedPlaces.{has-marked, none-marked, same_place-turned}
use Rattle.tabled_select.proofs.Sifted.{filter_all, filter-filter}

-- the first places that aren't marked
abbrev pub fresh : Marks → List Position → List Position
fresh s ps = filter (passes false s) (firsts ps)

-- where nothing is marked these are all the first places
pub fresh-all : (s : Marks) (room ps : List Position) → MarksAll s room false → fresh s ps ≡ firsts ps
fresh-all s room ps none = filter_all (passes false s) (λ p. ap not (none-marked s room none p)) (firsts ps)

other-unmarked : (b c : Bool) → (not b && not c) ≡ not (b || c)
other-unmarked true c = refl
other-unmarked false c = refl

module _ (old new : Marks) (p : Position) (sets : SetsMark old new p true) where
  -- once a place is marked it is left out of the others
  fresh-others : (ps : List Position) → filter (passes false old) (filter (λ q. not (same_place p q)) ps) ≡ filter (passes false new) ps
  fresh-others ps = grind (arith, common_steps, filter-filter, other-unmarked, same_place-turned, has-marked)

  -- a place comes if it isn't marked, and is marked from then on
  fresh-next : (ps : List Position) → fresh old (p ∷ ps) ≡ cond (not (has old p)) (p ∷ fresh new ps) (fresh new ps)
  fresh-next ps = ap (λ qs. cond (not (has old p)) (p ∷ qs) qs) (fresh-others (firsts ps))

  -- a place that is new comes now
  pub fresh-new : (left ps : List Position) (all : List Entity) → left ≡ p ∷ ps → cells_of (fresh old left) ≡ all → has old p ≡ false → all ≡ Cell p.row p.col ∷ cells_of (fresh new ps)
  fresh-new left ps all steps same is_new = grind (arith, common_steps, fresh-next)

  -- a place that was marked is passed over
  pub fresh-seen : (left ps : List Position) (all : List Entity) → left ≡ p ∷ ps → cells_of (fresh old left) ≡ all → has old p ≡ true → cells_of (fresh new ps) ≡ all
  fresh-seen left ps all steps same is_old = grind (arith, common_steps, fresh-next)
