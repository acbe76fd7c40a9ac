use Rattle.tabled_carry.proofs.Common.{[], ◌++◌, ◌+◌, ◌<◌, ◌^◌, ◌∙◌, ◌≡◌, ◌≤◌, AreAnchors, Carries, LiesInside, List, Rectangle, ap, arith, drop, get_or, length, map_of, none-some, rules, subst, sym, take, take_all, ℕ}
use Rattle.std.proofs.Math.Seq.{take-append_seam}
use Rattle.tabled_carry.proofs.Carrying.{Images, images-anchors, images-make, images-sorted, next-inside, next-none, next-some, rising-sorted}
use Rattle.tabled_carry.proofs.InPlace.{underway-none, underway-some}
use Rattle.tabled_carry.proofs.fitting_spans.carry.Goals as goal
use Rattle.tabled_carry.proofs.fitting_spans.carry.Goals.{After-index, After-sort}

module _ (g : _) (c : After-index g) where
  here : c.loop-index.index < length c.args.anchors.now.items
  here = omega (arith, c.loop-index-test.true, c.len-index-end.ensures)

  -- what is read is as it was
  read : get_or c.args.anchors.now.items c.loop-index.index c.index.result.now ≡ c.index.result.now
  read = sym (c.loop-index.invariant.rest c.loop-index.index c.index.result.now (omega arith)) ∙ sym c.index.ensures

  inside : LiesInside c.args.table.height c.args.table.width c.index.result.now
  inside = subst (LiesInside c.args.table.height c.args.table.width) read (next-inside (g.M.Moves.places c.args.moves.now) c.args.anchors.now.items [] c.loop-index.index c.args.table.height c.args.table.width c.index.result.now c.requires.anchors c.requires.fits here)

pub new_rectangle-requires-clause-bottom : goal.new_rectangle-requires-clause-bottom
new_rectangle-requires-clause-bottom g c =
    let before = (goal.at.new_rectangle-requires-clause-bottom g c).After-index in
    let fits : c.args.table.height < 2 ^ 64 = search rules in
    omega (arith, (inside g before).bottom, fits)

pub new_rectangle-requires-clause-right : goal.new_rectangle-requires-clause-right
new_rectangle-requires-clause-right g c =
    let before = (goal.at.new_rectangle-requires-clause-right g c).After-index in
    let fits : c.args.table.width < 2 ^ 64 = search rules in
    omega (arith, (inside g before).right, fits)

pub loop-index-preserved : goal.loop-index-preserved
loop-index-preserved g c =
    let places = g.M.Moves.places c.args.moves.now in
    let before = (goal.at.loop-index-preserved g c).After-index in
    let e = c.index.result.now in
    let u = c.loop-index.invariant in
    let front = take c.loop-index.count c.loop-index.anchors.items in
    elim c.match-new_rectangle.branch [
      | goal.in-Some w ↦ rw (w.anchors-is, w.count-is) (underway-some places c.args.anchors.now.items c.loop-index.anchors.items c.loop-index.count c.loop-index.index u (here g before) w.in-Some.image (next-some places c.args.anchors.now.items front c.loop-index.index c.args.table.height c.args.table.width e c.requires.anchors c.requires.fits (here g before) w.in-Some.image u.images (subst (λ (d : Rectangle). Carries places d w.in-Some.image) (sym (read g before)) w.in-Some.ensures.carries) w.in-Some.ensures.full))
      | goal.in_default w ↦ rw (w.anchors-is, w.count-is) (underway-none places c.args.anchors.now.items c.loop-index.anchors.items c.loop-index.count c.loop-index.index u (here g before) (next-none places c.args.anchors.now.items front c.loop-index.index c.args.table.height c.args.table.width e c.requires.anchors c.requires.fits (here g before) u.images (λ f carries full. none-some f (w.in_default.ensures.finds f (subst (λ (d : Rectangle). Carries places d f) (read g before) carries) full))))
    ]

-- the vector holds what its items were sorted to
written : (len : ℕ) (ys items : List Rectangle) → length ys ≡ len → take len (ys ++ drop (length ys) items) ≡ ys
written len ys items same = subst (λ (n : ℕ). take n (ys ++ drop (length ys) items) ≡ ys) same (take-append_seam ys (drop (length ys) items))

-- the images of all
sorted : (g : _) (c : After-sort g) → Images (g.M.Moves.places c.args.moves.now) c.args.anchors.now.items c.sort.new.rectangles
sorted g c =
    let places = g.M.Moves.places c.args.moves.now in
    let old = c.args.anchors.now.items in
    let front = take c.loop-index.count c.loop-index.anchors.items in
    let all : Images places old front = subst (λ (done : List Rectangle). Images places done front) (take_all _ _ (omega (arith, c.loop-index-test.false, c.len-index-end.ensures))) c.loop-index.invariant.images in
    images-sorted places old c.deref_mut.result.now c.sort.new.rectangles c.sort.ensures.permutation (subst (λ (xs : List Rectangle). Images places old xs) (sym (c.deref_mut.ensures.value ∙ c.truncate.ensures.items)) all)

pub returns-clause-anchors : goal.returns-clause-anchors
returns-clause-anchors g c =
    let places = g.M.Moves.places c.args.moves.now in
    let old = c.args.anchors.now.items in
    let ys = c.sort.new.rectangles in
    let im = sorted g (goal.at.returns-clause-anchors g c).After-sort in
    subst (λ (zs : List Rectangle). AreAnchors zs) (sym (written c.truncate.new.self.len ys c.truncate.new.self.items (c.sort.ensures.len ∙ c.deref_mut.ensures.len))) (images-anchors places old ys c.args.table.height c.args.table.width c.requires.anchors c.requires.fits im (rising-sorted places old ys c.sort.ensures.sorted im))

pub returns-clause-image : goal.returns-clause-image
returns-clause-image g c =
    let places = g.M.Moves.places c.args.moves.now in
    let old = c.args.anchors.now.items in
    let ys = c.sort.new.rectangles in
    let im = sorted g (goal.at.returns-clause-image g c).After-sort in
    ap map_of (written c.truncate.new.self.len ys c.truncate.new.self.items (c.sort.ensures.len ∙ c.deref_mut.ensures.len)) ∙ images-make places old ys c.args.table.height c.args.table.width c.requires.anchors c.requires.fits im (rising-sorted places old ys c.sort.ensures.sorted im)
