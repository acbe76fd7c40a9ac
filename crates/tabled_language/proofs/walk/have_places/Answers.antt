use Rattle.tabled_language.proofs.Common.{◌<◌, ◌∙◌, ◌≡◌, All-from_recursion, BTreeMap, List, Rectangle, and_left, false, get_or, get_or_default, fits_among, length, rectangle, sized, sym, take, ℕ}
use Rattle.tabled_language.proofs.Walked.{HasWalked, IsWalked, has_walked-more, has_walked-stop, met_place, walked-here}
use Rattle.tabled_language.proofs.walk.have_places.Goals as goal

-- what stands for an anchor after the last
abbrev beyond : Rectangle
beyond = rectangle (record { row = 0; col = 0 }) (sized 0 0)

-- the anchor that the walk is at
abbrev at : List Rectangle → ℕ → Rectangle
at es k = get_or es k beyond

at-is : (es : List Rectangle) (k : ℕ) → k < length es → at es k ≡ get_or es k (at es k)
at-is es k within = get_or_default es k beyond (at es k) within

-- what was walked, seen from its row
walked : (rows columns : ℕ) (es : List Rectangle) (k : ℕ) (m : BTreeMap ℕ Rectangle) → HasWalked rows columns es k m → k < length es → IsWalked (take k es) m (at es k).first.row
walked rows columns es k m so_far within = walked-here rows columns es k m (at es k) so_far within (at-is es k within)

pub is_clear-requires-clause-keyed : goal.is_clear-requires-clause-keyed
is_clear-requires-clause-keyed c = c.loop-anchor.invariant.walked.keyed

pub is_clear-requires-clause-beside : goal.is_clear-requires-clause-beside
is_clear-requires-clause-beside c = (walked c.args.rows c.args.columns c.args.anchors.now c.loop-anchor.anchor-index c.loop-anchor.reaching c.loop-anchor.invariant c.loop-anchor-test.true).beside

pub returns-then-not-is_inside : goal.returns-then-not-is_inside
returns-then-not-is_inside c =
    let es = c.args.anchors.now in
    let k = c.loop-anchor.anchor-index in
    let within = c.loop-anchor-test.true in
    let e = at es k in
    elim c.then-not-is_inside.branch [
      | goal.then-not-is_inside-via-then-not-is_inside w ↦
          let outside : fits_among c.args.rows c.args.columns (take k es) e ≡ false = and_left _ _ (sym c.is_inside.ensures ∙ w.if-not-is_inside.true) in
          sym (has_walked-stop c.args.rows c.args.columns es k e within (at-is es k within) outside)
      | goal.then-not-is_inside-via-else-not-is_inside+then-not-is_clear w ↦
          let here = walked c.args.rows c.args.columns es k c.loop-anchor.reaching c.loop-anchor.invariant within in
          sym (has_walked-stop c.args.rows c.args.columns es k e within (at-is es k within) (met_place c.args.rows c.args.columns (take k es) c.loop-anchor.reaching e here (All-from_recursion _ es c.requires.sizes k beyond within).height w.if-not-is_clear.ensures.clear))
    ]

pub loop-anchor-preserved : goal.loop-anchor-preserved
loop-anchor-preserved c =
    let es = c.args.anchors.now in
    let k = c.loop-anchor.anchor-index in
    let within = c.loop-anchor-test.true in
    has_walked-more c.args.rows c.args.columns es k c.loop-anchor.reaching c.is_clear.new.reaching c.insert.new.self (at es k) c.loop-anchor.invariant c.requires.rising within (at-is es k within)
    (All-from_recursion _ es c.requires.sizes k beyond within).width (sym c.is_inside.ensures ∙ c.if-not-is_inside.false) c.if-not-is_clear.ensures.clear c.is_clear.ensures.drops c.in_ok-insert.ensures.updates.0
