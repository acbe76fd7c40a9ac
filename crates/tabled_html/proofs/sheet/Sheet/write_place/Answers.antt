use Rattle.std.proofs.Common.{arith, rules}
use Rattle.tabled_held.proofs.Pens.{sends-none}
use Rattle.tabled_html.proofs.Ends.{across, below, ends-hidden, ends-seen, hidden-above, seen-below}
use Rattle.tabled_html.proofs.sheet.Sheet.write_place.Goals as goal

pub returns-then-pos-ends-clause-sent : goal.returns-then-pos-ends-clause-sent
returns-then-pos-ends-clause-sent g c = rw (hidden-above c.self.view_is c.self.invariant.1.fits c.requires.inside c.requires.ends c.if-pos-ends.true) sends-none

pub returns-then-pos-ends-clause-ends : goal.returns-then-pos-ends-clause-ends
returns-then-pos-ends-clause-ends g c = ends-hidden c.self.view_is c.self.invariant.1.fits c.requires.inside c.requires.ends c.if-pos-ends.true

pub overflow_add-pos : goal.overflow_add-pos
overflow_add-pos g c =
    omega (arith, below c.self.view_is c.self.invariant.1.fits c.requires.inside c.requires.ends c.if-pos-ends.false c.size-size.ensures.value, c.self.invariant.1.counted)

pub end_at-requires : goal.end_at-requires
end_at-requires g c = record {
  inside = omega (arith, across c.self.view_is c.self.invariant.1.fits c.requires.inside c.requires.ends c.if-pos-ends.false c.size-size.ensures.value, c.requires.ends.long);
}

pub returns-clause-sent : goal.returns-clause-sent
returns-clause-sent g c =
    rw (seen-below c.self.view_is c.self.invariant.1.fits c.requires.inside c.requires.ends c.if-pos-ends.false, ← c.self.view_is) (search rules)

pub returns-clause-ends : goal.returns-clause-ends
returns-clause-ends g c =
    ends-seen c.self.view_is c.self.invariant.1.fits c.requires.inside c.requires.ends c.if-pos-ends.false c.size-size.ensures.value c.end_at.new.ends c.end_at.ensures.long c.end_at.ensures.ends
