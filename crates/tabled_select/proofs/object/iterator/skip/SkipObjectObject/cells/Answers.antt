use Rattle.tabled_select.proofs.Common.{YieldsList-from_skip, refl}
use Rattle.tabled_select.proofs.object.iterator.skip.SkipObjectObject.cells.Goals as goal

pub returns : goal.returns
returns g c =
    let listed = c.in_ok-cells.ensures.lists in
    record {
      lists = (
        _,
        (listed.0, rw (← c.self.view_is) listed.1, rw (← c.self.view_is) refl),
        record {
          can = rw c.skip.ensures.source listed.2.can;
          ends = rw c.skip.ensures.source listed.2.ends;
          gives = (YieldsList-from_skip {steps = g.O.Iter.Iterator.next_gives} {v = λ e. e} {ys = listed.0} {s = c.skip.result} c.self.inside.n (record { runs = rw c.skip.ensures.source listed.2.gives }) c.skip.ensures.count).runs;
        },
      );
    }
