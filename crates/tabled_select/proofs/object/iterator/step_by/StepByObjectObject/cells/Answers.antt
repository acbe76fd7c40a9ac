use Rattle.tabled_select.proofs.Common.{[], arith, every, refl}
use Rattle.tabled_select.proofs.Stepped.{every-none, every_from-fresh, gives-hops, gives-if_any, some_none}
use Rattle.tabled_select.proofs.object.iterator.step_by.StepByObjectObject.cells.Goals as goal

pub returns-in-Some : goal.returns-in-Some
returns-in-Some g c =
    let listed = c.in_ok-all.ensures.lists in
    let steps = g.O.Iter.Iterator.next_gives in
    let gap = every_from-fresh c.self.inside.n c.in-Some.gap listed.0 (omega (arith, c.in-Some.ensures)) in
    record {
      lists = (
        every c.self.inside.n listed.0,
        (listed.0, rw (← c.self.view_is) listed.1, rw (← c.self.view_is) refl),
        record {
          can = listed.2.can;
          ends = listed.2.ends;
          gives = gives-if_any steps (λ e. e) _ _ _ refl (gives-hops steps (λ e. e) c.in-Some.gap _ listed.0 _ listed.2.gives gap);
        },
      );
    }

pub returns-in-None : goal.returns-in-None
returns-in-None g c =
    let listed = c.in_ok-all.ensures.lists in
    record {
      lists = (
        [],
        (listed.0, rw (← c.self.view_is) listed.1, rw (← c.self.view_is) (every-none _ _ c.in-None.ensures)),
        record {
          can = tt;
          ends = tt;
          gives = λ x t p. some_none p.1.0;
        },
      );
    }
