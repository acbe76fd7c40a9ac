use Rattle.tabled_select.proofs.MarkedPlaces.{marked-next, room-kept}
use Rattle.tabled_select.proofs.object.marked.Marked.of.Goals as goal

pub loop-pos-preserved : goal.loop-pos-preserved
loop-pos-preserved c =
    let before = c.loop-pos.invariant in
    let left = rw c.in-Some.ensures.steps at before.left in
    record {
      can = tt;
      ends = tt;
      left = room-kept _ _ _ _ c.insert.ensures.set _ left.1;
      room = room-kept _ _ _ _ c.insert.ensures.set _ before.room;
      others = λ others. room-kept _ _ _ _ c.insert.ensures.set _ (before.others others);
      marked = marked-next _ _ _ _ _ _ c.in-Some.ensures.steps c.insert.ensures.set before.marked;
    }
