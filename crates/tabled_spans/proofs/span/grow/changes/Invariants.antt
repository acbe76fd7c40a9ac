use Rattle.tabled_spans.proofs.Common.{◌++◌, ◌≡◌, AllByRecursion, AreSorted, HasArea, InReach, IsCoverOf, across, count_of, grown_each, inside, length, lines_in, with_sizes}
use Rattle.tabled_spans.proofs.RisingPlaces.{ones}
use Rattle.tabled_spans.proofs.span.grow.changes.Given as goal

abbrev pub invariant-loop-pos : goal.invariant-loop-pos
invariant-loop-pos l =
    let n = count_of l.axis l.rows l.columns in
    let m = with_sizes l.cfg l.changes.items in
    record {
      within : AllByRecursion (InReach l.axis l.size n l.block) l.pos-iterator;
      block : l.cover.block ≡ l.block;
      cover : IsCoverOf m l.cover;
      sorted : AreSorted (l.changes.items ++ ones l.pos-iterator);
      full : AllByRecursion HasArea l.changes.items;
      sizes : grown_each l.axis l.size n m l.pos-iterator ≡ grown_each l.axis l.size n l.cfg (inside l.fn.entity l.rows l.columns);
      hints : length l.hints.items ≡ lines_in (across l.axis) l.block.size;
    }
