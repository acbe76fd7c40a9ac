use Rattle.std.proofs.lemmas.Iterator.Adapters.{items_from_extend}
use Rattle.std.specs.Prelude.{Ok}
use Rattle.std.specs.declared.alloc.AllocError.{AllocError}
use Rattle.tabled_select.proofs.Common.{◌∙◌, ap, cells_of, firsts, marks_of, refl, shown_are_given}
use Rattle.tabled_select.proofs.NamedPlaces.{flat-append}
use Rattle.tabled_select.proofs.Uniting.{fresh-all}
use Rattle.tabled_select.proofs.object.union.UnionCombinationObject.cells.Goals as goal

pub returns : goal.returns
returns g c =
    let grid = g.I.GridStore.grid c.args.records.now in
    let rhs = c.in_ok-cells.ensures.lists in
    let joined = items_from_extend {E = AllocError} {steps = g.R.Iter.Iterator.next_gives} {s = c.in_ok-cells.field-0} (Ok tt) c.in_ok-extend.ensures.ran (record { runs = rhs.2.gives }) in
    let all = ap firsts (rw (c.count_rows-rows.ensures.rows, c.count_columns-columns.ensures.columns, joined.0, flat-append c.in_ok-all.all.items rhs.0 grid.rows grid.columns) at c.new.ensures) in
    record {
      lists = (
        _,
        (c.in_ok-all.all.items, rhs.0, rw (← c.self.view_is) c.in_ok-all.ensures, rw (← c.self.view_is) rhs.1, refl),
        shown_are_given _ _ _ _ tt (ap cells_of (fresh-all (marks_of c.in_ok-seen.seen) _ _ c.in_ok-seen.ensures ∙ all)),
      );
    }
