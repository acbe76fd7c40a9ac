use Rattle.tabled_grid.proofs.Common.{[], ◌<◌, ◌∙◌, ◌≡◌, ap, arith, into_iter_items, length, length-map, map_items, nil_from_length, sym, transposed_rows, with_items_behind, with_items_is}
use Rattle.tabled_grid.proofs.Turned.{length-empty_rows, behind_done, behind_more, behind_begun, have_width, even_rows, with_rows_behind}
use Rattle.tabled_grid.proofs.records.nested_rows.turn.turn_rows.Goals as goal

pub transpose_square-requires : goal.transpose_square-requires
transpose_square-requires g c =
    let tall = length-map c.args.rows.now.items (λ row. row.items) in
    let some : 0 < length (map_items c.args.rows.now.items) = omega (arith, c.args.rows.now.ok.0, tall) in
    record {
      even = rw c.deref_mut.ensures.value (even_rows _ _ c.requires some);
      some = omega (arith, c.deref_mut.ensures.len, c.args.rows.now.ok.0);
      square = rw c.deref_mut.ensures.value (have_width _ _ c.requires some ∙ omega (arith, c.args.rows.now.ok.0));
    }

pub loop-row-init : goal.loop-row-init
loop-row-init g c =
    let empty = c.in_ok-turned.ensures.empty in
    rw (c.into_iter-row-iterator.ensures.into_iter_gives.0, c.replace-old.ensures.value, c.replace-old.ensures.after) (record {
      wide = c.requires;
      tall = length-empty_rows _ _ empty;
      turned = rw empty (behind_begun _ _ c.requires);
      room = λ k d below. omega (arith, c.in_ok-turned.ensures.room k d below, c.args.rows.now.ok.0);
    })

pub push_each-requires-clause-many : goal.push_each-requires-clause-many
push_each-requires-clause-many g c =
    let invariant = rw c.in-Some.ensures.steps.0 at c.loop-row.invariant in
    omega (arith, c.in-Some.row.ok.0, invariant.wide.0, invariant.tall, c.deref_mut-in-loop-row.ensures.len, c.loop-row.rows.ok.0)

pub push_each-requires-clause-room : goal.push_each-requires-clause-room
push_each-requires-clause-room g c k d below =
    let invariant = rw c.in-Some.ensures.steps.0 at c.loop-row.invariant in
    rw c.deref_mut-in-loop-row.ensures.value (omega (arith, invariant.room k d (omega (arith, below, c.deref_mut-in-loop-row.ensures.len, c.loop-row.rows.ok.0))))

pub loop-row-preserved : goal.loop-row-preserved
loop-row-preserved g c =
    let invariant = rw c.in-Some.ensures.steps.0 at c.loop-row.invariant in
    let left = map_items (into_iter_items c.next.new.self) in
    let written = with_items_is c.loop-row.rows c.push_each.new.rows (c.push_each.auto.rows ∙ c.deref_mut-in-loop-row.ensures.len) in
    let pushed = c.push_each.ensures.cells ∙ ap (λ rows. with_items_behind (map_items rows) c.in-Some.row.items) c.deref_mut-in-loop-row.ensures.value in
    rw written (record {
      wide = invariant.wide.1;
      tall = omega (arith, c.push_each.auto.rows, c.deref_mut-in-loop-row.ensures.len, c.loop-row.rows.ok.0, invariant.tall);
      turned = invariant.turned ∙ behind_more c.args.columns (map_items c.loop-row.rows.items) c.in-Some.row.items left ∙ ap (λ rows. with_rows_behind rows (transposed_rows c.args.columns left)) (sym pushed);
      room = c.push_each.ensures.left (length (into_iter_items c.next.new.self)) (rw c.deref_mut-in-loop-row.ensures.value invariant.room);
    })

pub returns-clause-ok : goal.returns-clause-ok
returns-clause-ok g c =
    let left = into_iter_items c.loop-row.row-iterator in
    let none : left ≡ [] = nil_from_length left (omega (arith, c.in-None.ensures.steps.0, c.loop-row.row-iterator.rest.ok.0)) in
    let invariant = rw none at c.loop-row.invariant in
    sym (invariant.turned ∙ behind_done c.args.columns (map_items c.loop-row.rows.items) (length-map c.loop-row.rows.items (λ row. row.items) ∙ invariant.tall))
