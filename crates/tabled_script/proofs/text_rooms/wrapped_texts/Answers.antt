use Rattle.std.specs.String.{string_bytes}
use Rattle.tabled_draw.proofs.Common.{[], ◌∙◌, ◌∷◌, ◌≡◌, ap, arith, each, map_grid}
use Rattle.tabled_draw.proofs.Singly.{row-more, wide-more}
use Rattle.tabled_grid.specs.Grid.{grid_of, map_items}
use Rattle.tabled_script.proofs.Rooms.{even-wide, grid-is}
use Rattle.tabled_script.specs.TextRooms.{room_of, wrapped_row}
use Rattle.tabled_script.specs.Narrow.{wrapped_by}
use Rattle.tabled_script.proofs.text_rooms.wrapped_texts.Goals as goal

pub loop-i-preserved : goal.loop-i-preserved
loop-i-preserved g c =
    let t = map_grid g.R.Cell.CellText.text_of (g.R.GridStore.grid c.args.records.now) in
    let old = c.loop-i.texts.items in
    let row = c.in_ok-wrapped_row.field-0 in
    record {
      wide = rw c.in_ok-push.ensures.items (wide-more old row t.columns c.loop-i.invariant.wide c.in_ok-wrapped_row.ensures.long);
      texts = rw c.in_ok-push.ensures.items (row-more string_bytes old row c.loop-i.i (wrapped_row (room_of c.args.room.now) t) c.loop-i.invariant.texts c.in_ok-wrapped_row.ensures.texts);
    }

pub returns-clause-texts : goal.returns-clause-texts
unfolding wrapped_by
returns-clause-texts g c =
    let t = map_grid g.R.Cell.CellText.text_of (g.R.GridStore.grid c.args.records.now) in
    let end : c.loop-i.i ≡ t.rows = omega (arith, c.loop-i-test.false, c.loop-i.auto.i-end, c.count_rows-i-end.ensures.rows) in
    grid-is string_bytes (map_items c.loop-i.texts.items) ∙ ap grid_of (c.loop-i.invariant.texts ∙ ap (λ n. each n (λ i. wrapped_row (room_of c.args.room.now) t i ∷ [])) end)

pub returns-clause-even : goal.returns-clause-even
returns-clause-even g c = even-wide _ (map_items c.loop-i.texts.items) c.loop-i.invariant.wide
