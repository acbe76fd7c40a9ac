use Rattle.std.proofs.lemmas.Result.{IfOk-weaker}
use Rattle.tabled_draw.proofs.Common.{[], ◌∙◌, ◌≡◌, List, ap, ap₂, map_grid, max, sym, text_of_cell, true, unwrap_or, ℕ}
use Rattle.tabled_script.specs.TextRooms.{room_of}
use Rattle.tabled_width.specs.Wraps.{wrapped}
use Rattle.tabled_script.proofs.text_rooms.wrapped_at.Goals as goal

pub returns : goal.returns
returns g c =
    let t = map_grid g.R.Cell.CellText.text_of (g.R.GridStore.grid c.args.records.now) in
    let room = room_of c.args.room.now c.args.pos in
    let text : c.get_text-text.result.now ≡ text_of_cell t c.args.pos = sym (ap (λ found. unwrap_or found []) c.get_text-text.ensures) in
    let columns : c.max.result ≡ max (room (text_of_cell t c.args.pos)) 1 = c.max.ensures ∙ ap (λ n. max n 1) (c.in_ok-columns.ensures ∙ ap room text) in
    IfOk-weaker c.wrap.result _ _ (λ new is. is ∙ ap₂ (λ n (bytes : List ℕ). wrapped (n, true) bytes) columns text) c.wrap.ensures
