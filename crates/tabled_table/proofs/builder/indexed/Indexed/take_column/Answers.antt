use Rattle.tabled_table.proofs.Common.{◌<◌, ◌∙◌, ◌≡◌, All-lens, Some, ap, column_of, get_or-map, length, length-map, map, map-remove, refl, remove, row_texts, rows_written, slice_get, slice_get-get_or, string_bytes, sym}
use Rattle.std.specs.Vec.{with_items}
use Rattle.tabled_table.proofs.Indexed.{IsIndexed-column}
use Rattle.tabled_table.proofs.builder.indexed.Indexed.take_column.Goals as goal
use Rattle.tabled_table.proofs.builder.indexed.Indexed.take_column.Goals.{After-remove}

-- what is left of the header and the rows, and the column that was taken
module _ (c : After-remove) where
  headers : map string_bytes c.remove.new.self.items ≡ remove (map string_bytes c.self.inside.header.items) c.args.column
  headers = ap (map string_bytes) c.remove.ensures.items ∙ map-remove string_bytes c.self.inside.header.items c.args.column

  index : map string_bytes c.in_ok-self-inside.field-0.items ≡ column_of (row_texts c.self.inside.body.items) c.args.column
  index = c.in_ok-self-inside.ensures.column ∙ ap (λ rows. column_of (row_texts rows) c.args.column) c.deref_mut.ensures.value

  rows : row_texts (with_items c.self.inside.body c.take_column.new.rows).items ≡ map (λ row. remove row c.args.column) (row_texts c.self.inside.body.items)
  rows = rows_written c.self.inside.body c.take_column.new.rows (c.take_column.auto.rows ∙ c.deref_mut.ensures.len) ∙ c.in_ok-self-inside.ensures.rows ∙ ap (λ rows. map (λ row. remove row c.args.column) (row_texts rows)) c.deref_mut.ensures.value

pub take_column-requires : goal.take_column-requires
take_column-requires c = rw c.deref_mut.ensures.value (All-lens (λ n. c.args.column < n) (length (map string_bytes c.self.inside.header.items)) c.self.inside.body.items (rw (← c.self.view_is) at c.requires) c.self.invariant.wide)

pub invariant_of-self : goal.invariant_of-self
invariant_of-self c =
    let taken = (goal.at.invariant_of-self c).After-remove in
    let h = IsIndexed-column c.args.column _ (rw (← c.self.view_is) at c.requires) c.self.invariant in
    rw (headers taken, index taken, rows taken) (record { tall = h.tall; wide = h.wide })

pub returns : goal.returns
returns c =
    let taken = (goal.at.returns c).After-remove in
    let j = c.args.column in
    let header = c.self.inside.header.items in
    let within = rw (← c.self.view_is) at c.requires in
    let name : slice_get (map string_bytes header) j ≡ Some (string_bytes c.remove.result) =
    slice_get-get_or (map string_bytes header) j (string_bytes c.remove.result) within
    ∙ ap Some (get_or-map string_bytes header j c.remove.result (string_bytes c.remove.result) (rw (length-map header string_bytes) at within) ∙ ap string_bytes (sym c.remove.ensures.value)) in
    rw (← c.self.view_is, name, headers taken, index taken, rows taken) refl
