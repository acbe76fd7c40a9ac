use Rattle.tabled_grid.proofs.Common.{◌∙◌, grid_of, length-map, map_items, no_columns, sym}
use Rattle.tabled_grid.proofs.Flat.{full_of, view_of}
use Rattle.tabled_grid.proofs.records.vec_records.VecRecords.new.Goals as goal

pub invariant_of-result : goal.invariant_of-result
invariant_of-result g c =
    (full_of (grid_of (map_items c.args.rows.items)) _ _ _ c.requires (c.len-count.ensures ∙ c.args.rows.ok.0 ∙ sym (length-map c.args.rows.items _)) (rw c.deref.ensures.value at c.width-columns.ensures) c.in_ok-cells.ensures (no_columns _), tt)

pub returns : goal.returns
returns g c =
    view_of (grid_of (map_items c.args.rows.items)) _ _ _ c.requires (c.len-count.ensures ∙ c.args.rows.ok.0 ∙ sym (length-map c.args.rows.items _)) (rw c.deref.ensures.value at c.width-columns.ensures) c.in_ok-cells.ensures
