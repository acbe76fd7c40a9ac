use Rattle.tabled_language.proofs.Common.{◌≡◌, arith, bytes_of, length, map, map_items}
use Rattle.tabled_language.proofs.PaddedRecords.{all_written, even_cells, has_cells, table_cells}
use Rattle.tabled_language.proofs.padding.padded.Goals as goal

pub returns : goal.returns
returns c =
    let old = c.args.records.items in
    let new = c.pad_each.new.records in
    let many : length new ≡ length old = omega (arith, c.pad_each.auto.records, c.deref_mut.ensures.len, c.args.records.ok.0) in
    let padded = rw c.deref_mut.ensures.value at c.in_ok-pad_each.ensures in
    let has = has_cells bytes_of old new c.longest-columns.result c.longest-columns.ensures padded in
    rw (all_written old new c.args.records.len c.args.records.ok.0 many) (record {
      even = even_cells bytes_of (map_items new) (map (map bytes_of) (map_items old)) has;
      cells = table_cells bytes_of (map_items new) (map (map bytes_of) (map_items old)) has;
    })
