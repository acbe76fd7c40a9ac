use Rattle.tabled_language.proofs.Common.{◌*◌, ◌<◌, ◌∙◌, ◌≤◌, OutOfMemory, ap, arith, length, map_grid, map_items, reads_table, string_bytes}
use Rattle.tabled_language.proofs.Asking.{handed_on}
use Rattle.tabled_language.proofs.TableRows.{has_rows, positive_number_some, table_asks, table_read}
use Rattle.tabled_language.proofs.words.Words.table.Goals as goal

pub new-requires : goal.new-requires
new-requires c =
    let some : 0 < c.in_ok-rows.rows = positive_number_some c.args.self.now c.positive_number.new.self c.in_ok-rows.rows c.in_ok-rows.ensures in
    let fits : c.in_ok-rows.rows * c.in_ok-columns.columns ≤ length c.positive_number-2.new.self = omega (arith, c.if-many-left.true, c.in-Some.ensures, c.left.ensures) in
    (has_rows string_bytes c.in_ok-rows.rows c.in_ok-columns.columns c.positive_number-2.new.self (map_items c.in_ok-cells-in-Some.cells.items) some fits c.in_ok-cells-in-Some.ensures.0).even

pub returns-in_err-cells-in-Some : goal.returns-in_err-cells-in-Some
returns-in_err-cells-in-Some c =
    let fits : c.in_ok-rows.rows * c.in_ok-columns.columns ≤ length c.positive_number-2.new.self = omega (arith, c.if-many-left.true, c.in-Some.ensures, c.left.ensures) in
    let asks = table_asks c.args.self.now c.positive_number.new.self c.positive_number-2.new.self c.in_ok-rows.rows c.in_ok-columns.columns c.in_ok-rows.ensures c.in_ok-columns.ensures fits in
    handed_on _ reads_table c.args.self.now c.from_residual-in_err-cells-in-Some.result c.rows.new.self c.in_err-cells-in-Some.field-0.0 c.from_residual-in_err-cells-in-Some.ensures.1 (rw c.in_err-cells-in-Some.ensures asks)

pub returns-in_err-records-in-Some : goal.returns-in_err-records-in-Some
returns-in_err-records-in-Some c =
    let fits : c.in_ok-rows.rows * c.in_ok-columns.columns ≤ length c.positive_number-2.new.self = omega (arith, c.if-many-left.true, c.in-Some.ensures, c.left.ensures) in
    let asks = table_asks c.args.self.now c.positive_number.new.self c.positive_number-2.new.self c.in_ok-rows.rows c.in_ok-columns.columns c.in_ok-rows.ensures c.in_ok-columns.ensures fits in
    handed_on _ reads_table c.args.self.now c.from_residual-in_err-records-in-Some.result c.rows.new.self OutOfMemory c.from_residual-in_err-records-in-Some.ensures.1 asks

pub returns-in_ok-records-in-Some : goal.returns-in_ok-records-in-Some
returns-in_ok-records-in-Some c =
    let some : 0 < c.in_ok-rows.rows = positive_number_some c.args.self.now c.positive_number.new.self c.in_ok-rows.rows c.in_ok-rows.ensures in
    let fits : c.in_ok-rows.rows * c.in_ok-columns.columns ≤ length c.positive_number-2.new.self = omega (arith, c.if-many-left.true, c.in-Some.ensures, c.left.ensures) in
    let has = has_rows string_bytes c.in_ok-rows.rows c.in_ok-columns.columns c.positive_number-2.new.self (map_items c.in_ok-cells-in-Some.cells.items) some fits c.in_ok-cells-in-Some.ensures.0 in
    table_read c.args.self.now c.positive_number.new.self c.positive_number-2.new.self c.rows.new.self c.in_ok-rows.rows c.in_ok-columns.columns _ c.in_ok-rows.ensures c.in_ok-columns.ensures fits (ap (map_grid string_bytes) (c.from_records.ensures.cells ∙ c.in_ok-records-in-Some.ensures) ∙ has.texts_are) c.in_ok-cells-in-Some.ensures.1
