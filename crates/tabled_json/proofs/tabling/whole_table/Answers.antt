use Rattle.std.specs.Global.{Vec}
use Rattle.tabled_json.proofs.Common.{◌≡◌, ◌∙◌, Bor, List, ℕ, ap, err_from_is_err_and, false, map, match-from, shows-from, sym, true}
use Rattle.tabled_json.specs.Faults.{ArrayFault, RecordsFault, RowFault, TableFault}
use Rattle.tabled_json.specs.Grammar.{AreRows, RowAt}
use Rattle.tabled_json.specs.Meanings.{HoldsTable, begins_rows}
use Rattle.tabled_json.specs.Records.{members_of}
use Rattle.tabled_json.specs.Space.{behind_space}
use Rattle.tabled_json.specs.Tables.{table_of}
use Rattle.tabled_texts.specs.Texts.{rows_of}
use Rattle.tabled_json.specs.declared.member.Member.{Member}
use Rattle.tabled_json.proofs.tabling.whole_table.Goals as goal
use Rattle.tabled_texts.specs.Reading.{Shows}

pub returns-then-begins_rows : goal.returns-then-begins_rows
returns-then-begins_rows c =
    let b = c.args.bytes.now in
    let e : begins_rows (behind_space b) ≡ true = sym c.begins_rows.ensures ∙ c.if-begins_rows.true in
    match-from c.whole_array.result (λ (rows : Vec (Vec (Bor (List ℕ)))). AreRows b (rows_of rows.items)) (λ (rows : Vec (Vec (Bor (List ℕ)))). HoldsTable b (rows_of rows.items)) (Shows (ArrayFault RowAt RowFault b)) (Shows (TableFault b))
    (λ rows are. HoldsTable.of_rows are)
    (λ error f. shows-from (ArrayFault RowAt RowFault b) (TableFault b) error (λ fault left g. TableFault.rows e g) f) c.whole_array.ensures

pub returns-in_err-objects : goal.returns-in_err-objects
returns-in_err-objects c =
    let p = err_from_is_err_and c.from_residual.result c.from_residual.ensures.1 in
    let b = c.args.bytes.now in
    let e : begins_rows (behind_space b) ≡ false = sym c.begins_rows.ensures ∙ c.if-begins_rows.false in
    rw (p.1, p.2) (shows-from (RecordsFault b) (TableFault b) c.in_err-objects.field-0.0 (λ fault left f. TableFault.records e f) c.in_err-objects.ensures)

pub returns : goal.returns
returns c =
    HoldsTable.of_records (map members_of c.in_ok-objects.objects.items) c.in_ok-objects.ensures
    (c.in_ok-rows.ensures ∙ ap (λ (objects : List (Vec Member)). table_of (map members_of objects)) c.as_slice.ensures.value)
