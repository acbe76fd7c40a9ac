use Rattle.tabled_table.proofs.Common.{◌∙◌, ◌≡◌, ◌≤◌, ap₂, arith, length, map, padded_to, string_bytes, sym, vec_len, vec_len-texts}
use Rattle.tabled_table.proofs.Records.{with_record-padded, even-with_record, padded-long}
use Rattle.tabled_table.proofs.builder.table_builder.Builder.insert_record.Goals as goal

pub invariant_of-self-2 : goal.invariant_of-self-2
invariant_of-self-2 g c =
    let row = c.pad.new.row in
    let n : vec_len row ≡ length (map string_bytes row.items) = vec_len-texts row in
    let long : c.self.inside.count_columns ≤ vec_len row = omega (arith, n, padded-long c.self.inside.count_columns _ _ _ c.in_ok-pad.ensures.ok) in
    rw (c.in_ok-insert_row.ensures.ok, c.len-longest.ensures) (even-with_record _ _ _ _ c.args.i _ long c.self.invariant (sym n))

pub returns-clause-ok : goal.returns-clause-ok
returns-clause-ok g c =
    let given = c.in_ok-row.ensures in
    let row = c.pad.new.row in
    let n : vec_len row ≡ length (map string_bytes row.items) = vec_len-texts row in
    (given.0, given.1, given.2, given.3, rw (← c.self.view_is, c.in_ok-insert_row.ensures.ok, c.len-longest.ensures, c.as_str-empty.ensures.value) (with_record-padded _ c.args.i (vec_len row) _ _ (c.in_ok-pad.ensures.ok ∙ ap₂ (λ e xs. padded_to c.self.inside.count_columns e xs) c.as_str-empty.ensures.value given.4) n))
