use Rattle.tabled_held.proofs.Pens.{sends-as, sends-then}
use Rattle.tabled_csv.proofs.Common.{◌==◌, ◌∙◌, ◌≡◌, Some, ap, row_at, slice_get, sym}
use Rattle.tabled_csv.proofs.Writes.{record-is, row-texts}
use Rattle.tabled_csv.proofs.writing.write_record.Goals as goal

pub returns : goal.returns
returns g c =
    let row = row_at (g.R.Rows.texts c.args.rows.now) c.args.i in
    let text = c.as_bytes-text.result.now in
    let quoted = c.first_is_quoted-is_quoted in
    let at : slice_get row 0 ≡ Some text = c.text.ensures ∙ ap Some (sym c.as_bytes-text.ensures.value) in
    record {
      sends = sends-as (record-is c.args.separator (c.args.i == 0) quoted.result row c.width-width.result text at c.width-width.ensures quoted.ensures)
          (sends-then (sends-then c.write_field.ensures c.write_others.ensures.sends) c.send_byte-2.ensures);
      texts = row-texts row text at (c.as_bytes-text.ensures.utf8, tt) c.write_others.ensures.texts;
    }
