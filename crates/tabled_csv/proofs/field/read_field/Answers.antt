use Rattle.tabled_csv.proofs.Fielding.{plain-form}
use Rattle.tabled_csv.proofs.Utf8Parts.{plain-utf8}
use Rattle.tabled_csv.proofs.field.read_field.Goals as goal

pub is_utf8-requires : goal.is_utf8-requires
is_utf8-requires c is =
    let p = c.plain_field-stop.result in
    plain-utf8 c.args.dialect c.requires.separator c.args.bytes.now p.0.now p.1 p.2.now c.plain_field-stop.ensures (c.requires.text is)

pub returns-then-not-is_utf8 : goal.returns-then-not-is_utf8
returns-then-not-is_utf8 c =
    let p = c.plain_field-stop.result in
    (p.0.now, p.1, p.2.now, plain-form c.args.dialect c.args.bytes.now p.0.now p.1 p.2.now c.plain_field-stop.ensures, c.if-not-is_utf8.ensures, c.left_behind_text.ensures)
