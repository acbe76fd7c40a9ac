use Rattle.tabled_csv.proofs.Common.{[], ◌++◌, ◌∙◌, ◌∷◌, ◌≡◌, ap, err_from_is_err_and, map, map-append}
use Rattle.tabled_csv.proofs.Progress.{field-read, no-field-read, none-read}
use Rattle.tabled_csv.specs.Faults.{FaultAt}
use Rattle.tabled_csv.specs.Reading.{RecordFault}
use Rattle.tabled_csv.proofs.Utf8Parts.{after-field}
use Rattle.tabled_csv.specs.declared.stop.Stop.TheVariants.{Separator}
use Rattle.tabled_texts.proofs.Reading.{shows-from}
use Rattle.tabled_csv.proofs.reading.record.Goals as goal

pub returns-in_err-text : goal.returns-in_err-text
returns-in_err-text g c =
    let p = err_from_is_err_and c.from_residual-in_err-text.result c.from_residual-in_err-text.ensures.1 in
    let s = c.args.dialect in
    rw (p.1, p.2)
    (shows-from (FaultAt s c.fields.rest.now) (RecordFault s c.args.bytes.now) c.in_err-text.field-0.0
    (none-read s c.args.bytes.now c.fields.rest.now (map g.T.CellText.text_of c.fields.row.items) c.fields.invariant.read c.requires.separator) c.in_err-text.ensures)

pub fields-preserved : goal.fields-preserved
fields-preserved g c =
    let s = c.args.dialect in
    let texts = map g.T.CellText.text_of c.fields.row.items in
    let text = c.in_ok-text.text.now in
    let after = c.in_ok-text.after.now in
    let text-of = g.T.CellText.text_of in
    let same : text-of c.from.result ≡ text = c.requires.keeps c.in_ok-text.text c.from.result c.from.ensures in
    let all : map text-of c.push.new.self.items ≡ texts ++ (text ∷ []) =
    ap (map text-of) c.in_ok-push.ensures.items ∙ map-append text-of c.fields.row.items (c.from.result ∷ []) ∙ ap (λ it. texts ++ (it ∷ [])) same in
    record {
      read = rw all (field-read s c.args.bytes.now c.fields.rest.now texts c.fields.invariant.read c.requires.separator text after (rw c.in-Separator.is at c.in_ok-text.ensures));
      text = λ is. after-field s c.requires.separator c.fields.rest.now text Separator after (rw c.in-Separator.is at c.in_ok-text.ensures).at (c.fields.invariant.text is);
    }

pub fields-init : goal.fields-init
fields-init g c = record {
  read = rw c.in_ok-row.ensures.items (no-field-read c.args.dialect c.args.bytes.now);
  text = c.requires.text;
}
