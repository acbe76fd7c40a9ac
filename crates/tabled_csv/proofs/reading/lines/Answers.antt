use Rattle.tabled_csv.proofs.Common.{[], ◌++◌, ◌<◌, ◌∙◌, ◌∷◌, ◌≡◌, ap, err_from_is_err_and, length, map-append}
use Rattle.tabled_texts.specs.Texts.{rows_by, texts_by}
use Rattle.tabled_csv.proofs.Lines.{behind-blank, lines-at, some-rows}
use Rattle.tabled_csv.proofs.Progress.{blank-read, filled-at, no-bytes, no-row-read, not-read, record-shorter, row-read, rows-read, some-bytes}
use Rattle.tabled_csv.specs.Reading.{LinesFault, RecordFault}
use Rattle.tabled_csv.proofs.Writes.{any-err}
use Rattle.tabled_csv.proofs.Utf8Parts.{after-blank, after-record}
use Rattle.tabled_texts.proofs.Reading.{shows-from}
use Rattle.tabled_csv.proofs.reading.lines.Goals as goal

pub lines-preserved-in-Some : goal.lines-preserved-in-Some
lines-preserved-in-Some g c = record { blank = λ none. behind-blank c.args.dialect c.in-Some.after.now c.in-Some.ensures (c.lines.invariant.blank none); text = λ is. after-blank c.lines.rest.now c.in-Some.after.now c.in-Some.ensures (c.lines.invariant.text is); read = blank-read c.args.dialect c.requires.separator c.args.bytes.now c.lines.rest.now (rows_by g.T.CellText.text_of c.lines.rows.items) c.lines.invariant.read c.in-Some.after.now c.in-Some.ensures }

pub returns-in_err-row-in-None-clause-read : goal.returns-in_err-row-in-None-clause-read
returns-in_err-row-in-None-clause-read g c =
    let p = err_from_is_err_and c.from_residual.result c.from_residual.ensures.1 in
    let s = c.args.dialect in
    let rest = c.lines.rest.now in
    rw (p.1, p.2)
    (shows-from (RecordFault s rest) (LinesFault s c.args.bytes.now) c.in_err-row-in-None.field-0.0
    (not-read s c.requires.separator c.args.bytes.now rest (rows_by g.T.CellText.text_of c.lines.rows.items) c.lines.invariant.read
    (filled-at rest (some-bytes rest c.lines-test.ensures) c.in-None.ensures))
    c.in_err-row-in-None.ensures)

pub returns-in_err-row-in-None-clause-err : goal.returns-in_err-row-in-None-clause-err
returns-in_err-row-in-None-clause-err g c =
    any-err c.from_residual.result _ (λ none. some-rows c.args.dialect (filled-at c.lines.rest.now (some-bytes c.lines.rest.now c.lines-test.ensures) c.in-None.ensures)
    (c.lines.invariant.blank (lines-at c.args.dialect c.requires.separator none)))

pub returns-in_err-push-in-None-clause-err : goal.returns-in_err-push-in-None-clause-err
returns-in_err-push-in-None-clause-err g c =
    any-err c.from_residual-in_err-push-in-None.result _ (λ none. some-rows c.args.dialect (filled-at c.lines.rest.now (some-bytes c.lines.rest.now c.lines-test.ensures) c.in-None.ensures)
    (c.lines.invariant.blank (lines-at c.args.dialect c.requires.separator none)))

pub lines-smaller : goal.lines-smaller
lines-smaller g c =
    let rest = c.lines.rest.now in
    let shorter : length c.in_ok-row-in-None.after.now < length rest =
    record-shorter c.args.dialect c.requires.separator rest (texts_by g.T.CellText.text_of c.in_ok-row-in-None.row) c.in_ok-row-in-None.after.now (some-bytes rest c.lines-test.ensures) c.in_ok-row-in-None.ensures in
    shorter

pub lines-preserved : goal.lines-preserved
lines-preserved g c =
    let rest = c.lines.rest.now in
    let rows = rows_by g.T.CellText.text_of c.lines.rows.items in
    let row = texts_by g.T.CellText.text_of c.in_ok-row-in-None.row in
    let all : rows_by g.T.CellText.text_of c.push.new.self.items ≡ rows ++ (row ∷ []) =
    ap (rows_by g.T.CellText.text_of) c.in_ok-push-in-None.ensures.items ∙ map-append (texts_by g.T.CellText.text_of) c.lines.rows.items (c.in_ok-row-in-None.row ∷ []) in
    record {
      read = rw all
          (row-read c.args.dialect c.requires.separator c.args.bytes.now rest rows c.lines.invariant.read row c.in_ok-row-in-None.after.now
          (filled-at rest (some-bytes rest c.lines-test.ensures) c.in-None.ensures) c.in_ok-row-in-None.ensures);
      blank = λ none. absurd (some-rows c.args.dialect (filled-at rest (some-bytes rest c.lines-test.ensures) c.in-None.ensures) (c.lines.invariant.blank none));
      text = λ is. after-record c.args.dialect c.requires.separator rest row c.in_ok-row-in-None.after.now c.in_ok-row-in-None.ensures (c.lines.invariant.text is);
    }

pub returns-clause-read : goal.returns-clause-read
returns-clause-read g c = rows-read c.args.dialect c.requires.separator c.args.bytes.now c.lines.rest.now (rows_by g.T.CellText.text_of c.lines.rows.items) c.lines.invariant.read (no-bytes c.lines.rest.now c.lines-test.ensures)

pub lines-init : goal.lines-init
lines-init g c = record {
  read = rw c.new-rows.ensures.items (no-row-read c.args.dialect c.args.bytes.now);
  blank = λ none. none;
  text = c.requires.text;
}
