use Rattle.std.specs.List.{zip}
use Rattle.tabled_held.proofs.Pens.{sends-as, sends-then}
use Rattle.tabled_json.proofs.Common.{◌+◌, ◌-◌, ◌<◌, ◌∙◌, ◌≡◌, ℕ, ap, arith, length, take}
use Rattle.tabled_json.proofs.Parts.{all-records, lines-next, record-get}
use Rattle.tabled_texts.specs.Texts.{row_at}
use Rattle.tabled_json.specs.Writing.{lines_text, records_of}
use Rattle.tabled_json.proofs.writing.write_lines.Goals as goal

pub loop-i-preserved : goal.loop-i-preserved
loop-i-preserved g c =
    let texts = g.R.Rows.texts c.args.rows.now in
    let i = c.loop-i.i in
    let inside : i < length texts = omega (arith, c.loop-i-test.true, c.count-i-end.ensures) in
    let next : i - 1 + 1 ≡ i + 1 - 1 = omega (arith, c.loop-i.auto.i) in
    sends-as
    (lines-next c.args.values (records_of texts) (i - 1) (zip (row_at texts 0) (row_at texts i)) (record-get texts i c.loop-i.auto.i inside)
    ∙ ap (λ (n : ℕ). lines_text c.args.values (take n (records_of texts))) next)
    (sends-then c.loop-i.invariant (sends-then c.write_object.ensures c.send_byte.ensures))

pub returns : goal.returns
returns g c =
    let texts = g.R.Rows.texts c.args.rows.now in
    sends-as (ap (lines_text c.args.values) (all-records texts c.loop-i.i (omega (arith, c.loop-i-test.false, c.count-i-end.ensures)))) c.loop-i.invariant
