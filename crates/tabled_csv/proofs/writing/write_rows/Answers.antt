use Rattle.tabled_held.proofs.Pens.{not-failed, sends-as, sends-failed, sends-none, sends-then}
use Rattle.tabled_csv.proofs.Common.{◌+◌, ◌<◌, ◌∙◌, ◌≡◌, [], AllByRecursion, AreTexts, ap, arith, csv_of, drop, get_or, is_none, length, lines_of, subst, sym, take, take_all, take_more}
use Rattle.tabled_csv.proofs.Writes.{all-more, lines-more, lines-parts}
use Rattle.tabled_csv.proofs.writing.write_rows.Goals as goal

pub loop-i-init : goal.loop-i-init
loop-i-init g c = record { sends = sends-none; texts = tt }

pub loop-i-preserved : goal.loop-i-preserved
loop-i-preserved g c =
    let rows = g.R.Rows.texts c.args.rows.now in
    let i = c.loop-i.i in
    let inside : i < length rows = omega (arith, c.loop-i-test.true, c.count-i-end.ensures) in
    record {
      sends = sends-as (lines-more c.args.separator rows i inside) (sends-then c.loop-i.invariant.sends c.write_record.ensures.sends);
      texts = all-more AreTexts (take i rows) (take (i + 1) rows) (get_or rows i []) (take_more rows i [] inside) c.loop-i.invariant.texts c.write_record.ensures.texts;
    }

pub returns-then-has_failed-clause-sends : goal.returns-then-has_failed-clause-sends
returns-then-has_failed-clause-sends g c =
    let rows = g.R.Rows.texts c.args.rows.now in
    let i = c.loop-i.i in
    let s = c.args.separator in
    let inside : i < length rows = omega (arith, c.loop-i-test.true, c.count-i-end.ensures) in
    sends-as (sym (lines-parts s rows (i + 1)))
    (sends-then (sends-as (lines-more s rows i inside) (sends-then c.loop-i.invariant.sends c.write_record.ensures.sends))
    (sends-failed (sym c.has_failed.ensures ∙ c.if-has_failed.true) (lines_of s (is_none (take (i + 1) rows)) (drop (i + 1) rows))))

pub returns-then-has_failed-clause-texts : goal.returns-then-has_failed-clause-texts
returns-then-has_failed-clause-texts g c = λ works. absurd (not-failed (sym c.has_failed.ensures ∙ c.if-has_failed.true) works)

pub returns : goal.returns
returns g c =
    let rows = g.R.Rows.texts c.args.rows.now in
    let all : take c.loop-i.i rows ≡ rows = take_all c.loop-i.i rows (omega (arith, c.loop-i-test.false, c.count-i-end.ensures)) in
    record {
      sends = sends-as (ap (csv_of c.args.separator) all) c.loop-i.invariant.sends;
      texts = λ works. subst (AllByRecursion AreTexts) all c.loop-i.invariant.texts;
    }
