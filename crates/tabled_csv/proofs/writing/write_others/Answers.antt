use Rattle.tabled_held.proofs.Pens.{sends-as, sends-none, sends-then}
use Rattle.tabled_csv.proofs.Common.{◌+◌, ◌-◌, ◌∙◌, ◌≡◌, AreTexts, IsUtf8, Some, ap, arith, drop, others_of, row_at, slice_get, subst, sym, take}
use Rattle.tabled_csv.proofs.Writes.{all-behind, all-more, one-more, others-more}
use Rattle.tabled_csv.proofs.writing.write_others.Goals as goal

pub loop-j-init : goal.loop-j-init
loop-j-init g c = record { sends = sends-none; texts = tt }

pub loop-j-preserved : goal.loop-j-preserved
loop-j-preserved g c =
    let s = c.args.separator in
    let row = row_at (g.R.Rows.texts c.args.rows.now) c.args.i in
    let j = c.loop-j.j in
    let text = c.as_bytes.result.now in
    let at : slice_get row j ≡ Some text = c.text.ensures ∙ ap Some (sym c.as_bytes.ensures.value) in
    let more = one-more row j text c.loop-j.auto.j at in
    record {
      sends = sends-as (others-more s (take (j - 1) (drop 1 row)) (take (j + 1 - 1) (drop 1 row)) text more)
          (sends-then c.loop-j.invariant.sends c.write_other.ensures);
      texts = all-more IsUtf8 (take (j - 1) (drop 1 row)) (take (j + 1 - 1) (drop 1 row)) text more c.loop-j.invariant.texts c.as_bytes.ensures.utf8;
    }

pub returns : goal.returns
returns g c =
    let row = row_at (g.R.Rows.texts c.args.rows.now) c.args.i in
    let all = all-behind row c.loop-j.j (omega (arith, c.width-j-end.ensures, c.loop-j-test.false)) in
    record { sends = sends-as (ap (others_of c.args.separator) all) c.loop-j.invariant.sends; texts = subst AreTexts all c.loop-j.invariant.texts }
