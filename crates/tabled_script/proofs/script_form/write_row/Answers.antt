use Rattle.tabled_held.proofs.Pens.{sends-as, sends-then}
use Rattle.tabled_script.proofs.Common.{[], ◌++◌, ◌∙◌, ◌∷◌, AllByRecursion, IsUtf8, ap, arith, codes, escaped, flat_map, refl, subst, sym, take, take_all}
use Rattle.tabled_script.proofs.OutputLines.{line-pieces, pushed_more}
use Rattle.tabled_script.proofs.Texts.{all_map, all_more}
use Rattle.tabled_script.proofs.script_form.write_row.Goals as goal

pub loop-text-init : goal.loop-text-init
loop-text-init g c = record { sends = c.send.ensures; texts = tt }

pub loop-text-preserved : goal.loop-text-preserved
loop-text-preserved g c =
    let word = λ (t : _). 9 ∷ escaped (g.T.CellText.text_of t) in
    let texts = c.args.texts.now in
    let i = c.loop-text.text-index in
    let before = codes "row" ++ flat_map word (take i texts) in
    record {
      sends = sends-as (pushed_more word (codes "row") before texts i c.text-item.result c.loop-text-test.true c.text-item.is refl) (sends-then c.loop-text.invariant.sends c.write_word.ensures.word);
      texts = all_more (λ t. IsUtf8 (g.T.CellText.text_of t)) texts i c.text-item.result c.loop-text-test.true c.text-item.is c.loop-text.invariant.texts c.write_word.ensures.text;
    }

pub returns : goal.returns
returns g c =
    let texts = c.args.texts.now in
    let all = take_all c.loop-text.text-index texts (omega arith) in
    record {
      sends = sends-as (ap (λ ts. (codes "row" ++ flat_map (λ t. 9 ∷ escaped (g.T.CellText.text_of t)) ts) ++ 10 ∷ []) all ∙ sym (line-pieces g.T.CellText.text_of (codes "row") texts)) (sends-then c.loop-text.invariant.sends c.send_byte.ensures);
      texts = all_map IsUtf8 g.T.CellText.text_of texts (subst (AllByRecursion (λ t. IsUtf8 (g.T.CellText.text_of t))) all c.loop-text.invariant.texts);
    }
