use Rattle.tabled_held.proofs.Pens.{not-failed, sends-as, sends-failed, sends-none, sends-then}
use Rattle.tabled_language.specs.Output.{row_line}
use Rattle.tabled_script.proofs.Common.{[], ◌++◌, ◌+◌, ◌∙◌, AllByRecursion, IsUtf8, List, Vec, ap, arith, drop, flat_map, flat_map-append, map, refl, subst, sym, take, take-append-drop, take_all, ℕ}
use Rattle.tabled_script.proofs.OutputLines.{pushed_more}
use Rattle.tabled_script.proofs.Texts.{all_more}
use Rattle.tabled_script.proofs.script_form.write_rows.Goals as goal

-- the line of a row, by what the text of a cell is
abbrev line_by : {A : Type 0} → (A → List ℕ) → Vec A → List ℕ
line_by text row = row_line (map text row.items)

pub loop-row-init : goal.loop-row-init
loop-row-init g c = record { sends = sends-none; texts = tt }

pub loop-row-preserved : goal.loop-row-preserved
loop-row-preserved g c =
    let text = g.T.CellText.text_of in
    let line_of = line_by text in
    let rows = c.args.rows.now in
    let i = c.loop-row.row-index in
    let before = flat_map line_of (take i rows) in
    record {
      sends = sends-as (ap (λ texts. before ++ row_line (map text texts)) c.deref.ensures.value ∙ pushed_more line_of [] before rows i c.row-item.result c.loop-row-test.true c.row-item.is refl) (sends-then c.loop-row.invariant.sends c.write_row.ensures.sends);
      texts = all_more (λ (row : Vec _). AllByRecursion IsUtf8 (map text row.items)) rows i c.row-item.result c.loop-row-test.true c.row-item.is c.loop-row.invariant.texts (subst (λ ts. AllByRecursion IsUtf8 (map text ts)) c.deref.ensures.value c.write_row.ensures.texts);
    }

pub returns-then-has_failed-clause-sends : goal.returns-then-has_failed-clause-sends
returns-then-has_failed-clause-sends g c =
    let text = g.T.CellText.text_of in
    let line_of = line_by text in
    let rows = c.args.rows.now in
    let i = c.loop-row.row-index in
    let before = flat_map line_of (take i rows) in
    let rest = flat_map line_of (drop (i + 1) rows) in
    let more = ap (λ texts. before ++ row_line (map text texts)) c.deref.ensures.value ∙ pushed_more line_of [] before rows i c.row-item.result c.loop-row-test.true c.row-item.is refl in
    sends-as (sym (flat_map-append line_of (take (i + 1) rows) (drop (i + 1) rows)) ∙ ap (flat_map line_of) (take-append-drop (i + 1) rows))
    (sends-then (sends-as more (sends-then c.loop-row.invariant.sends c.write_row.ensures.sends)) (sends-failed (sym c.has_failed.ensures ∙ c.if-has_failed.true) rest))

pub returns-then-has_failed-clause-texts : goal.returns-then-has_failed-clause-texts
returns-then-has_failed-clause-texts g c = λ works. absurd (not-failed (sym c.has_failed.ensures ∙ c.if-has_failed.true) works)

pub returns : goal.returns
returns g c =
    let text = g.T.CellText.text_of in
    let line_of = line_by text in
    let rows = c.args.rows.now in
    let all = take_all c.loop-row.row-index rows (omega arith) in
    record {
      sends = sends-as (ap (flat_map line_of) all) c.loop-row.invariant.sends;
      texts = λ works. subst (AllByRecursion (λ (row : Vec _). AllByRecursion IsUtf8 (map text row.items))) all c.loop-row.invariant.texts;
    }
