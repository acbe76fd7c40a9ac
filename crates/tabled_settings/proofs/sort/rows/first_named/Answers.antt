use Rattle.std.proofs.Common.{List, below_more, nat_eq}
use Rattle.std.specs.Cmp.Lexicographic.{pointwise}
use Rattle.tabled_select.specs.Locators.{text_is}
use Rattle.tabled_settings.proofs.Common.{◌∙◌, ◌≡◌, ap, arith, false, map_grid, place, sym, ℕ}
use Rattle.tabled_settings.proofs.RowKeys.{first-passing}
use Rattle.tabled_settings.proofs.sort.rows.first_named.Goals as goal

pub returns-then-eq : goal.returns-then-eq
returns-then-eq g c =
    let texts = map_grid g.R.Cell.CellText.text_of (g.R.GridStore.grid c.args.records.now) in
    let named = λ (j : ℕ). text_is c.args.name.now texts (place 0 j) in
    sym (first-passing named texts.columns c.loop-col.col (omega arith) c.loop-col.invariant (λ h. ap (λ (t : List ℕ). pointwise nat_eq t c.args.name.now) (sym c.text_in.ensures) ∙ sym c.eq.ensures ∙ c.if-eq.true))

pub loop-col-preserved : goal.loop-col-preserved
loop-col-preserved g c =
    let texts = map_grid g.R.Cell.CellText.text_of (g.R.GridStore.grid c.args.records.now) in
    below_more (λ (j : ℕ). text_is c.args.name.now texts (place 0 j) ≡ false) c.loop-col.col c.loop-col.invariant (ap (λ (t : List ℕ). pointwise nat_eq t c.args.name.now) (sym c.text_in.ensures) ∙ sym c.eq.ensures ∙ c.if-eq.false)

pub returns : goal.returns
returns g c =
    let texts = map_grid g.R.Cell.CellText.text_of (g.R.GridStore.grid c.args.records.now) in
    let named = λ (j : ℕ). text_is c.args.name.now texts (place 0 j) in
    c.count_columns-columns.ensures.columns ∙ sym (first-passing named texts.columns texts.columns (omega arith) (λ i h. c.loop-col.invariant i (omega arith)) (λ h. absurd (omega arith)))
