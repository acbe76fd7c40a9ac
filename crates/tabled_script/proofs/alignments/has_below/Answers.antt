use Rattle.std.specs.List.{list_any, range_with_len}
use Rattle.std.specs.Prelude.{◌-◌, false}
use Rattle.std.proofs.lemmas.List.Folds.{list_any-append}
use Rattle.tabled_grid.specs.Entity.{place}
use Rattle.tabled_script.proofs.Common.{◌+◌, ◌<◌, ◌∙◌, ◌≡◌, ap, arith, map_grid, refl, sym, ℕ}
use Rattle.tabled_script.proofs.Ranges.{any_in_range}
use Rattle.tabled_settings.proofs.NamedLines.{range_one_more}
use Rattle.tabled_script.specs.Aligners.{is_of}
use Rattle.tabled_select.specs.Locators.{text_at}
use Rattle.tabled_script.proofs.alignments.has_below.Goals as goal

pub loop-row-preserved : goal.loop-row-preserved
loop-row-preserved g c =
    let grid = g.R.GridStore.grid c.args.records.now in
    let test = λ (i : ℕ). is_of c.args.kind (text_at (map_grid g.R.Cell.CellText.text_of grid) (place i c.args.column)) in
    let i = c.loop-row.row in
    let next : i + 1 - 1 ≡ (i - 1) + 1 = omega (arith, c.loop-row.auto.row) in
    let here : 1 + (i - 1) ≡ i = omega (arith, c.loop-row.auto.row) in
    let no : test i ≡ false = ap (is_of c.args.kind) (sym c.text_in.ensures) ∙ sym c.is_that_of.ensures ∙ c.if-is_that_of.false in
    record {
      none = ap (list_any test) (range_one_more 1 (i - 1) (i + 1 - 1) next) ∙ list_any-append test (range_with_len 1 (i - 1)) _ ∙ rw (c.loop-row.invariant.none, here, no) refl;
      few = omega (arith, c.loop-row-test.true, c.count_rows-row-end.ensures.rows);
    }

pub returns-then-is_that_of : goal.returns-then-is_that_of
returns-then-is_that_of g c =
    let grid = g.R.GridStore.grid c.args.records.now in
    let test = λ (i : ℕ). is_of c.args.kind (text_at (map_grid g.R.Cell.CellText.text_of grid) (place i c.args.column)) in
    let i = c.loop-row.row in
    let here : 1 + (i - 1) ≡ i = omega (arith, c.loop-row.auto.row) in
    let inside : i - 1 < grid.rows - 1 = omega (arith, c.loop-row.auto.row, c.loop-row-test.true, c.count_rows-row-end.ensures.rows) in
    sym (any_in_range test (grid.rows - 1) 1 (i - 1) inside (ap test here ∙ ap (is_of c.args.kind) (sym c.text_in.ensures) ∙ sym c.is_that_of.ensures ∙ c.if-is_that_of.true))

pub returns : goal.returns
returns g c =
    let grid = g.R.GridStore.grid c.args.records.now in
    let test = λ (i : ℕ). is_of c.args.kind (text_at (map_grid g.R.Cell.CellText.text_of grid) (place i c.args.column)) in
    let u = c.loop-row.invariant in
    let all : c.loop-row.row - 1 ≡ grid.rows - 1 = omega (arith, u.few, c.loop-row-test.false, c.count_rows-row-end.ensures.rows) in
    sym (ap (λ (n : ℕ). list_any test (range_with_len 1 n)) (sym all) ∙ u.none)
