use Rattle.tabled_spans.proofs.Common.{◌∙◌, ◌≡◌, ◌≤◌, WritesText, across, ap, arith, count_along, place_in, refl, shifted, string_bytes, sym, with_span, without_line}
use Rattle.tabled_spans.proofs.PanelLines.{panelled, undone}
use Rattle.tabled_spans.proofs.panel.panel_on.PanelOnTableOptionSpannedConfig.change.Goals as goal

pub returns-in-Err-clause-err : goal.returns-in-Err-clause-err
returns-in-Err-clause-err g c =
    let old = g.R.GridStore.grid c.args.records.now in
    let axis = c.axis-axis.result in
    let within : c.self.inside.line ≤ count_along axis old = omega (arith, c.if-line-count.false, c.count.ensures.count) in
    let cells : 1 ≤ count_along (across axis) old = omega (arith, c.if-many-eq0.false, rw c.across.ensures at c.count-many.ensures.count) in (
      c.remove_line.ensures.removed
          ∙ ap (without_line axis c.self.inside.line) c.in-Err.ensures.err
          ∙ undone g.R.Cell.Blank.is_blank axis c.self.inside.line _ _ (g.R.GridStore.even _ c.requires.well) (g.met.R.Resizable.rowless _ c.requires.well) within cells c.in_ok-insert_line.ensures.ok,
      refl,
    )

pub returns-clause-ok : goal.returns-clause-ok
returns-clause-ok g c =
    let text_of = g.R.Cell.CellText.text_of in
    let old = g.R.GridStore.grid c.args.records.now in
    let axis = c.axis-axis.result in
    let line = c.self.inside.line in
    let within : line ≤ count_along axis old = omega (arith, c.if-line-count.false, c.count.ensures.count) in
    let many : c.count-many.result ≡ count_along (across axis) old = rw c.across.ensures at c.count-many.ensures.count in
    let cells : 1 ≤ count_along (across axis) old = omega (arith, c.if-many-eq0.false, many) in
    let writes : WritesText text_of (g.R.GridStore.grid c.insert_line.new.self) (g.R.GridStore.grid c.set.new.self) (place_in axis line 0) (string_bytes c.self.inside.text) = rw (c.in_default.is, c.place-2.ensures) at c.set.ensures.ok in
    let merged : c.set_span.new.self ≡ with_span (across axis) (shifted axis line c.args.cfg.now) (place_in axis line 0) (count_along (across axis) old) = c.in_ok-set_span.ensures.ok ∙ rw (c.shift.ensures.shifted, c.in_ok-merged.ensures.copy, c.place.ensures, c.across-2.ensures, many) refl in
    rw (← c.self.view_is, ← c.axis-axis.ensures)
    (panelled g.R.Cell.Blank.is_blank text_of g.met.R.Cell.CellText.blank_is_empty axis line (string_bytes c.self.inside.text) _ _ _ _ _ (g.R.GridStore.even _ c.requires.well) within cells (sym c.crosses.ensures.crosses ∙ c.if-crosses.false) c.in_ok-insert_line.ensures.ok writes merged)
