use Rattle.tabled_settings.proofs.Common.{◌∙◌, eq-eqb, refl, sym}
use Rattle.tabled_settings.proofs.PiecesDone.{can_be_cut, first_stays, others_stay}
use Rattle.tabled_settings.proofs.pieces.stays.Goals as goal

pub returns-then-number-eq0 : goal.returns-then-number-eq0
returns-then-number-eq0 g c =
    let t = c.args.pieces.now in
    let can = can_be_cut t (g.R.GridStore.grid c.args.records.now) (g.R.GridStore.even _ c.requires.well) c.requires.lines c.requires.width in
    let nth = (rw t.counted at c.nth_piece-line.ensures.nth) in
    eq-eqb _ _ c.if-number-eq0.true ∙ sym (first_stays g.R.Cell.CellText.text_of _ _ _ _ can refl c.args.nth (rw nth at c.if-number-eq0.true))

pub returns-else-number-eq0 : goal.returns-else-number-eq0
returns-else-number-eq0 g c =
    let t = c.args.pieces.now in
    let can = can_be_cut t (g.R.GridStore.grid c.args.records.now) (g.R.GridStore.even _ c.requires.well) c.requires.lines c.requires.width in
    let nth = (rw t.counted at c.nth_piece-line.ensures.nth) in
    let h = (rw nth at c.has_text.ensures) in
    others_stay g.R.Cell.CellText.text_of _ _ _ _ can refl c.args.nth c.has_text.result c.min.result (rw nth at c.if-number-eq0.false) (rw nth at c.min.ensures) h.found h.missed
