use Rattle.tabled_settings.proofs.Common.{◌*◌, ◌<◌, ◌∙◌, ◌≡◌, Clean, Grid, IsStrictlyIncreasing, List, Size, Split, across, ap, arith, clean_split, div_ceil, get_or, length, map_grid, oriented, refl, staying_pieces, subst, sym, ℕ}
use Rattle.tabled_grid.specs.declared.records.pieces.LinePieces.{LinePieces}
use Rattle.tabled_settings.proofs.PiecePlaces.{clean_places, clean_splits, retained_places, retained_splits, spans_carried}
use Rattle.tabled_settings.proofs.PiecesDone.{CanBeCut, lines_counted, staying_below, staying_rising}
use Rattle.tabled_settings.proofs.split.SplitTableOptionSpannedConfig.change.Goals as goal
use Rattle.tabled_settings.proofs.split.SplitTableOptionSpannedConfig.change.Goals.{After-new}

-- what was found before the pieces are looked at
can_be_cut : (g : _) (c : After-new g) → CanBeCut c.args.self c.count_of-lines.result c.count_of-width.result (g.R.GridStore.grid c.args.records.now)
can_be_cut g c =
    let s = c.args.self in
    let grid = g.R.GridStore.grid c.args.records.now in
    let rows = c.shape_of-table.ensures.rows in
    let columns = c.shape_of-table.ensures.columns in
    record {
      even = g.R.GridStore.even _ c.requires.well;
      count = lines_counted s.lines grid _ _ _ c.count_of-lines.ensures rows columns;
      wide = lines_counted (across s.lines) grid _ _ _ (rw c.across-across.ensures at c.count_of-width.ensures) rows columns;
      some = omega (arith, c.if-lines-eq0.false);
      index = omega (arith, c.if-self-eq0.false);
      narrow = omega (arith, c.if-self-width.false);
    }

-- the pieces are those of the split of the table
pieces_of : (s : Split) (t : LinePieces) → s.display ≡ Clean → t.axis ≡ s.lines → t.order ≡ s.behavior → t.index ≡ s.index → clean_split t ≡ s
pieces_of s t clean axis order index = rw (axis, order, index, ← clean) refl

-- and those stay that stay of these
staying_in : (texts : Grid (List ℕ)) (staying : List ℕ) (s : Split) (t : LinePieces) → clean_split t ≡ s → staying ≡ staying_pieces (clean_split t) (oriented t.axis texts) → staying ≡ staying_pieces s (oriented s.lines texts)
staying_in texts staying s t is are = subst (λ (u : Split). staying ≡ staying_pieces u (oriented u.lines texts)) is are

pub staying_pieces-requires-clause-lines : goal.staying_pieces-requires-clause-lines
staying_pieces-requires-clause-lines g c =
    let can = can_be_cut g (goal.at.staying_pieces-requires-clause-lines g c).After-new in
    rw (c.in_ok-pieces.ensures.lines, c.in_ok-pieces.ensures.axis) can.count

pub staying_pieces-requires-clause-width : goal.staying_pieces-requires-clause-width
staying_pieces-requires-clause-width g c =
    let can = can_be_cut g (goal.at.staying_pieces-requires-clause-width g c).After-new in
    rw (c.in_ok-pieces.ensures.width, c.in_ok-pieces.ensures.axis) can.wide

pub invariant_of-clean : goal.invariant_of-clean
invariant_of-clean g c =
    let s = c.args.self in
    let t = c.in_ok-pieces.pieces in
    let is = c.in_ok-pieces.ensures in
    let grid = g.R.GridStore.grid c.args.records.now in
    let n = c.count_of-lines.result in
    let m = c.count_of-width.result in
    let can = can_be_cut g (goal.at.invariant_of-clean g c).After-new in
    let text_of = g.R.Cell.CellText.text_of in
    let staying = sym (staying_in (map_grid text_of grid) _ s t (pieces_of s t c.in-Clean.is is.axis is.order is.index) c.in_ok-staying-in-Clean.ensures) in
    record {
      rising = subst IsStrictlyIncreasing staying (staying_rising text_of s n m grid can);
      within = rw (t.counted, is.lines, is.width, is.index) (subst (λ (ts : List ℕ). (a : ℕ) → a < length ts → get_or ts a 0 < n * div_ceil m s.index) staying (staying_below text_of s n m grid can));
    }

pub returns-in_ok-cut-in-Clean-clause-ok : goal.returns-in_ok-cut-in-Clean-clause-ok
returns-in_ok-cut-in-Clean-clause-ok g c =
    let text_of = g.R.Cell.CellText.text_of in
    let is = c.in_ok-pieces.ensures in
    let can = can_be_cut g (goal.at.returns-in_ok-cut-in-Clean-clause-ok g c).After-new in
    let staying = staying_in (map_grid text_of (g.R.GridStore.grid c.args.records.now)) _ c.args.self c.in_ok-pieces.pieces (pieces_of c.args.self c.in_ok-pieces.pieces c.in-Clean.is is.axis is.order is.index) c.in_ok-staying-in-Clean.ensures in (
      clean_splits text_of _ _ _ _ can g.R.Cell.Blank.is_blank g.met.R.Cell.CellText.blank_is_empty _ (rw (← can.count, ← can.wide) at c.in_ok-cut-in-Clean.ensures.ok) _ _ c.in-Clean.is staying (rw c.deref.ensures.value at c.keep_some.ensures.kept),
      spans_carried text_of _ _ _ _ can _ _ _ _ _ (clean_places text_of _ _ _ _ can _ c.in-Clean.is staying) (ap (λ (size : Size). size.height) c.in_ok-fitting-in-Clean.ensures.table ∙ c.shape_of-table.ensures.rows) (ap (λ (size : Size). size.width) c.in_ok-fitting-in-Clean.ensures.table ∙ c.shape_of-table.ensures.columns) (rw (is.axis, is.order, is.index, is.lines, is.width) at c.carry_along.ensures.carried),
    )

pub returns-in_ok-cut-in-Retain-clause-ok : goal.returns-in_ok-cut-in-Retain-clause-ok
returns-in_ok-cut-in-Retain-clause-ok g c =
    let text_of = g.R.Cell.CellText.text_of in
    let is = c.in_ok-pieces.ensures in
    let can = can_be_cut g (goal.at.returns-in_ok-cut-in-Retain-clause-ok g c).After-new in (
      retained_splits text_of _ _ _ _ can g.R.Cell.Blank.is_blank g.met.R.Cell.CellText.blank_is_empty _ (rw (← can.count, ← can.wide) at c.in_ok-cut-in-Retain.ensures.ok) c.in-Retain.is,
      spans_carried text_of _ _ _ _ can _ _ _ _ _ (retained_places text_of _ _ _ _ can c.in-Retain.is) (ap (λ (size : Size). size.height) c.in_ok-fitting-in-Retain.ensures.table ∙ c.shape_of-table.ensures.rows) (ap (λ (size : Size). size.width) c.in_ok-fitting-in-Retain.ensures.table ∙ c.shape_of-table.ensures.columns) (rw (is.axis, is.order, is.index, is.lines, is.width) at c.carry_along-in-Retain.ensures.carried),
    )
