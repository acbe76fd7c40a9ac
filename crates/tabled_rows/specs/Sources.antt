-- What sources of rows say. What `IntoIterator` says of a source or of a row, and `Iterator` of what goes over it, are records of their own.
use Rattle.std.specs.Prelude.{Bool, List}
use Rattle.std.specs.declared.iter.IntoIterator as source
use Rattle.std.specs.declared.iter.Iterator as iterator
use Rattle.tabled_rows.specs.Gave.{EachSourceMayBeAsked, Gave, SourceMayBeAsked}
use Rattle.tabled_rows.specs.Listed.{GoesOverEach}
use Rattle.tabled_rows.specs.Rows.{Shows}

-- whatever goes over a row gives cells that show these, one by one, and ends
abbrev pub RowShows : {R T C B : Type 0} → source.Ghosts R C T → iterator.Ghosts T C → (C → B) → R → List B → Type 0
RowShows source goes shown row cells = GoesOverEach source.into_iter_gives goes.can_next goes.next_gives goes.remaining (Shows shown) row cells

-- whatever goes over a source gives rows that show these, one by one, and ends
abbrev pub RowsShow : {U S R T C B : Type 0} → source.Ghosts U R S → iterator.Ghosts S R → source.Ghosts R C T → iterator.Ghosts T C → (C → B) → U → List (List B) → Type 0
RowsShow source goes row_source row_goes shown records rows =
    GoesOverEach source.into_iter_gives goes.can_next goes.next_gives goes.remaining (RowShows row_source row_goes shown) records rows

-- a row may be asked for its cells, and ends
abbrev pub RowMayBeAsked : {R T C : Type 0} → source.Ghosts R C T → iterator.Ghosts T C → R → Type 0
RowMayBeAsked source goes row = SourceMayBeAsked source.into_iter_gives goes.can_next goes.remaining row

-- a source may be asked for its rows, and ends, and so does each row
abbrev pub RowsMayBeAsked : {U S R T C : Type 0} → source.Ghosts U R S → iterator.Ghosts S R → source.Ghosts R C T → iterator.Ghosts T C → U → Type 0
RowsMayBeAsked source goes row_source row_goes records =
    EachSourceMayBeAsked source.into_iter_gives goes.can_next goes.remaining goes.next_gives (RowMayBeAsked row_source row_goes) records

-- whatever rows come of a source, and whether they are said to have ended, P holds of this
abbrev pub WhateverComes : {U S R : Type 0} → source.Ghosts U R S → iterator.Ghosts S R → (List R → Bool → Type 0) → U → Type 0
WhateverComes {R = R} source goes P records = (rows : List R) (ended : Bool) → Gave source.into_iter_gives goes.next_gives records rows ended → P rows ended
