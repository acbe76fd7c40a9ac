-- What rows that are read ahead into a buffer give, and then the others, which aren't asked for again once they have ended.
use Rattle.std.specs.Prelude.{◌≡◌, ◌++◌, Bool, false, true, List}
use Rattle.std.specs.Iterator.{DrainsIf, HoldsAlong, IsFinite, count_unless}
use Rattle.std.specs.Iterator.Adapters.{fuse_done, fuse_source, fuse_steps}
use Rattle.std.specs.List.{All, AllZip}
use Rattle.std.specs.declared.iter.Fuse.{Fuse}
use Rattle.std.specs.declared.iter.IntoIterator as source
use Rattle.std.specs.declared.iter.Iterator as iterator
use Rattle.tabled_rows.specs.Gave.{FollowsBuffer, Gave}
use Rattle.tabled_rows.specs.Listed.{ListsEachOnce}
use Rattle.tabled_rows.specs.Rows.{all_shown}
use Rattle.tabled_rows.specs.Sources.{RowMayBeAsked, RowShows}
use Rattle.tabled_rows.specs.declared.records.buf_records.BufIterator.{BufIterator}

-- the rows of the buffer, and then others that come, show these
abbrev pub AheadShows : {S R T C B : Type 0} → iterator.Ghosts S R → source.Ghosts R C T → iterator.Ghosts T C → (C → B) → List (List C) × Fuse S → List (List B) → Type 0
AheadShows {B = B} goes row_source row_goes shown ahead rows =
    (others : List (List B)) × ListsEachOnce goes.can_next goes.next_gives goes.remaining (RowShows row_source row_goes shown) ahead.1 others × (rows ≡ all_shown shown ahead.0 ++ others)

-- unless they have ended, others may be asked for, and end, and so does each of them
abbrev pub OthersMayBeAsked : {S R T C : Type 0} → iterator.Ghosts S R → source.Ghosts R C T → iterator.Ghosts T C → Fuse S → Type 0
OthersMayBeAsked goes row_source row_goes others =
    (fuse_done others ≡ false → goes.can_next (fuse_source others))
    × IsFinite (count_unless (fuse_done others) (goes.remaining (fuse_source others)))
    × HoldsAlong (fuse_steps goes.next_gives) others (All (RowMayBeAsked row_source row_goes))

-- of the others these come, and then nothing, where they are said to have ended
abbrev pub OthersCome : {S R : Type 0} → iterator.Ghosts S R → Fuse S → List R → Bool → Type 0
OthersCome goes others rows ended = DrainsIf (fuse_steps goes.next_gives) (ended ≡ true) others rows

-- the rows of the buffer may be given, and then others that come
abbrev pub AheadMayGive : {S R T C : Type 0} → iterator.Ghosts S R → source.Ghosts R C T → List (List C) × Fuse S → List (BufIterator T C) → Bool → Type 0
AheadMayGive {R = R} goes row_source ahead rows ended = (others : List R) × OthersCome goes ahead.1 others ended × FollowsBuffer row_source.into_iter_gives ahead.0 others rows ended

-- all cells of some rows were read into the buffer, and P holds of these rows and whatever others come
abbrev pub CameAhead : {S R T C : Type 0} → iterator.Ghosts S R → source.Ghosts R C T → iterator.Ghosts T C → (List R → Bool → Type 0) → List (List C) × Fuse S → Type 0
CameAhead {R = R} goes row_source row_goes P ahead =
    (read : List R) × AllZip (λ row cells. Gave row_source.into_iter_gives row_goes.next_gives row cells true) read ahead.0
    × ((others : List R) (ended : Bool) → OthersCome goes ahead.1 others ended → P (read ++ others) ended)
