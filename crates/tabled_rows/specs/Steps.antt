-- What the calls of iterators do. Only their own contracts speak of this.
use Rattle.std.specs.Global.{Global, Vec}
use Rattle.std.specs.Iterator.{Count, at_most}
use Rattle.std.specs.Prelude.{◌≡◌, ℕ, Option, Some, None}
use Rattle.std.specs.Vec.{vec_len}
use Rattle.std.specs.Vec.Iter.{into_iter_items, into_iter_len, into_iter_steps}
use Rattle.std.specs.declared.vec.IntoIter.{IntoIter}
use Rattle.tabled_rows.specs.declared.records.buf_records.BufIterator.{BufIterator}
use Rattle.tabled_rows.specs.declared.records.buf_records.BufIterator.TheVariants.{Buffered, Iterator}
use Rattle.tabled_rows.specs.declared.records.buf_records.BufRecordsIter.{BufRecordsIter}
use Rattle.std.specs.Iterator.Adapters.{take_count, take_source}
use Rattle.std.specs.declared.iter.Take.{Take}

-- a call gives the first n cells of the row that came, or nothing where no row came
abbrev pub GivesLimited : {S U T : Type 0} → (S → Option U → S → Type 0) → (U → T → Type 0) → ℕ → S → Option (Take T) → S → Type 0
GivesLimited next_gives becomes n rows None left = next_gives rows None left
GivesLimited {U = U} next_gives becomes n rows (Some cells) left = (row : U) × next_gives rows (Some row) left × becomes row (take_source cells) × (take_count cells ≡ n)

-- the next cell may be asked for, of cells that are buffered or of cells that come
abbrev pub can_come : {T I : Type 0} → (I → Type 0) → BufIterator I T → Type 0
can_come can_next (Buffered cells) = Unit {0}
can_come can_next (Iterator cells) = can_next cells

-- what a call gives and leaves of these cells
abbrev pub Comes : {T I : Type 0} → (I → Option T → I → Type 0) → BufIterator I T → Option T → BufIterator I T → Type 0
Comes next_gives (Buffered cells) cell (Buffered left) = into_iter_steps cells cell left
Comes next_gives (Buffered cells) cell (Iterator left) = ⊥
Comes next_gives (Iterator cells) cell (Buffered left) = ⊥
Comes next_gives (Iterator cells) cell (Iterator left) = next_gives cells cell left

-- how many of these cells are left at most
abbrev pub still_to_come : {T I : Type 0} → (I → Count) → BufIterator I T → Count
still_to_come remaining (Buffered cells) = at_most (into_iter_len cells)
still_to_come remaining (Iterator cells) = remaining cells

-- where a walk over buffered rows, and then over those that come, stands
pub record BufferedWalk (S T : Type 0) : Type 0 where
  pub buffer : IntoIter (Vec T) Global
  pub rows : S

-- where what goes over buffered rows, and then over others, stands
abbrev pub walk_of : {S T : Type 0} → BufRecordsIter S T → BufferedWalk S T
walk_of iter = record { buffer = iter.buffer; rows = iter.rows }

-- a buffered row comes; without one, a row that comes
abbrev pub GivesBuffered : {S U T I : Type 0} → (S → Option U → S → Type 0) → (U → I → Type 0) → BufferedWalk S T → Option (BufIterator I T) → BufferedWalk S T → Type 0
GivesBuffered {U = U} {T = T} next_gives becomes old None new = (into_iter_len old.buffer ≡ 0) × (into_iter_len new.buffer ≡ 0) × next_gives old.rows None new.rows
GivesBuffered {U = U} {T = T} next_gives becomes old (Some (Buffered cells)) new = (row : Vec T) × into_iter_steps old.buffer (Some row) new.buffer × (new.rows ≡ old.rows) × (into_iter_items cells ≡ row.items) × (into_iter_len cells ≡ vec_len row)
GivesBuffered {U = U} {T = T} next_gives becomes old (Some (Iterator cells)) new = (row : U) × (into_iter_len old.buffer ≡ 0) × (into_iter_len new.buffer ≡ 0) × next_gives old.rows (Some row) new.rows × becomes row cells
