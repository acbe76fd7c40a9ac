-- What gives items that are made as they are asked for.
use Rattle.std.specs.Prelude.{◌≡◌, ◌≤◌, ℕ, Bool, true, false, List, [], ◌∷◌, Option, length, nat_lt}
use Rattle.std.specs.Iterator.{Count, DrainsIf, HoldsAlong, IsFinite}
use Rattle.std.specs.Iterator.Adapters.{fuse_done, take_count, take_source}
use Rattle.std.specs.List.{All, AllZip}
use Rattle.std.specs.Vec.Iter.{into_iter_items}
use Rattle.std.specs.declared.iter.Fuse.{Fuse}
use Rattle.std.specs.declared.iter.Take.{Take}
use Rattle.tabled_rows.specs.declared.records.buf_records.BufIterator.{BufIterator}
use Rattle.tabled_rows.specs.declared.records.buf_records.BufIterator.TheVariants.{Buffered, Iterator}

-- what a source becomes may be asked and ends
abbrev pub SourceMayBeAsked : {U T : Type 0} → (U → T → Type 0) → (T → Type 0) → (T → Count) → U → Type 0
SourceMayBeAsked {U} {T} becomes can_next remaining source = (iter : T) → becomes source iter → can_next iter × IsFinite (remaining iter)

-- what a source becomes may be asked and ends, and so does each item that it gives
abbrev pub EachSourceMayBeAsked : {U T R : Type 0} → (U → T → Type 0) → (T → Type 0) → (T → Count) → (T → Option R → T → Type 0) → (R → Type 0) → U → Type 0
EachSourceMayBeAsked {U} {T} becomes can_next remaining next_gives asked source = (iter : T) → becomes source iter → can_next iter × IsFinite (remaining iter) × HoldsAlong next_gives iter (All asked)

-- what a source becomes was asked and gave these items, and then nothing, where it is said to have ended
abbrev pub Gave : {U T R : Type 0} → (U → T → Type 0) → (T → Option R → T → Type 0) → U → List R → Bool → Type 0
Gave {U} {T} becomes next_gives source items ended = (iter : T) × becomes source iter × DrainsIf next_gives (ended ≡ true) iter items

-- at most n rows are in a buffer, and what goes over the others has ended just where they are fewer
pub record ReadsAhead {T I : Type 0} (n : ℕ) (buffer : List (List T)) (others : Fuse I) : Type 0 where
  pub within : length buffer ≤ n
  pub ended : fuse_done others ≡ nat_lt (length buffer) n

-- of a row that came no more cells than these are given
abbrev pub LimitsRow : {R T : Type 0} → (R → T → Type 0) → ℕ → R → Take T → Type 0
LimitsRow becomes n row cells = becomes row (take_source cells) × (take_count cells ≡ n)

-- a row of a buffer is given, whole
abbrev pub HasCells : {T I : Type 0} → List T → BufIterator I T → Type 0
HasCells cells (Buffered left) = into_iter_items left ≡ cells
HasCells cells (Iterator left) = ⊥

-- a row that came is given
abbrev pub HasCome : {R T I : Type 0} → (R → I → Type 0) → R → BufIterator I T → Type 0
HasCome becomes row (Buffered cells) = ⊥
HasCome becomes row (Iterator cells) = becomes row cells

-- the rows of a buffer are given, and then others that came; fewer of the buffer only where it isn't said to have ended
abbrev pub FollowsBuffer : {R T I : Type 0} → (R → I → Type 0) → List (List T) → List R → List (BufIterator I T) → Bool → Type 0
FollowsBuffer becomes [] others rows ended = AllZip (HasCome becomes) others rows
FollowsBuffer becomes (cells ∷ buffer) others [] ended = (others ≡ []) × (ended ≡ false)
FollowsBuffer becomes (cells ∷ buffer) others (row ∷ rows) ended = HasCells cells row × FollowsBuffer becomes buffer others rows ended
