-- Texts that are handed in one after another, and records of them. What `IntoIterator` says of what is handed in, and `Iterator` of what it becomes, are records of their own.
use Rattle.std.specs.Prelude.{◌≡◌, ℕ, List, map, String}
use Rattle.std.specs.Global.{Global}
use Rattle.std.specs.Iterator.{Drains, HoldsAlong, IsFinite}
use Rattle.std.specs.List.{All, AllZip}
use Rattle.std.specs.String.{string_bytes}
use Rattle.std.specs.declared.iter.IntoIterator as source
use Rattle.std.specs.declared.iter.Iterator as iterator

-- what is handed in becomes an iterator that may be asked and ends
abbrev pub MayBeAsked : {U A T : Type 0} → source.Ghosts U A T → iterator.Ghosts T A → U → Type 0
MayBeAsked {U} {A} {T} source turns items = (it : T) → source.into_iter_gives items it → turns.can_next it × IsFinite (turns.remaining it)

-- what is handed in gave texts, all that it has, and P holds of these
abbrev pub GaveTexts : {U T : Type 0} → source.Ghosts U (String Global) T → iterator.Ghosts T (String Global) → U → (List (List ℕ) → Type 0) → Type 0
GaveTexts {U} {T} source turns items P = (it : T) × (texts : List (String Global)) × source.into_iter_gives items it × Drains turns.next_gives it texts × P (map string_bytes texts)

-- what is handed in becomes an iterator that may be asked and ends, and so does each record that it gives
abbrev pub EachMayBeAsked : {U R T A S : Type 0} → source.Ghosts U R T → iterator.Ghosts T R → source.Ghosts R A S → iterator.Ghosts S A → U → Type 0
EachMayBeAsked {U} {R} {T} source turns record_source record_turns items = (it : T) → source.into_iter_gives items it → turns.can_next it × IsFinite (turns.remaining it) × HoldsAlong turns.next_gives it (All (MayBeAsked record_source record_turns))

-- each record gave its row
abbrev pub GaveRows : {R S : Type 0} → source.Ghosts R (String Global) S → iterator.Ghosts S (String Global) → List R → List (List (List ℕ)) → Type 0
GaveRows {R} source turns records rows = AllZip (λ (r : R) row. GaveTexts source turns r (λ texts. texts ≡ row)) records rows

-- what is handed in gave records of texts, all that it has, each of these gave its row, and P holds of the rows
abbrev pub EachGaveTexts : {U R T S : Type 0} → source.Ghosts U R T → iterator.Ghosts T R → source.Ghosts R (String Global) S → iterator.Ghosts S (String Global) → U → (List (List (List ℕ)) → Type 0) → Type 0
EachGaveTexts {U} {R} {T} source turns record_source record_turns items P = (it : T) × (records : List R) × (rows : List (List (List ℕ))) × source.into_iter_gives items it × Drains turns.next_gives it records × GaveRows record_source record_turns records rows × P rows

-- what is handed in gave entries, all that it has, and each of these prints its row
abbrev pub GaveEntries : {U E T : Type 0} → source.Ghosts U E T → iterator.Ghosts T E → (E → List (List ℕ) → Type 0) → U → List (List (List ℕ)) → Type 0
GaveEntries {U} {E} {T} source turns prints items rows = (it : T) × (entries : List E) × source.into_iter_gives items it × Drains turns.next_gives it entries × AllZip prints entries rows
