-- What a writer has got of the bytes that are sent to it, and what is held for it.
use Rattle.std.specs.Prelude.{◌≡◌, ◌≢◌, ◌++◌, ℕ, List, [], Option, None, Some}
use Rattle.std.specs.Borrow.{MutBor}
use Rattle.std.specs.Io.KnownBytes.{Appends}
use Rattle.std.specs.declared.io.Error.{Error}

-- a writer got the first of these bytes, and not all of them
pub record IsCutShort (old new : Option (List ℕ)) (bytes : List ℕ) : Type 0 where
  pub sent : List ℕ
  pub unsent : List ℕ
  pub parts : bytes ≡ sent ++ unsent
  pub some : unsent ≢ []
  pub got : Appends old new sent

-- bytes that are held, and the failure of their writer, if it has failed
pub record Kept : Type 0 where
  pub bytes : List ℕ
  pub failure : Option Error

-- of all bytes some are sent: the others are left, unless the writer fails, which then has not got all;
-- one that had failed before gets none, and its failure is kept
abbrev pub AreSent : Option Error → Option Error → List ℕ → List ℕ → List ℕ → Type 0
AreSent None None all sent left = all ≡ sent ++ left
AreSent None (Some failure) all sent left = (unsent : List ℕ) × (all ≡ sent ++ unsent) × (unsent ≢ [])
AreSent (Some failure) after all sent left = (sent ≡ []) × (after ≡ Some failure)

-- these bytes are sent to a writer, or held for it, behind those that were held
pub record GrowsBy (old : Option (List ℕ)) (held : Kept) (new : Option (List ℕ)) (left : Kept) (bytes : List ℕ) : Type 0 where
  pub sent : List ℕ
  pub got : Appends old new sent
  pub are : AreSent held.failure left.failure (held.bytes ++ bytes) sent left.bytes

-- a writer that is lent, and what is held for it
pub record Writing (W : Type 0) : Type 0 where
  pub writer : MutBor W
  pub held : Kept
