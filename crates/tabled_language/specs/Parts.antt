-- Bytes that are gone through part by part.
use Rattle.std.specs.Prelude.{◌≡◌, ◌<◌, ℕ, ◌==◌, List, [], MatchOption, Option, None, Some, length}
use Rattle.std.specs.Borrow.{Bor}
use Rattle.std.specs.List.{position_or_len, slice_split}

-- the parts of bytes between the places of one byte, if there are bytes
abbrev pub parts_left : ℕ → Option (Bor (List ℕ)) → List (List ℕ)
parts_left at None = []
parts_left at (Some bytes) = slice_split (λ b. b == at) bytes.now

-- the first place of a byte, if it stands among these
abbrev pub IsFirstPlace : ℕ → List ℕ → Option ℕ → Type 0
IsFirstPlace at bytes found = MatchOption found (position_or_len (λ b. b == at) bytes ≡ length bytes) (λ place. (position_or_len (λ b. b == at) bytes ≡ place) × (place < length bytes))
