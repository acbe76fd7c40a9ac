-- The byte order mark in front of a text.
use Rattle.std.specs.Prelude.{◌==◌, ◌&&◌, if◌then◌else◌, ℕ, Bool, false, List, [], ◌∷◌, drop}

-- bytes begin with U+FEFF in UTF-8, the byte order mark
abbrev pub begins_with_mark : List ℕ → Bool
begins_with_mark [] = false
begins_with_mark (a ∷ []) = false
begins_with_mark (a ∷ b ∷ []) = false
begins_with_mark (a ∷ b ∷ c ∷ bytes) = (a == 239) && ((b == 187) && (c == 191))

-- bytes behind a byte order mark, if they begin with one
abbrev pub behind_mark : List ℕ → List ℕ
behind_mark bytes = if begins_with_mark bytes then drop 3 bytes else bytes
