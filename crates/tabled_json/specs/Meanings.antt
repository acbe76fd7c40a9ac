-- The tables that bytes mean.
use Rattle.std.specs.Prelude.{◌≡◌, ◌==◌, ◌&&◌, ℕ, Bool, false, List, [], ◌∷◌}
use Rattle.tabled_json.specs.Grammar.{AreRows, IsRecords}
use Rattle.tabled_json.specs.Space.{behind_space}
use Rattle.tabled_json.specs.Tables.{table_of}
use Rattle.tabled_texts.specs.Marks.{behind_mark}

-- bytes are no rows
abbrev pub NoRows : List ℕ → Type 0
NoRows bytes = (rows : List (List (List ℕ))) → AreRows bytes rows → ⊥

-- bytes are a table: that of their records, or their rows as they are
pub data HoldsTable : List ℕ → List (List (List ℕ)) → Type 0 where
  of_records : {bytes : List ℕ} {rows : List (List (List ℕ))} (objects : List (List (List ℕ × List ℕ))) → IsRecords bytes objects → rows ≡ table_of objects → HoldsTable bytes rows
  of_rows : {bytes : List ℕ} {rows : List (List (List ℕ))} → AreRows bytes rows → HoldsTable bytes rows

-- bytes are no table
abbrev pub HoldsNoTable : List ℕ → Type 0
HoldsNoTable bytes = (rows : List (List (List ℕ))) → HoldsTable bytes rows → ⊥

-- bytes mean a table, a byte order mark in front or not
abbrev pub MeansTable : List ℕ → List (List (List ℕ)) → Type 0
MeansTable bytes rows = HoldsTable (behind_mark bytes) rows

-- bytes mean no table
abbrev pub MeansNoTable : List ℕ → Type 0
MeansNoTable bytes = HoldsNoTable (behind_mark bytes)

-- bytes begin with a byte
abbrev pub begins_with : ℕ → List ℕ → Bool
begins_with byte [] = false
begins_with byte (b ∷ bytes) = b == byte

-- bytes begin with an array that holds an array first
abbrev pub begins_rows : List ℕ → Bool
begins_rows [] = false
begins_rows (b ∷ bytes) = (b == 91) && begins_with 91 (behind_space bytes)
