-- Texts whose lines are cut at a number of columns.
use Rattle.std.specs.Prelude.{◌≡◌, ◌+◌, ◌-◌, ◌<◌, ◌≤◌, ◌==◌, ◌++◌, if◌then◌else◌, ℕ, List, [], ◌∷◌, chars, map, nat_le}
use Rattle.std.specs.List.{concat, join_with_byte, slice_split}
use Rattle.tabled_grid.specs.Entity.{inside}
use Rattle.tabled_grid.specs.Grid.{Grid}
use Rattle.tabled_grid.specs.declared.config.entity.Entity.{Entity}
use Rattle.tabled_options.specs.Writes.{Write}
use Rattle.tabled_settings.specs.Charsets.{mapped_writes}
use Rattle.tabled_settings.specs.declared.width.truncate.Truncate.{Truncate}
use Rattle.tabled_width.specs.Columns.{text_width}
use Rattle.tabled_width.specs.Pieces.{pieces_in}

-- the columns of a text
abbrev pub columns : List ℕ → ℕ
columns text = text_width (chars text)

-- the first pieces, as many as take at most n columns
abbrev pub first_within : ℕ → List (List ℕ) → List (List ℕ)
first_within n [] = []
first_within n (piece ∷ pieces) = if nat_le (columns piece) n then piece ∷ first_within (n - columns piece) pieces else []

-- the beginning of a text that takes at most n columns, cut between pieces
abbrev pub beginning : ℕ → List ℕ → List ℕ
beginning n text = concat (first_within n (pieces_in text))

-- a line of at most n columns as it is, any other cut: its beginning, where the suffix fits behind, and else the suffix's
abbrev pub truncated_line : ℕ → List ℕ → List ℕ → List ℕ
truncated_line n suffix line =
    if nat_le (columns line) n then line
    else (if nat_le (columns suffix) n then beginning (n - columns suffix) line ++ suffix else beginning n suffix)

-- the lines of a text
abbrev pub lines_of : List ℕ → List (List ℕ)
lines_of text = slice_split (λ b. b == 10) text

-- a text cut line by line, by a number of columns and a suffix
abbrev pub truncated : ℕ → List ℕ → List ℕ → List ℕ
truncated n suffix text = join_with_byte 10 (map (truncated_line n suffix) (lines_of text))

-- the writes of a cut on an entity
abbrev pub truncate_writes : ℕ → List ℕ → Entity → Grid (List ℕ) → List Write
truncate_writes n suffix e g = mapped_writes (truncated n suffix) g (inside e g.rows g.columns)

-- the writes of the option on an entity
abbrev pub truncating : Truncate → Entity → Grid (List ℕ) → List Write
truncating truncate e = truncate_writes truncate.width truncate.suffix.now e

-- a text takes as many columns behind any characters as by itself
abbrev pub AddsColumns : List ℕ → Type 0
AddsColumns suffix = (cs : List ℕ) → text_width (cs ++ chars suffix) ≡ text_width cs + columns suffix

-- the beginning of a text: its first pieces that take at most n columns, and the next would be too many
pub record IsBeginning (n : ℕ) (text new : List ℕ) : Type 0 where
  pub before : List (List ℕ)
  pub behind : List (List ℕ)
  pub whole : pieces_in text ≡ before ++ behind
  pub is : new ≡ concat before
  pub narrow : columns new ≤ n
  pub longest : (piece : List ℕ) (more : List (List ℕ)) → behind ≡ piece ∷ more → n < columns new + columns piece
