-- Texts in which each occurrence of another text is replaced.
use Rattle.std.specs.Prelude.{◌-◌, if◌then◌else◌, ℕ, zero, suc, List, [], ◌∷◌, length, nat_eq}
use Rattle.std.specs.List.{join_by, onto_first, starts_with}
use Rattle.tabled_grid.specs.Entity.{inside}
use Rattle.tabled_grid.specs.Grid.{Grid}
use Rattle.tabled_grid.specs.declared.config.entity.Entity.{Entity}
use Rattle.tabled_options.specs.Writes.{Write}
use Rattle.tabled_settings.specs.Charsets.{mapped_writes}
use Rattle.tabled_settings.specs.declared.replace.Replace.{Replace}

-- the parts of a text between the occurrences of another, found from the left; the first bytes may be of one that was found
abbrev pub parts_behind : List ℕ → ℕ → List ℕ → List (List ℕ)
parts_behind from passed [] = [] ∷ []
parts_behind from (suc passed) (b ∷ text) = parts_behind from passed text
parts_behind from zero (b ∷ text) = if starts_with nat_eq (b ∷ text) from then [] ∷ parts_behind from (length from - 1) text else onto_first b (parts_behind from 0 text)

-- the parts of a text between the occurrences of another, from the left; of none, the text itself
abbrev pub parts_between : List ℕ → List ℕ → List (List ℕ)
parts_between [] text = text ∷ []
parts_between (b ∷ from) text = parts_behind (b ∷ from) 0 text

-- a text with another one between these parts
abbrev pub replaced_text : List ℕ → List ℕ → List ℕ → List ℕ
replaced_text from to text = join_by (λ part. part) to (parts_between from text)

-- the writes of a replacement on an entity
abbrev pub replace_writes : List ℕ → List ℕ → Entity → Grid (List ℕ) → List Write
replace_writes from to e g = mapped_writes (replaced_text from to) g (inside e g.rows g.columns)

-- the writes of the option on an entity
abbrev pub replacing : Replace → Entity → Grid (List ℕ) → List Write
replacing replace e = replace_writes replace.from.now replace.to.now e
