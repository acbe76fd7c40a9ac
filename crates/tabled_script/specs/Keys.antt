-- Rows that are no records, since two of their keys are equal.
use Rattle.std.specs.Prelude.{ℕ, List}
use Rattle.tabled_json.specs.Writes.{IsWhy}
use Rattle.tabled_json.specs.declared.fault.WriteError.TheVariants.{EqualKeys}

-- two texts of the first row are equal
abbrev pub HasEqualKeys : List (List (List ℕ)) → Type 0
HasEqualKeys rows = (first : ℕ) × (second : ℕ) × IsWhy rows (EqualKeys first second)
