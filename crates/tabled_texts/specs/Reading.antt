-- What is read from the front of bytes.
use Rattle.std.specs.Prelude.{ℕ}
use Rattle.tabled_texts.specs.declared.part_error.PartError.{PartError}
use Rattle.tabled_texts.specs.declared.part_error.PartError.TheVariants.{Faulty, OutOfMemory}

-- where memory was not refused, this holds of the fault, and of how many bytes are left where it shows
abbrev pub Shows : {F : Type 0} → (F → ℕ → Type 0) → PartError F → Type 0
Shows P (Faulty fault left) = P fault left
Shows P OutOfMemory = Unit {0}
