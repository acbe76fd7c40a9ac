-- What holds of a fault, from what else does.
use Rattle.std.proofs.Common.{ℕ}
use Rattle.tabled_texts.specs.Reading.{Shows}
use Rattle.tabled_texts.specs.declared.part_error.PartError.{PartError}
use Rattle.tabled_texts.specs.declared.part_error.PartError.TheVariants.{Faulty, OutOfMemory}

pub shows-from : {F : Type 0} (P Q : F → ℕ → Type 0) (e : PartError F) → ((fault : F) (left : ℕ) → P fault left → Q fault left) → Shows P e → Shows Q e
shows-from P Q (Faulty fault left) f p = f fault left p
shows-from P Q OutOfMemory f p = p
