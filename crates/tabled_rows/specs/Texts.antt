-- The text that is held.
use Rattle.std.specs.Prelude.{ℕ, List}
use Rattle.std.specs.String.{string_bytes}
use Rattle.tabled_rows.specs.declared.records.either_string.EitherString.{EitherString}
use Rattle.tabled_rows.specs.declared.records.either_string.EitherString.TheVariants.{Owned, Some}

-- the text of one's own, or the text that what is held has
abbrev pub text_held : {T : Type 0} → (T → List ℕ) → EitherString T → List ℕ
text_held text_of (Owned text) = string_bytes text
text_held text_of (Some cell) = text_of cell
