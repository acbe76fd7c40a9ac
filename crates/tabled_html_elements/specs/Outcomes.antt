-- What the outcome of reading says of what the definitions read.
use Rattle.std.specs.Prelude.{◌≡◌, MatchResult, None, Option, Result}
use Rattle.tabled_html_elements.specs.Reading.{IfFaulty}
use Rattle.tabled_html_elements.specs.declared.fault.ReadError.{ReadError}

-- all that was to be read is what a value leaves to be read; where bytes are no table, it is none
abbrev pub Continues : {T X : Type 0} → Result T ReadError → Option X → (T → Option X) → Type 0
Continues result whole rest = MatchResult result (λ r. whole ≡ rest r) (λ e. IfFaulty e (whole ≡ None))

-- the same, whatever was read in front
abbrev pub ContinuesEach : {A T X : Type 0} → Result T ReadError → (A → Option X) → (T → A → Option X) → Type 0
ContinuesEach {A} result whole rest = MatchResult result
    (λ r. (x : A) → whole x ≡ rest r x)
    (λ e. (x : A) → IfFaulty e (whole x ≡ None))
