-- How texts are written.
use Rattle.std.specs.Prelude.{List, [], codes, if◌then◌else◌, ℕ, ◌==◌, ◌∷◌, ◌≢◌}
use Rattle.std.specs.List.{AllByRecursion, flat_map}

-- what stands for a byte of a text
abbrev pub escaped_byte : ℕ → List ℕ
escaped_byte b =
    if b == 38 then codes "&amp;"
    else if b == 60 then codes "&lt;"
    else if b == 62 then codes "&gt;"
    else if b == 13 then codes "&#13;"
    else if b == 0 then 239 ∷ 191 ∷ 189 ∷ []
    else b ∷ []

-- a text as a td element has it
abbrev pub escaped : List ℕ → List ℕ
escaped text = flat_map escaped_byte text

-- ---- what is shown

-- a byte of a text as it is shown: U+FFFD for U+0000
abbrev pub shown_byte : ℕ → List ℕ
shown_byte b = if b == 0 then 239 ∷ 191 ∷ 189 ∷ [] else b ∷ []

-- a text as it is shown
abbrev pub shown : List ℕ → List ℕ
shown text = flat_map shown_byte text

-- a text without U+0000
abbrev pub HasNoNul : List ℕ → Type 0
HasNoNul text = AllByRecursion (λ b. b ≢ 0) text
