-- Texts with tabs replaced and control characters taken out.
use Rattle.std.specs.Prelude.{◌≡◌, ◌≤◌, ◌⊎◌, ℕ, Bool, false, true, ◌==◌, ◌||◌, if◌then◌else◌, List, [], ◌∷◌, Option, None, Some, is_some, map, nat_lt, not, replicate}
use Rattle.std.specs.List.{flat_map}
use Rattle.tabled_grid.specs.Entity.{inside}
use Rattle.tabled_grid.specs.Grid.{Grid}
use Rattle.tabled_grid.specs.declared.config.entity.Entity.{Entity}
use Rattle.tabled_grid.specs.declared.config.position.Position.{Position}
use Rattle.tabled_select.specs.Locators.{text_at}
use Rattle.tabled_options.specs.Writes.{Write}

-- a byte stays: all do where nothing is cleaned, and else a newline and what is no control character
abbrev pub byte_stays : Bool → ℕ → Bool
byte_stays cleans b = not cleans || ((b == 10) || not (nat_lt b 32))

-- what comes in the place of a byte, where a tab becomes n spaces
abbrev pub replaced : Bool → ℕ → ℕ → List ℕ
replaced cleans n b = if b == 9 then replicate n 32 else (if byte_stays cleans b then b ∷ [] else [])

-- a text with n spaces for each tab, and without other control characters but the newline
abbrev pub clean_text : ℕ → List ℕ → List ℕ
clean_text n text = flat_map (replaced true n) text

-- a text with n spaces for each tab
abbrev pub with_tabs : ℕ → List ℕ → List ℕ
with_tabs n text = flat_map (replaced false n) text

-- what a charset makes of a text, by whether it cleans and by its tab size
abbrev pub recoded : Bool × Option ℕ → List ℕ → List ℕ
recoded (cleans, Some n) text = flat_map (replaced cleans n) text
recoded (true, None) text = clean_text 0 text
recoded (false, None) text = text

-- the writes of what f makes of the old texts at these places, in order
abbrev pub mapped_writes : (List ℕ → List ℕ) → Grid (List ℕ) → List Position → List Write
mapped_writes f g places = map (λ p. record { place = p; text = f (text_at g p) }) places

-- something is set
abbrev pub is_set : Bool × Option ℕ → Bool
is_set s = s.0 || is_some s.1

-- the writes of a charset on an entity, and none where nothing is set
abbrev pub charset_writes : Bool × Option ℕ → Entity → Grid (List ℕ) → List Write
charset_writes s e g = if is_set s then mapped_writes (recoded s) g (inside e g.rows g.columns) else []

-- a byte of no control character, or a newline; bytes below 32 are characters of their own
abbrev pub IsCleanByte : ℕ → Type 0
IsCleanByte b = (b ≡ 10) ⊎ (32 ≤ b)
