-- The characters of styles.
use Rattle.std.specs.Prelude.{◌≡◌, ◌≢◌, ◌⊎◌, ◌<◌, ◌≤◌, ℕ, false, ◌∷◌}
use Rattle.std.specs.List.{AllByRecursion}
use Rattle.tabled_draw.specs.declared.style.Style.{Style}
use Rattle.unicode_width.specs.Width.{alone, plain}

-- a character that is no control character
pub record IsNoControl (c : ℕ) : Type 0 where
  pub above : 0x20 ≤ c
  pub no_delete : c ≢ 0x7F
  pub outside : (c < 0x80) ⊎ (0x9F < c)

-- a character for borders: it takes one column, joins no other, and is no control character
pub record IsFineMark (c : ℕ) : Type 0 where
  pub wide : alone false c ≡ (1, plain)
  pub plain : IsNoControl c

-- so are all characters of a style
abbrev pub IsFine : Style → Type 0
IsFine style = AllByRecursion IsFineMark (style.horizontal ∷ style.vertical ∷ style.corners)
