-- Characters of one byte that can be seen: each is one column, and belongs to the text before only behind a joiner.
use Rattle.std.proofs.Common.{◌&&◌, ◌+◌, ◌<◌, ◌==◌, ◌∙◌, ◌∷◌, ◌≡◌, ◌≢◌, ◌||◌, Bool, List, [], ap, arith, false, nat_lt, ne_eqb, not, refl, sym, true, ℕ}
use Rattle.std.proofs.lemmas.Bool.Decides.{nat_tests}
use Rattle.std.specs.Int.{is_in_range}
use Rattle.std.specs.List.{list_all}
use Rattle.tabled_width.specs.Columns.{text_width}
use Rattle.tabled_width.specs.Pieces.{attaches, character_width, differ_together, is_kirat_vowel, stays_behind}
use Rattle.unicode_width.proofs.Rules.{is_simple, str_width-append_simple, str_width-printable}
use Rattle.unicode_width.specs.Width.{char_width, is_indicator}
use borrow.Author.Tests.{eq-eqb}

module _ (c : ℕ) (low : 31 < c) (high : c < 127) where
  pub printable-width : character_width c ≡ 1
  unfolding char_width
  printable-width = grind (arith, nat_tests)

  printable-simple : list_all is_simple (c ∷ []) ≡ true
  printable-simple = grind (arith, nat_tests)

  pub printable-ascii : list_all (is_in_range 0x20 0x7E) (c ∷ []) ≡ true
  printable-ascii = grind (arith, nat_tests)

  pub printable-attaches : attaches c ≡ false
  printable-attaches = rw printable-width (grind (arith, nat_tests))

  printable-indicator : is_indicator c ≡ false
  printable-indicator = grind (arith, nat_tests)

  printable-kirat : is_kirat_vowel c ≡ false
  printable-kirat = grind (arith, nat_tests)

  printable-behind : (cs : List ℕ) → differ_together cs c ≡ false
  printable-behind cs = ap not (eq-eqb _ _ (str_width-append_simple false cs (c ∷ []) printable-simple ∙ ap (λ n. text_width cs + n) (str_width-printable false (c ∷ []) printable-ascii ∙ sym printable-width)))

  pub printable-stays : (last : ℕ) (half : Bool) (cluster : List ℕ) → last ≢ 10 → stays_behind last half cluster c ≡ ((last == 0x200D) && nat_lt 0x20 c)
  printable-stays last half cluster other =
      rw (ne_eqb c 10 (λ e. omega (arith, e, low)), ne_eqb last 10 other, printable-attaches, printable-indicator, printable-kirat, printable-behind cluster) (or-false ((last == 0x200D) && nat_lt 0x20 c))
    where
      or-false : (b : Bool) → (b || false) ≡ b
      or-false true = refl
      or-false false = refl
