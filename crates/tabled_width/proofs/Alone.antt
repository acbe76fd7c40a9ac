-- Characters by themselves: their columns, and how what follows them is read.
use Rattle.std.proofs.Common.{◌<◌, ◌∙◌, ◌≡◌, ◌≢◌, ◌≤◌, ◌⊎◌, ap, arith, false, inl, inr, refl, subst, sym, true, unwrap_or, ℕ}
use Rattle.std.proofs.lemmas.Bool.{cases_lt, false≢true}
use Rattle.std.proofs.lemmas.Bool.Decides.{nat_tests}
use Rattle.std.specs.Int.{is_in_range}
use Rattle.tabled_width.proofs.Tables.{is_still, transparent-still}
use Rattle.tabled_width.specs.Pieces.{attaches, character_width}
use Rattle.unicode_width.proofs.Computing.{unicode_width}
use Rattle.unicode_width.specs.Kind.{is_ligature_transparent, kind}
use Rattle.unicode_width.specs.Width.{alone, char_width, of_kind, plain, single}
use Rattle.unicode_width.specs.declared.kind.Kind.{Kind}
use Rattle.unicode_width.specs.declared.kind.Kind.TheVariants as kinds

pub high-width : (c : ℕ) → 0xA0 < c → character_width c ≡ (alone false c).0
unfolding char_width
high-width c high = grind (arith, nat_tests)

no_break : (alone false 0xA0).0 ≡ 1
unfolding unicode_width
no_break = refl

pub low-width : (c : ℕ) → c ≤ 0xA0 → character_width c ≡ 1
unfolding char_width
low-width c low = one-column (cases_lt c 0xA0)
  where
    one-column : (c < 0xA0) ⊎ (0xA0 ≤ c) → unwrap_or (char_width false c) 1 ≡ 1
    one-column (inl less) = grind (arith, nat_tests)
    one-column (inr more) =
        let is : 0xA0 ≡ c = omega (arith, low, more) in
        subst (λ k. unwrap_or (char_width false k) 1 ≡ 1) is no_break

-- what a character that doesn't attach is
pub record StandsAlone (c : ℕ) : Type 0 where
  pub some : 1 ≤ character_width c
  pub no_joiner : c ≢ 0x2D7F
  pub no_tone : is_in_range 0x1F3FB 0x1F3FF c ≡ false

pub stands-alone : (c : ℕ) → attaches c ≡ false → StandsAlone c
stands-alone c h = grind (arith, nat_tests)

pub attaches-not : (c : ℕ) → StandsAlone c → attaches c ≡ false
attaches-not c h = grind (arith, nat_tests, h.some, h.no_joiner, h.no_tone)

-- a variation selector that changes how the character before is read
pub record IsNoSelector (c : ℕ) : Type 0 where
  pub no_emoji : c ≢ 0xFE0F
  pub no_text : c ≢ 0xFE0E
  pub no_quote : c ≢ 0xFE01

zero_of_kind : (c : ℕ) (k : Kind) → IsNoSelector c → (of_kind false c k).0 ≡ 0 → of_kind false c k ≡ (0, plain)
zero_of_kind c kinds.Zero h e = refl
zero_of_kind c kinds.Narrow h e = absurd (omega (arith, e))
zero_of_kind c kinds.Wide h e = absurd (omega (arith, e))
zero_of_kind c kinds.Ambiguous h e = absurd (omega (arith, e))
zero_of_kind c kinds.Alef h e = absurd (omega (arith, e))
zero_of_kind c kinds.KhmerLetter h e = absurd (omega (arith, e))
zero_of_kind c kinds.TifinaghConsonant h e = absurd (omega (arith, e))
zero_of_kind c kinds.LisuTone h e = absurd (omega (arith, e))
zero_of_kind c kinds.RegionalIndicator h e = absurd (omega (arith, e))
zero_of_kind c kinds.EmojiModifier h e = absurd (omega (arith, e))
zero_of_kind c kinds.Emoji h e = absurd (omega (arith, e))
zero_of_kind c kinds.Single h e = grind (arith, nat_tests, h.no_emoji, h.no_text, h.no_quote)

-- a character without a column is read as nothing
pub zero-alone : (c : ℕ) → IsNoSelector c → (alone false c).0 ≡ 0 → alone false c ≡ (0, plain)
unfolding alone
zero-alone c h e = zero_of_kind c (kind c) h e

-- the characters that a rule names, with a column
record IsUnnamed (c : ℕ) : Type 0 where
  lamed : c ≢ 0x05DC
  dagesh : c ≢ 0xFB3C
  beyyal : c ≢ 0x17D8
  ya : c ≢ 0x1A10
  orkhon : c ≢ 0x10C03
  kirat_e : c ≢ 0x16D67
  kirat_ai : c ≢ 0x16D68

single_zero : (c : ℕ) → IsUnnamed c → (single false c).0 ≡ 0
single_zero c h = grind (arith, nat_tests, h.lamed, h.dagesh, h.beyyal, h.ya, h.orkhon, h.kirat_e, h.kirat_ai)

apart : (c k : ℕ) → is_ligature_transparent k ≡ false → is_ligature_transparent c ≡ true → c ≢ k
apart c k untrue is e = false≢true (sym untrue ∙ ap is_ligature_transparent (sym e) ∙ is)

unnamed : (c : ℕ) → is_ligature_transparent c ≡ true → IsUnnamed c
unfolding unicode_width
unnamed c is = record {
  lamed = apart c 0x05DC refl is;
  dagesh = apart c 0xFB3C refl is;
  beyyal = apart c 0x17D8 refl is;
  ya = apart c 0x1A10 refl is;
  orkhon = apart c 0x10C03 refl is;
  kirat_e = apart c 0x16D67 refl is;
  kirat_ai = apart c 0x16D68 refl is;
}

still_zero : (c : ℕ) (k : Kind) → is_still k ≡ true → IsUnnamed c → (of_kind false c k).0 ≡ 0
still_zero c kinds.Zero h e = refl
still_zero c kinds.Narrow h e = absurd (false≢true h)
still_zero c kinds.Wide h e = absurd (false≢true h)
still_zero c kinds.Ambiguous h e = absurd (false≢true h)
still_zero c kinds.Alef h e = absurd (false≢true h)
still_zero c kinds.KhmerLetter h e = absurd (false≢true h)
still_zero c kinds.TifinaghConsonant h e = absurd (false≢true h)
still_zero c kinds.LisuTone h e = absurd (false≢true h)
still_zero c kinds.RegionalIndicator h e = absurd (false≢true h)
still_zero c kinds.EmojiModifier h e = absurd (false≢true h)
still_zero c kinds.Emoji h e = absurd (false≢true h)
still_zero c kinds.Single h e = single_zero c e

-- a mark that ligatures pass over takes no column
pub transparent-zero : (c : ℕ) → is_ligature_transparent c ≡ true → (alone false c).0 ≡ 0
unfolding alone
transparent-zero c is = still_zero c (kind c) (transparent-still c is) (unnamed c is)
