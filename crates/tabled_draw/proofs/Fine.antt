-- The characters of styles are one column wide, and no control characters: computed.
use Rattle.tabled_draw.proofs.Common.{AllByRecursion, Bool, IsFine, IsFineMark, List, Style, [], ap, false, inl, inr, length, map, nat_le, nat_lt, not, refl, replicate, true, ℕ, ◌&&◌, ◌==◌, ◌||◌, ◌∙◌, ◌∷◌, ◌≡◌, false≢true}
use Rattle.std.proofs.lemmas.Bool.{and_parts, leb-true, ltb-true, or_cases}
use Rattle.tabled_draw.proofs.Common.{eq-eqb, sym}
use Rattle.tabled_draw.specs.declared.style.TheConstants.Style.{ASCII, ASCII_ROUNDED, BLANK, DOTS, EMPTY, EXTENDED, MARKDOWN, MODERN, PSQL, RE_STRUCTURED_TEXT, ROUNDED, SHARP}
use Rattle.unicode_width.proofs.Computing.{unicode_width}
use Rattle.unicode_width.specs.Width.{alone, plain}
use Rattle.unicode_width.specs.declared.state.State.{State}
use Rattle.std.specs.List.{list_all}

abbrev Alone : Type 0
Alone = ℕ × State

is_fine : ℕ → Bool
is_fine c = nat_le 0x20 c && (not (c == 0x7F) && (nat_lt c 0x80 || nat_lt 0x9F c))

fine-mark : (c : ℕ) → alone false c ≡ (1, plain) → is_fine c ≡ true → IsFineMark c
unfolding is_fine
fine-mark c wide t =
    let first = and_parts (nat_le 0x20 c) (not (c == 0x7F) && (nat_lt c 0x80 || nat_lt 0x9F c)) t in
    let second = and_parts (not (c == 0x7F)) (nat_lt c 0x80 || nat_lt 0x9F c) first.1 in
    record {
      wide = wide;
      plain = record {
        above = leb-true 0x20 c first.0;
        no_delete = λ e. false≢true (sym (ap not (eq-eqb c 0x7F e)) ∙ second.0);
        outside = elim (or_cases (nat_lt c 0x80) (nat_lt 0x9F c) second.1) [ inl t ↦ inl (ltb-true c 0x80 t) | inr t ↦ inr (ltb-true 0x9F c t) ];
      };
    }

-- the first of a list, and those after it
abbrev first_of : List Alone → Alone
first_of [] = (0, plain)
first_of (x ∷ xs) = x

abbrev later : List Alone → List Alone
later [] = []
later (x ∷ xs) = xs

all-fine : (cs : List ℕ) → map (alone false) cs ≡ replicate (length cs) (1, plain) → list_all is_fine cs ≡ true → AllByRecursion IsFineMark cs
all-fine [] wide t = tt
all-fine (c ∷ cs) wide t = let parts = and_parts (is_fine c) (list_all is_fine cs) t in (fine-mark c (ap first_of wide) parts.0, all-fine cs (ap later wide) parts.1)

fine-style : (style : Style) → map (alone false) (style.horizontal ∷ style.vertical ∷ style.corners) ≡ replicate (length (style.horizontal ∷ style.vertical ∷ style.corners)) (1, plain) → list_all is_fine (style.horizontal ∷ style.vertical ∷ style.corners) ≡ true → IsFine style
fine-style style wide t = all-fine (style.horizontal ∷ style.vertical ∷ style.corners) wide t

pub ascii : IsFine ASCII
unfolding unicode_width is_fine
ascii = fine-style ASCII refl refl

pub modern : IsFine MODERN
unfolding unicode_width is_fine
modern = fine-style MODERN refl refl

pub sharp : IsFine SHARP
unfolding unicode_width is_fine
sharp = fine-style SHARP refl refl

pub rounded : IsFine ROUNDED
unfolding unicode_width is_fine
rounded = fine-style ROUNDED refl refl

pub extended : IsFine EXTENDED
unfolding unicode_width is_fine
extended = fine-style EXTENDED refl refl

pub psql : IsFine PSQL
unfolding unicode_width is_fine
psql = fine-style PSQL refl refl

pub markdown : IsFine MARKDOWN
unfolding unicode_width is_fine
markdown = fine-style MARKDOWN refl refl

pub re_structured_text : IsFine RE_STRUCTURED_TEXT
unfolding unicode_width is_fine
re_structured_text = fine-style RE_STRUCTURED_TEXT refl refl

pub dots : IsFine DOTS
unfolding unicode_width is_fine
dots = fine-style DOTS refl refl

pub ascii_rounded : IsFine ASCII_ROUNDED
unfolding unicode_width is_fine
ascii_rounded = fine-style ASCII_ROUNDED refl refl

pub blank : IsFine BLANK
unfolding unicode_width is_fine
blank = fine-style BLANK refl refl

pub empty : IsFine EMPTY
unfolding unicode_width is_fine
empty = fine-style EMPTY refl refl
