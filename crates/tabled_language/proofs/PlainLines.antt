-- Lines without a backslash, whose words are their own texts.
use Rattle.tabled_language.proofs.Common.{[], ◌+◌, ◌<◌, ◌∷◌, ◌≡◌, ◌≤◌, ◌⊎◌, AllByRecursion, Bool, IsCharBoundary-after_ascii, IsCharBoundary-before_ascii, IsUtf8, IsUtf8-drop, IsUtf8-from_is_utf8, IsUtf8-take, LackEach, List, Some, arith, drop, eqb, false, has_byte, inl, inr, is_plain, is_utf8-from_IsUtf8, leb, leb_tells, length, length-drop, parts_lack, position_or_len, refl, subst, suc, sym, text_of_word, texts_of, true, words_of, zero, ℕ}
use Rattle.std.specs.Str.{is_utf8}
use Rattle.tabled_language.proofs.Separated.{ascii_at_place, one_part, part_and_others}
use Rattle.tabled_language.proofs.Escapes.{unescaped-clean}

words_of-utf8 : (n : ℕ) (line : List ℕ) → length line < n → IsUtf8 line → AllByRecursion IsUtf8 (words_of line)
words_of-utf8 zero line short text = absurd (omega (arith, short))
words_of-utf8 (suc n) line short text = parted_or_whole (leb_tells (length line) i) (words_of-utf8 n)
  where
    i : ℕ
    i = position_or_len (λ b. eqb b 9) line

    parted_or_whole : ((leb (length line) i ≡ true) × (length line ≤ i)) ⊎ ((leb (length line) i ≡ false) × (i < length line)) → ((others : List ℕ) → length others < n → IsUtf8 others → AllByRecursion IsUtf8 (words_of others)) → AllByRecursion IsUtf8 (words_of line)
    parted_or_whole (inl (_, past)) later = subst (AllByRecursion IsUtf8) (sym (one_part 9 line past)) (text, tt)
    parted_or_whole (inr (_, within)) later =
        let ascii = ascii_at_place 9 line i (omega arith) refl within in
        let first = IsUtf8-take line i text (IsCharBoundary-before_ascii line i within ascii) in
        let behind = IsUtf8-drop line (i + 1) text (IsCharBoundary-after_ascii line i text within ascii) in
        let others = later (drop (i + 1) line) (omega (arith, short, within, length-drop (i + 1) line)) behind in
        subst (AllByRecursion IsUtf8) (sym (part_and_others 9 line i refl within)) (first, others)

texts_of-clean : (words : List (List ℕ)) → AllByRecursion IsUtf8 words → LackEach 92 words → texts_of words ≡ Some words
texts_of-clean [] texts clean = refl
texts_of-clean (word ∷ words) texts clean =
    let plain : text_of_word word ≡ Some word = rw (unescaped-clean word clean.0, is_utf8-from_IsUtf8 word texts.0) refl in
    rw (plain, texts_of-clean words texts.1 clean.1) refl

-- the words of a text without a backslash are their own texts
pub texts_of-plain : (line : List ℕ) → IsUtf8 line → has_byte 92 line ≡ false → texts_of (words_of line) ≡ Some (words_of line)
texts_of-plain line text clean = texts_of-clean (words_of line) (words_of-utf8 (length line + 1) line (omega arith) text) (parts_lack 92 9 line clean)

-- such a text is a plain line
pub plain_line : (line : List ℕ) → IsUtf8 line → has_byte 92 line ≡ false → is_plain line ≡ true
plain_line line text clean = rw (is_utf8-from_IsUtf8 line text, clean) refl

-- bytes that are no text aren't
pub not_plain : (line : List ℕ) → (IsUtf8 line → ⊥) → is_plain line ≡ false
not_plain line none = is_not_plain (is_utf8 line) refl
  where
    is_not_plain : (b : Bool) → is_utf8 line ≡ b → is_plain line ≡ false
    is_not_plain true valid = absurd (none (IsUtf8-from_is_utf8 line valid))
    is_not_plain false invalid = rw invalid refl
