-- Words that are their own texts and texts that are their own words.
use Rattle.std.proofs.Common.{◌≡◌, ℕ, Bool, true, false, cond, eqb, List, [], ◌∷◌, refl}
use Rattle.std.specs.List.{AllByRecursion, onto_first, slice_split}
use Rattle.std.proofs.lemmas.Bool.{or_parts}
use Rattle.tabled_language.specs.Line.{has_byte, words_of}
use Rattle.tabled_language.specs.Output.{IsOwnWord}

-- a byte stands in none of these parts
abbrev pub LackEach : ℕ → List (List ℕ) → Type 0
LackEach c parts = AllByRecursion (λ part. has_byte c part ≡ false) parts

onto_first-lacks : (c b : ℕ) (parts : List (List ℕ)) → eqb b c ≡ false → LackEach c parts → LackEach c (onto_first b parts)
onto_first-lacks c b [] other none = (rw other refl, tt)
onto_first-lacks c b (part ∷ parts) other none = (rw other none.0, none.1)

-- no part has a byte that the whole lacks
pub parts_lack : (c at : ℕ) (bytes : List ℕ) → has_byte c bytes ≡ false → LackEach c (slice_split (λ b. eqb b at) bytes)
parts_lack c at [] none = (none, tt)
parts_lack c at (b ∷ bs) none = lack_with_first (eqb b at) (parts_lack c at bs (or_parts (eqb b c) _ none).1)
  where
    lack_with_first : (here : Bool) → LackEach c (slice_split (λ b. eqb b at) bs) → LackEach c (cond here ([] ∷ slice_split (λ b. eqb b at) bs) (onto_first b (slice_split (λ b. eqb b at) bs)))
    lack_with_first true later = (refl, later)
    lack_with_first false later = onto_first-lacks c b (slice_split (λ b. eqb b at) bs) (or_parts (eqb b c) _ none).0 later

-- no part has the byte that separates them
pub parts_lack_separator : (at : ℕ) (bytes : List ℕ) → LackEach at (slice_split (λ b. eqb b at) bytes)
parts_lack_separator at [] = (refl, tt)
parts_lack_separator at (b ∷ bs) = lack_with_first (eqb b at) refl (parts_lack_separator at bs)
  where
    lack_with_first : (here : Bool) → eqb b at ≡ here → LackEach at (slice_split (λ b. eqb b at) bs) → LackEach at (cond here ([] ∷ slice_split (λ b. eqb b at) bs) (onto_first b (slice_split (λ b. eqb b at) bs)))
    lack_with_first true is later = (refl, later)
    lack_with_first false other later = onto_first-lacks at b (slice_split (λ b. eqb b at) bs) other later

-- a text without tab, newline or backslash is its own word
pub own_word : (text : List ℕ) → has_byte 9 text ≡ false → has_byte 10 text ≡ false → has_byte 92 text ≡ false → IsOwnWord text
own_word [] no_tab no_newline no_backslash = refl
own_word (b ∷ bs) no_tab no_newline no_backslash =
    let tab = or_parts (eqb b 9) _ no_tab in
    let newline = or_parts (eqb b 10) _ no_newline in
    let backslash = or_parts (eqb b 92) _ no_backslash in
    rw (tab.0, newline.0, backslash.0, own_word bs tab.1 newline.1 backslash.1) refl

own_words : (texts : List (List ℕ)) → LackEach 9 texts → LackEach 10 texts → LackEach 92 texts → AllByRecursion IsOwnWord texts
own_words [] no_tab no_newline no_backslash = tt
own_words (text ∷ texts) no_tab no_newline no_backslash = (own_word text no_tab.0 no_newline.0 no_backslash.0, own_words texts no_tab.1 no_newline.1 no_backslash.1)

-- the words of a line without newline and backslash are their own words
pub line_of_own_words : (line : List ℕ) → has_byte 10 line ≡ false → has_byte 92 line ≡ false → AllByRecursion IsOwnWord (words_of line)
line_of_own_words line no_newline no_backslash = own_words (words_of line) (parts_lack_separator 9 line) (parts_lack 10 9 line no_newline) (parts_lack 92 9 line no_backslash)
