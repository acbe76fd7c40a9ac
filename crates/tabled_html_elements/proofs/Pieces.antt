-- What is built of characters and a tag.
use Rattle.std.proofs.Common.{◌≡◌, ◌∙◌, ◌++◌, ◌+◌, ◌-◌, ◌*◌, ◌<◌, ℕ, Bool, true, false, List, [], ◌∷◌, None, Option, Some, ap, append_assoc, append-nil, arith, cond, eqb, fold, length, not, refl, sym}
use Rattle.std.proofs.lemmas.Bool.{and_parts, cond-false, cond-true, false≢true}
use Rattle.std.specs.List.{list_all}
use Rattle.std.specs.Prelude.{◌&&◌, codes}
use Rattle.std.specs.Str.{bytes_eq}
use Rattle.tabled_html_reading.proofs.Slots.{fold-then}
use Rattle.tabled_html_reading.specs.Building.{Built, Mode, are_spans, at_character, at_end_tag, at_start, begin_caption, built_after, closed, end_caption, end_cell, is_number_if, no_table, nothing_built}
use Rattle.tabled_html_reading.specs.Building.Mode.{Behind, InBody, InCaption, InCell, InRow, InTable, InTableBody}
use Rattle.tabled_html_reading.specs.Characters.{is_blank, is_digit}
use Rattle.tabled_html_reading.specs.Elements.{Attribute, Element, Group, Table, number_behind}
use Rattle.tabled_html_elements.specs.Reading.{IsBetween, as_table, begins_table, built_from, ends_caption, ends_cell, has_room, in_cell, kept, may_have_caption, opened, table_behind, with_caption}
use Rattle.tabled_html_reading.specs.Tokenizing.{Tag, Token, characters, emit, tokens_from}
use Rattle.tabled_html_reading.specs.Tokenizing.State.{Data}
use Rattle.tabled_html_reading.specs.Tokenizing.Token.{Marked}

-- tokens behind others are built behind these
behind-emitted : (b : Option Built) (out : List Token) (read : Option (List Token)) → table_behind b (emit out read) ≡ table_behind (fold built_after b out) read
behind-emitted b out None = refl
behind-emitted b out (Some ts) = ap closed (fold-then built_after b out ts)

-- nothing is built behind nothing
none-stays : (ts : List Token) → fold built_after None ts ≡ None
none-stays [] = refl
none-stays (t ∷ ts) = none-stays ts

pub none_built : (bytes : List ℕ) → built_from None bytes ≡ None
none_built bytes = of-tokens (tokens_from bytes Data)
  where
    of-tokens : (read : Option (List Token)) → table_behind None read ≡ None
    of-tokens None = refl
    of-tokens (Some ts) = ap closed (none-stays ts)

-- a piece is built
module _ (b : Option Built) (bytes text : List ℕ) where
  pub piece_built : (t : Tag) (after : List ℕ) → tokens_from bytes Data ≡ emit (characters text ++ (Marked t ∷ [])) (tokens_from after Data) → built_from b bytes ≡ built_from (built_after (fold built_after b (characters text)) (Marked t)) after
  piece_built t after read = ap (table_behind b) read ∙ behind-emitted b (characters text ++ (Marked t ∷ [])) (tokens_from after Data) ∙ ap (λ o. table_behind o (tokens_from after Data)) (fold-then built_after b (characters text) (Marked t ∷ []))

  pub end_built : tokens_from bytes Data ≡ Some (characters text) → built_from b bytes ≡ closed (fold built_after b (characters text))
  end_built read = ap (table_behind b) read

  pub nothing_built_of : tokens_from bytes Data ≡ None → built_from b bytes ≡ None
  nothing_built_of read = ap (table_behind b) read

-- white space between texts is let be, and no other character
blank-one : (b : Built) (m : Mode) → IsBetween m → (c : ℕ) → at_character b m c ≡ cond (is_blank c) (Some b) None
blank-one b InTable between c = refl
blank-one b InTableBody between c = refl
blank-one b InRow between c = refl
blank-one b Behind between c = refl
blank-one b InBody between c = absurd between
blank-one b InCaption between c = absurd between
blank-one b InCell between c = absurd between

pub blanks_built : (b : Built) (text : List ℕ) → IsBetween b.mode → fold built_after (Some b) (characters text) ≡ cond (list_all is_blank text) (Some b) None
blanks_built b [] between = refl
blanks_built b (c ∷ text) between = ap (λ o. fold built_after o (characters text)) (blank-one b b.mode between c) ∙ of-test (is_blank c) (blanks_built b text between)
  where
    of-test : (z : Bool) → fold built_after (Some b) (characters text) ≡ cond (list_all is_blank text) (Some b) None → fold built_after (cond z (Some b) None) (characters text) ≡ cond (z && list_all is_blank text) (Some b) None
    of-test true all = all
    of-test false all = none-stays (characters text)

-- characters in a text are put behind it, but for U+0000
abbrev pub IsText : Mode → Type 0
IsText InCell = Unit {0}
IsText InCaption = Unit {0}
IsText _ = ⊥

text-one : (b : Built) (m : Mode) → IsText m → (c : ℕ) → at_character b m c ≡ cond (eqb c 0) (Some b) (Some (record b { text = b.text ++ (c ∷ []) }))
text-one b InCell is c = refl
text-one b InCaption is c = refl
text-one b InBody is c = absurd is
text-one b InTable is c = absurd is
text-one b InTableBody is c = absurd is
text-one b InRow is c = absurd is
text-one b Behind is c = absurd is

pub text_built : (b : Built) (text : List ℕ) → IsText b.mode → fold built_after (Some b) (characters text) ≡ Some (record b { text = b.text ++ kept text })
text_built b [] is = ap (λ x. Some (record b { text = x })) (sym (append-nil b.text))
text_built b (c ∷ text) is = ap (λ o. fold built_after o (characters text)) (text-one b b.mode is c) ∙ of-test (eqb c 0) (text_built b text is) (text_built (record b { text = b.text ++ (c ∷ []) }) text is)
  where
    of-test : (z : Bool) → fold built_after (Some b) (characters text) ≡ Some (record b { text = b.text ++ kept text })
        → fold built_after (Some (record b { text = b.text ++ (c ∷ []) })) (characters text) ≡ Some (record b { text = (b.text ++ (c ∷ [])) ++ kept text })
        → fold built_after (cond z (Some b) (Some (record b { text = b.text ++ (c ∷ []) }))) (characters text) ≡ Some (record b { text = b.text ++ cond (not z) (c ∷ kept text) (kept text) })
    of-test true same more = same
    of-test false same more = more ∙ ap (λ x. Some (record b { text = x })) (append_assoc b.text (c ∷ []) (kept text))

-- white space between texts, and the tag or the end behind it
module _ (b : Built) (between : IsBetween b.mode) (bytes text : List ℕ) where
  pub tag_between : (t : Tag) (after : List ℕ) → list_all is_blank text ≡ true → tokens_from bytes Data ≡ emit (characters text ++ (Marked t ∷ [])) (tokens_from after Data) → built_from (Some b) bytes ≡ built_from (built_after (Some b) (Marked t)) after
  tag_between t after blank read = piece_built (Some b) bytes text t after read ∙ ap (λ o. built_from (built_after o (Marked t)) after) (blanks_built b text between ∙ cond-true _ _ _ blank)

  pub end_between : list_all is_blank text ≡ true → tokens_from bytes Data ≡ Some (characters text) → built_from (Some b) bytes ≡ closed (Some b)
  end_between blank read = end_built (Some b) bytes text read ∙ ap closed (blanks_built b text between ∙ cond-true _ _ _ blank)

  pub no_tag_between : (t : Tag) (after : List ℕ) → list_all is_blank text ≡ false → tokens_from bytes Data ≡ emit (characters text ++ (Marked t ∷ [])) (tokens_from after Data) → built_from (Some b) bytes ≡ None
  no_tag_between t after other read = piece_built (Some b) bytes text t after read ∙ ap (λ o. built_from (built_after o (Marked t)) after) (blanks_built b text between ∙ cond-false _ _ _ other) ∙ none_built after

  pub no_end_between : list_all is_blank text ≡ false → tokens_from bytes Data ≡ Some (characters text) → built_from (Some b) bytes ≡ None
  no_end_between other read = end_built (Some b) bytes text read ∙ ap closed (blanks_built b text between ∙ cond-false _ _ _ other)

-- a text, and the tag or the end behind it
module _ (b : Built) (is : IsText b.mode) (bytes text : List ℕ) where
  pub tag_behind_text : (t : Tag) (after : List ℕ) → tokens_from bytes Data ≡ emit (characters text ++ (Marked t ∷ [])) (tokens_from after Data) → built_from (Some b) bytes ≡ built_from (built_after (Some (record b { text = b.text ++ kept text })) (Marked t)) after
  tag_behind_text t after read = piece_built (Some b) bytes text t after read ∙ ap (λ o. built_from (built_after o (Marked t)) after) (text_built b text is)

  pub end_behind_text : tokens_from bytes Data ≡ Some (characters text) → built_from (Some b) bytes ≡ None
  end_behind_text read = end_built (Some b) bytes text read ∙ ap closed (text_built b text is) ∙ open_text b.mode is
    where
      open_text : (m : Mode) → IsText m → closed (Some (record b { mode = m; text = b.text ++ kept text })) ≡ None
      open_text InCell is = refl
      open_text InCaption is = refl
      open_text InBody is = absurd is
      open_text InTable is = absurd is
      open_text InTableBody is = absurd is
      open_text InRow is = absurd is
      open_text Behind is = absurd is

-- ---- numbers

digits-behind : (n : ℕ) (bs : List ℕ) → elim (number_behind n bs) as (λ (o : Option ℕ). Bool) [ None ↦ false | Some k ↦ true ] ≡ list_all is_digit bs
digits-behind n [] = refl
digits-behind n (b ∷ bs) = of-test (is_digit b) (digits-behind (n * 10 + (b - 48)) bs)
  where
    of-test : (z : Bool) → elim (number_behind (n * 10 + (b - 48)) bs) as (λ (o : Option ℕ). Bool) [ None ↦ false | Some k ↦ true ] ≡ list_all is_digit bs
        → elim (cond z (number_behind (n * 10 + (b - 48)) bs) None) as (λ (o : Option ℕ). Bool) [ None ↦ false | Some k ↦ true ] ≡ (z && list_all is_digit bs)
    of-test true all = all
    of-test false all = refl

pub number_of_digits : (value : List ℕ) → 0 < length value → is_number_if (Some value) ≡ list_all is_digit value
number_of_digits [] some = absurd (omega (arith, some))
number_of_digits (b ∷ bs) some = digits-behind 0 (b ∷ bs)

pub some-of : (xs : List ℕ) (b : Bool) → b ≡ eqb (length xs) 0 → b ≡ false → 0 < length xs
some-of [] b is none = absurd (false≢true (sym none ∙ is))
some-of (x ∷ xs) b is none = omega arith

-- ---- a cell

module _ (table : Table) (is_head : Bool) (rows : List (List Element)) (cells : List Element) (is_header : Bool) (attributes : List Attribute) (bytes text : List ℕ) (t : Tag) (after : List ℕ)
    (read : tokens_from bytes Data ≡ emit (characters text ++ (Marked t ∷ [])) (tokens_from after Data)) where
  abbrev cell_open : Built
  cell_open = record (in_cell table is_head rows cells is_header attributes) { text = kept text }

  behind : built_from (Some (in_cell table is_head rows cells is_header attributes)) bytes ≡ built_from (built_after (Some cell_open) (Marked t)) after
  behind = tag_behind_text (in_cell table is_head rows cells is_header attributes) tt bytes text t after read

  pub cell_ended : ends_cell t is_header ≡ true → are_spans attributes ≡ true
      → built_from (Some (in_cell table is_head rows cells is_header attributes)) bytes ≡ built_from (Some (opened InRow table is_head rows (cells ++ (record { is_header = is_header; attributes = attributes; text = kept text } ∷ [])))) after
  cell_ended ends spans = behind ∙ ap (λ o. built_from o after) (let parts = and_parts t.is_end (bytes_eq t.name (cond is_header (codes "th") (codes "td"))) ends in rw (parts.0, parts.1, spans) refl)

  pub cell_not_ended : ends_cell t is_header ≡ false → built_from (Some (in_cell table is_head rows cells is_header attributes)) bytes ≡ None
  cell_not_ended other = behind ∙ ap (λ o. built_from o after) (of-tests t.is_end (bytes_eq t.name (cond is_header (codes "th") (codes "td"))) other) ∙ none_built after
    where
      of-tests : (e n : Bool) → (e && n) ≡ false → cond e (cond n (end_cell cell_open) None) (at_start cell_open InCell t) ≡ None
      of-tests false n none = refl
      of-tests true false none = refl
      of-tests true true none = let wrong : true ≡ false = none in cc

  pub cell_not_spans : ends_cell t is_header ≡ true → are_spans attributes ≡ false → built_from (Some (in_cell table is_head rows cells is_header attributes)) bytes ≡ None
  cell_not_spans ends other = behind ∙ ap (λ o. built_from o after) (let parts = and_parts t.is_end (bytes_eq t.name (cond is_header (codes "th") (codes "td"))) ends in rw (parts.0, parts.1, other) refl) ∙ none_built after

pub cell_cut : (table : Table) (is_head : Bool) (rows : List (List Element)) (cells : List Element) (is_header : Bool) (attributes : List Attribute) (bytes text : List ℕ) → tokens_from bytes Data ≡ Some (characters text)
    → built_from (Some (in_cell table is_head rows cells is_header attributes)) bytes ≡ None
cell_cut table is_head rows cells is_header attributes bytes text read = end_behind_text (in_cell table is_head rows cells is_header attributes) tt bytes text read

-- ---- a caption

module _ (table : Table) (bytes text : List ℕ) where
  module _ (t : Tag) (after : List ℕ) (read : tokens_from bytes Data ≡ emit (characters text ++ (Marked t ∷ [])) (tokens_from after Data)) where
    abbrev captioned : Built
    captioned = record (opened InCaption table false [] []) { text = kept text }

    behind-caption : built_from (Some (opened InCaption table false [] [])) bytes ≡ built_from (built_after (Some captioned) (Marked t)) after
    behind-caption = tag_behind_text (opened InCaption table false [] []) tt bytes text t after read

    pub caption_ended : ends_caption t ≡ true → built_from (Some (opened InCaption table false [] [])) bytes ≡ built_from (Some (opened InTable (with_caption table (kept text)) false [] [])) after
    caption_ended ends = behind-caption ∙ ap (λ o. built_from o after) (let parts = and_parts t.is_end (bytes_eq t.name (codes "caption")) ends in rw (parts.0, parts.1) refl)

    pub caption_not_ended : ends_caption t ≡ false → built_from (Some (opened InCaption table false [] [])) bytes ≡ None
    caption_not_ended other = behind-caption ∙ ap (λ o. built_from o after) (of-tests t.is_end (bytes_eq t.name (codes "caption")) other) ∙ none_built after
      where
        of-tests : (e n : Bool) → (e && n) ≡ false → cond e (cond n (end_caption captioned) None) (at_start captioned InCaption t) ≡ None
        of-tests false n none = refl
        of-tests true false none = refl
        of-tests true true none = let wrong : true ≡ false = none in cc

  pub caption_cut : tokens_from bytes Data ≡ Some (characters text) → built_from (Some (opened InCaption table false [] [])) bytes ≡ None
  caption_cut read = end_behind_text (opened InCaption table false [] []) tt bytes text read

-- ---- parts of a table

-- a tag that begins no part
pub no_part : (table : Table) (t : Tag) (bytes : List ℕ) → t.is_end ≡ false → bytes_eq t.name (codes "caption") ≡ false → bytes_eq t.name (codes "tr") ≡ false → bytes_eq t.name (codes "thead") ≡ false → bytes_eq t.name (codes "tbody") ≡ false
    → built_from (built_after (Some (opened InTable table false [] [])) (Marked t)) bytes ≡ None
no_part table t bytes start caption row head body = ap (λ o. built_from o bytes) (rw (start, caption, row, head, body) refl) ∙ none_built bytes

-- no table begins with another tag, or with characters
pub no_table_begins : (t : Tag) (bytes text after : List ℕ) → tokens_from bytes Data ≡ emit (characters text ++ (Marked t ∷ [])) (tokens_from after Data) → begins_table text t ≡ false → built_from (Some nothing_built) bytes ≡ None
no_table_begins t bytes text after read other = piece_built (Some nothing_built) bytes text t after read ∙ ap (λ o. built_from o after) (of-text text other) ∙ none_built after
  where
    of-tag : (e n : Bool) → (not e && n) ≡ false → cond e (at_end_tag nothing_built InBody t.name) (cond n (Some (record nothing_built { mode = InTable; table = record no_table { attributes = t.attributes } })) None) ≡ None
    of-tag true n none = refl
    of-tag false true none = let wrong : true ≡ false = none in cc
    of-tag false false none = refl

    of-text : (text : List ℕ) → begins_table text t ≡ false → built_after (fold built_after (Some nothing_built) (characters text)) (Marked t) ≡ None
    of-text [] other = of-tag t.is_end (bytes_eq t.name (codes "table")) other
    of-text (c ∷ text) other = ap (λ o. built_after o (Marked t)) (none-stays (characters text))

pub table_begins : (t : Tag) (bytes text after : List ℕ) → tokens_from bytes Data ≡ emit (characters text ++ (Marked t ∷ [])) (tokens_from after Data) → begins_table text t ≡ true
    → built_from (Some nothing_built) bytes ≡ built_from (Some (opened InTable (as_table t.attributes None []) false [] [])) after
table_begins t bytes text after read begins = piece_built (Some nothing_built) bytes text t after read ∙ ap (λ o. built_from o after) (of-text text begins)
  where
    of-tag : (e n : Bool) → (not e && n) ≡ true → cond e (at_end_tag nothing_built InBody t.name) (cond n (Some (record nothing_built { mode = InTable; table = record no_table { attributes = t.attributes } })) None) ≡ Some (opened InTable (as_table t.attributes None []) false [] [])
    of-tag false true is = refl
    of-tag false false is = let wrong : false ≡ true = is in cc
    of-tag true n is = let wrong : false ≡ true = is in cc

    of-text : (text : List ℕ) → begins_table text t ≡ true → built_after (fold built_after (Some nothing_built) (characters text)) (Marked t) ≡ Some (opened InTable (as_table t.attributes None []) false [] [])
    of-text [] begins = of-tag t.is_end (bytes_eq t.name (codes "table")) begins
    of-text (c ∷ text) begins = let wrong : false ≡ true = begins in cc

-- characters alone are no table
pub no_table_of_text : (bytes text : List ℕ) → tokens_from bytes Data ≡ Some (characters text) → built_from (Some nothing_built) bytes ≡ None
no_table_of_text bytes text read = end_built (Some nothing_built) bytes text read ∙ of-text text
  where
    of-text : (text : List ℕ) → closed (fold built_after (Some nothing_built) (characters text)) ≡ None
    of-text [] = refl
    of-text (c ∷ text) = ap closed (none-stays (characters text))

-- behind a table there is no tag
pub no_tag_behind : (table : Table) (t : Tag) (bytes after : List ℕ) → built_from (Some (opened Behind table false [] [])) bytes ≡ built_from (built_after (Some (opened Behind table false [] [])) (Marked t)) after → built_from (Some (opened Behind table false [] [])) bytes ≡ None
no_tag_behind table t bytes after read = read ∙ ap (λ o. built_from o after) (of-kind t.is_end) ∙ none_built after
  where
    of-kind : (e : Bool) → cond e (at_end_tag (opened Behind table false [] []) Behind t.name) (at_start (opened Behind table false [] []) Behind t) ≡ None
    of-kind true = refl
    of-kind false = refl

-- a caption begins where a table may have one
module _ (table : Table) (t : Tag) (bytes : List ℕ) (start : t.is_end ≡ false) (caption : bytes_eq t.name (codes "caption") ≡ true) where
  begins : built_after (Some (opened InTable table false [] [])) (Marked t) ≡ begin_caption (opened InTable table false [] []) table.caption table.groups
  begins = rw (start, caption) refl

  pub caption_begun : may_have_caption table ≡ true → built_from (built_after (Some (opened InTable table false [] [])) (Marked t)) bytes ≡ built_from (Some (opened InCaption table false [] [])) bytes
  caption_begun may = ap (λ o. built_from o bytes) (begins ∙ of-parts table.caption table.groups may)
    where
      of-parts : (c : Option (List ℕ)) (gs : List Group) → has_room c gs ≡ true → begin_caption (opened InTable table false [] []) c gs ≡ Some (opened InCaption table false [] [])
      of-parts None [] may = refl
      of-parts None (g ∷ gs) may = let wrong : false ≡ true = may in cc
      of-parts (Some text) gs may = let wrong : false ≡ true = may in cc

  pub caption_refused : may_have_caption table ≡ false → built_from (built_after (Some (opened InTable table false [] [])) (Marked t)) bytes ≡ None
  caption_refused may = ap (λ o. built_from o bytes) (begins ∙ of-parts table.caption table.groups may) ∙ none_built bytes
    where
      of-parts : (c : Option (List ℕ)) (gs : List Group) → has_room c gs ≡ false → begin_caption (opened InTable table false [] []) c gs ≡ None
      of-parts None [] may = let wrong : true ≡ false = may in cc
      of-parts None (g ∷ gs) may = refl
      of-parts (Some text) gs may = refl

-- another tag ends no table
pub no_end : (table : Table) (t : Tag) (bytes : List ℕ) → t.is_end ≡ true → bytes_eq t.name (codes "table") ≡ false → built_from (built_after (Some (opened InTable table false [] [])) (Marked t)) bytes ≡ None
no_end table t bytes end other = ap (λ o. built_from o bytes) (rw (end, other) refl) ∙ none_built bytes
