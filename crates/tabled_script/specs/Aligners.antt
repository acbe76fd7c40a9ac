-- How the texts of columns are aligned, by what stands in them.
use Rattle.std.specs.Prelude.{ℕ, ◌-◌, ◌==◌, ◌&&◌, Bool, if◌then◌else◌, not, List, [], ◌∷◌, codes, length, map, nat_lt, Option, None, Some, bytes_eq}
use Rattle.std.specs.List.{after_first, before_first, fold, list_any, position_or_len, range_with_len, slice_split}
use Rattle.std.specs.Option.{is_some, option_and_then, option_map, option_or, unwrap_or}
use Rattle.std.specs.String.{string_bytes}
use Rattle.tabled_decimal.specs.Numbers.{decimal}
use Rattle.tabled_draw.specs.declared.alignment.Alignment.{Alignment}
use Rattle.tabled_draw.specs.declared.alignment.Alignment.TheVariants.{Center, Left, Right}
use Rattle.tabled_grid.specs.Entity.{place}
use Rattle.tabled_grid.specs.Grid.{Grid}
use Rattle.tabled_script.specs.declared.alignments.AlignmentRule.{AlignmentRule}
use Rattle.tabled_script.specs.declared.alignments.AlignmentRule.TheVariants as told
use Rattle.tabled_script.specs.declared.alignments.Alignments.{Alignments}
use Rattle.tabled_script.specs.declared.alignments.Alignments.TheVariants.{Places, Rules}
use Rattle.tabled_script.specs.declared.alignments.TextKind.{TextKind}
use Rattle.tabled_script.specs.declared.alignments.TextKind.TheVariants as kind
use Rattle.tabled_select.specs.Locators.{text_at, text_is}

-- how columns are aligned: the alignments of those of a table
abbrev pub Aligner : Type 0
Aligner = Grid (List ℕ) → List Alignment

-- what says how a column of a table is aligned, if it says something of it
abbrev pub ColumnRule : Type 0
ColumnRule = Grid (List ℕ) → ℕ → Option Alignment

-- a text writes a number
abbrev pub is_number : List ℕ → Bool
is_number text = is_some (decimal text)

-- a text is of a kind: a number, or a word, which is neither a number nor empty
abbrev pub is_of : TextKind → List ℕ → Bool
is_of kind.Number text = is_number text
is_of kind.Word text = not (is_number text) && not (length text == 0)

-- a column has a text below the first row that passes a test
abbrev pub has_below : (List ℕ → Bool) → Grid (List ℕ) → ℕ → Bool
has_below test g j = list_any (λ (i : ℕ). test (text_at g (place i j))) (range_with_len 1 (g.rows - 1))

-- columns with numbers below the first row, and no words, stand to the right
abbrev pub numbers_right : ColumnRule
numbers_right g j = if not (has_below (is_of kind.Word) g j) && has_below (is_of kind.Number) g j then Some Right else None

-- columns with a name in the first row stand so
abbrev pub named_so : List ℕ → Alignment → ColumnRule
named_so name alignment g j = if text_is name g (place 0 j) then Some alignment else None

-- the alignment of a column: that of the last rule that says something of it, else to the left
abbrev pub alignment_by : List ColumnRule → Grid (List ℕ) → ℕ → Alignment
alignment_by rules g j = fold (λ alignment rule. unwrap_or (rule g j) alignment) Left rules

-- columns are aligned by rules
abbrev pub by_rules : List ColumnRule → Aligner
by_rules rules g = map (alignment_by rules g) (range_with_len 0 g.columns)

-- columns are aligned by their places
abbrev pub listed : List Alignment → Aligner
listed alignments g = alignments

-- what a rule says
abbrev pub rule_in : AlignmentRule → ColumnRule
rule_in told.Numbers = numbers_right
rule_in (told.Name name alignment) = named_so (string_bytes name) alignment

-- how columns are aligned
abbrev pub aligner : Alignments → Aligner
aligner (Places list) = listed list.items
aligner (Rules rules) = by_rules (map rule_in rules.items)

-- l, c or r: to the left, in the middle or to the right
abbrev pub alignment_of : ℕ → Option Alignment
alignment_of letter =
    if letter == 108 then Some Left
    else (if letter == 99 then Some Center
    else (if letter == 114 then Some Right else None))

-- what each of some elements stands for, where each stands for something
abbrev pub each_of : {A B : Type 0} → (A → Option B) → List A → Option (List B)
each_of of [] = Some []
each_of of (x ∷ xs) = option_and_then (λ first. option_map (λ others. first ∷ others) (each_of of xs)) (of x)

-- the alignment of a text that is one letter
abbrev pub sole_alignment : List ℕ → Option Alignment
sole_alignment [] = None
sole_alignment (letter ∷ []) = alignment_of letter
sole_alignment (letter ∷ next ∷ letters) = None

-- a byte is the equals sign
abbrev pub is_equals : ℕ → Bool
is_equals byte = byte == 61

-- what a part of a value says: `auto`, or a name, an equals sign and a letter
abbrev pub rule_of : List ℕ → Option ColumnRule
rule_of part =
    if bytes_eq part (codes "auto") then Some numbers_right
    else (if nat_lt (position_or_len is_equals part) (length part)
    then option_map (named_so (before_first is_equals part)) (sole_alignment (after_first is_equals part))
    else None)

-- a byte is a comma
abbrev pub is_comma : ℕ → Bool
is_comma byte = byte == 44

-- how a value aligns columns: by a letter for each place, or by rules between commas
abbrev pub aligner_of : List ℕ → Option Aligner
aligner_of value = option_or (option_map listed (each_of alignment_of value)) (option_map by_rules (each_of rule_of (slice_split is_comma value)))

-- a value, if it aligns columns
abbrev pub aligning : List ℕ → Option (List ℕ)
aligning value = option_map (λ _. value) (aligner_of value)
