-- The options of the program, and what their values mean.
use Rattle.std.specs.Prelude.{ℕ, Bool, true, false, ◌==◌, ◌&&◌, ◌||◌, nat_le, not, if◌then◌else◌, List, [], ◌∷◌, codes, Option, None, Some}
use Rattle.std.specs.List.{ends_with}
use Rattle.std.specs.Option.{option_map}
use Rattle.std.specs.Str.{bytes_eq}
use Rattle.tabled_draw.specs.Styles.{style_named}
use Rattle.tabled_script.specs.declared.setting.Drawn.{Drawn}
use Rattle.tabled_script.specs.declared.setting.Drawn.TheVariants as drawn
use Rattle.tabled_script.specs.declared.setting.Kind.{Kind}
use Rattle.tabled_script.specs.declared.setting.Kind.TheVariants as kind
use Rattle.tabled_script.specs.declared.setting.Setting.{Setting}
use Rattle.tabled_script.specs.declared.setting.Setting.TheVariants as setting
use Rattle.tabled_script.specs.declared.setting.FormName.{FormName}
use Rattle.tabled_script.specs.declared.setting.FormName.TheVariants as written

-- the option that sets it
abbrev pub name_of : Setting → List ℕ
name_of setting.Form = codes "--to"
name_of setting.Picture = codes "--draw"
name_of setting.Style = codes "--style"
name_of setting.Alignments = codes "--align"
name_of setting.Width = codes "--width"
name_of setting.Columns = codes "--columns"
name_of (setting.Rows kind.Csv) = codes "--csv"
name_of (setting.Rows kind.Json) = codes "--json"
name_of setting.Separator = codes "--separator"
name_of setting.NoQuotes = codes "--no-quotes"
name_of setting.ToSeparator = codes "--to-separator"
name_of setting.Strings = codes "--strings"
name_of setting.Header = codes "--header"
name_of setting.Caption = codes "--caption"
name_of setting.Script = codes "--script"
name_of setting.Output = codes "--output"
name_of setting.Checks = codes "--check"

-- the options, and what each sets
abbrev pub options : List (List ℕ × Setting)
options =
    (codes "--to", setting.Form)
    ∷ (codes "--draw", setting.Picture)
    ∷ (codes "--style", setting.Style)
    ∷ (codes "--align", setting.Alignments)
    ∷ (codes "--width", setting.Width)
    ∷ (codes "--columns", setting.Columns)
    ∷ (codes "--csv", setting.Rows kind.Csv)
    ∷ (codes "--json", setting.Rows kind.Json)
    ∷ (codes "--separator", setting.Separator)
    ∷ (codes "--no-quotes", setting.NoQuotes)
    ∷ (codes "--to-separator", setting.ToSeparator)
    ∷ (codes "--strings", setting.Strings)
    ∷ (codes "--header", setting.Header)
    ∷ (codes "--caption", setting.Caption)
    ∷ (codes "--script", setting.Script)
    ∷ (codes "--output", setting.Output)
    ∷ (codes "-o", setting.Output)
    ∷ (codes "--check", setting.Checks)
    ∷ []

-- what a table is written as, by name
abbrev pub forms : List (List ℕ × FormName)
forms =
    (codes "script", written.Script)
    ∷ (codes "csv", written.Csv)
    ∷ (codes "json", written.Json)
    ∷ (codes "jsonl", written.JsonLines)
    ∷ (codes "html", written.Html)
    ∷ (codes "html-page", written.HtmlPage)
    ∷ []

-- the rows of a file are CSV
abbrev pub is_csv : Kind → Bool
is_csv kind.Csv = true
is_csv kind.Json = false

-- what a list has for a name
abbrev pub named_in : {A : Type 0} → List (List ℕ × A) → List ℕ → Option A
named_in [] name = None
named_in (named ∷ others) name = if bytes_eq name named.0 then Some named.1 else named_in others name

-- a value stands behind the option
abbrev pub takes_value : Setting → Bool
takes_value setting.Picture = false
takes_value setting.NoQuotes = false
takes_value setting.Strings = false
takes_value setting.Checks = false
takes_value other = true

-- the setting's value names a file that is read
abbrev pub names_input : Setting → Bool
names_input (setting.Rows kind) = true
names_input setting.Script = true
names_input other = false

-- the setting's value names a file
abbrev pub names_file : Setting → Bool
names_file (setting.Rows kind) = true
names_file setting.Script = true
names_file setting.Output = true
names_file other = false

-- what a picture is drawn in by a name: Markdown with its texts escaped, or the style of that name
abbrev pub drawn_named : List ℕ → Option Drawn
drawn_named name = if bytes_eq name (codes "markdown") then Some drawn.Markdown else option_map drawn.Style (style_named name)

-- a byte may part the fields of CSV: one of ASCII, but no quote and none that ends lines
abbrev pub may_part : ℕ → Bool
may_part byte = nat_le byte 127 && not ((byte == 34) || ((byte == 10) || (byte == 13)))

-- the only one of some bytes, where it may part fields
abbrev pub sole_separator : List ℕ → Option ℕ
sole_separator [] = None
sole_separator (byte ∷ []) = if may_part byte then Some byte else None
sole_separator (byte ∷ next ∷ bytes) = None

-- the separator of a name: `tab`, or itself
abbrev pub separator_of : List ℕ → Option ℕ
separator_of name = if bytes_eq name (codes "tab") then Some 9 else sole_separator name

-- the options that read a file of rows, as its name ends
abbrev pub read_by : List ℕ → Option (List ℕ)
read_by name =
    if ends_with ◌==◌ name (codes ".csv") then Some (codes "--csv")
    else (if ends_with ◌==◌ name (codes ".tsv") then Some (codes "--separator tab --csv")
    else (if ends_with ◌==◌ name (codes ".json") then Some (codes "--json")
    else (if ends_with ◌==◌ name (codes ".jsonl") then Some (codes "--json") else None)))
