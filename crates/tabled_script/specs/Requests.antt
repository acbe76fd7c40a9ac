-- What arguments ask for, as a whole.
use Rattle.std.specs.Prelude.{◌≡◌, ℕ, ◌&&◌, ◌||◌, Bool, true, false, List, [], ◌∷◌, codes, if◌then◌else◌, map, not, Option, None, Some}
use Rattle.std.specs.List.{find}
use Rattle.std.specs.Option.{is_some, option_and_then, option_map, unwrap_or}
use Rattle.std.specs.String.{string_bytes}
use Rattle.tabled_csv.specs.Grammar.{Dialect}
use Rattle.tabled_draw.specs.Styles.{ascii}
use Rattle.tabled_json.specs.declared.form.Layout.{Layout}
use Rattle.tabled_json.specs.declared.form.Layout.TheVariants as layout
use Rattle.tabled_json.specs.declared.form.Values.{Values}
use Rattle.tabled_json.specs.declared.form.Values.TheVariants as values
use Rattle.tabled_script.specs.Aligners.{Aligner, aligner, aligner_of, listed}
use Rattle.tabled_script.specs.Arguments.{Asked, is_set}
use Rattle.tabled_script.specs.declared.arguments.Next.{Next}
use Rattle.tabled_script.specs.declared.arguments.Next.TheVariants as next
use Rattle.tabled_script.specs.declared.form.Form.{Form}
use Rattle.tabled_script.specs.declared.form.Form.TheVariants as form
use Rattle.tabled_script.specs.declared.invocation.FormParts.{FormParts}
use Rattle.tabled_script.specs.declared.refusal.Refusal.{Refusal}
use Rattle.tabled_script.specs.declared.refusal.Refusal.TheVariants.{Contradictory, Failed, Misused, NoCsv, NoValue, NotText, OutOfMemory, Terminal}
use Rattle.tabled_script.specs.declared.request.Format.{Format}
use Rattle.tabled_script.specs.declared.request.Format.TheVariants as format
use Rattle.tabled_script.specs.declared.request.Source.{Source}
use Rattle.tabled_script.specs.declared.setting.Drawn.{Drawn}
use Rattle.tabled_script.specs.declared.setting.Drawn.TheVariants as drawn
use Rattle.tabled_script.specs.declared.setting.Kind.{Kind}
use Rattle.tabled_script.specs.declared.setting.Kind.TheVariants as kind
use Rattle.tabled_script.specs.declared.setting.Setting.{Setting}
use Rattle.tabled_script.specs.declared.setting.Setting.TheVariants as setting
use Rattle.tabled_script.specs.declared.setting.FormName.{FormName}
use Rattle.tabled_script.specs.declared.setting.FormName.TheVariants as written

-- no argument: the script of standard input, and its table as a script
abbrev pub nothing_asked : Asked
nothing_asked = record {
  next = next.Option;
  written = None;
  draws = false;
  drawn = None;
  alignments = None;
  width = None;
  columns = None;
  sources = [];
  separator = None;
  no_quotes = false;
  reads_csv = false;
  to_separator = None;
  strings = false;
  header = None;
  caption = None;
  script = None;
  output = None;
  reads_input = false;
  steps = [];
  step = [];
  checks_steps = false;
}

-- the settings that say what a table is written as, in the order in which they are named
abbrev pub settings_of_forms : List Setting
settings_of_forms = setting.Form ∷ setting.Header ∷ setting.Caption ∷ setting.Style ∷ setting.Picture ∷ setting.Alignments ∷ setting.Width ∷ setting.ToSeparator ∷ setting.Strings ∷ []

-- the first of them that is set
abbrev pub deciding : Asked → Option Setting
deciding asked = find (λ s. is_set s asked) settings_of_forms

-- what a table is written as where a setting decides it
abbrev pub written_by : Option Setting → Option FormName → FormName
written_by None how = written.Script
written_by (Some setting.Form) how = unwrap_or how written.Script
written_by (Some setting.ToSeparator) how = written.Csv
written_by (Some setting.Strings) how = written.Json
written_by (Some setting.Header) how = written.Html
written_by (Some setting.Caption) how = written.Html
written_by (Some other) how = written.Picture

-- what the table is written as
abbrev pub written_of : Asked → FormName
written_of asked = written_by (deciding asked) asked.written

-- the setting says how HTML is written
abbrev pub says_html : Setting → Bool
says_html setting.Header = true
says_html setting.Caption = true
says_html setting.Alignments = true
says_html _ = false

-- what is written so may be asked for with a setting
abbrev pub goes_with : FormName → Setting → Bool
goes_with _ setting.Form = true
goes_with written.Script _ = false
goes_with written.Picture setting.ToSeparator = false
goes_with written.Picture setting.Strings = false
goes_with written.Picture setting.Header = false
goes_with written.Picture setting.Caption = false
goes_with written.Picture _ = true
goes_with written.Csv setting.ToSeparator = true
goes_with written.Csv _ = false
goes_with written.Json setting.Strings = true
goes_with written.Json _ = false
goes_with written.JsonLines setting.Strings = true
goes_with written.JsonLines _ = false
goes_with written.Html setting = says_html setting
goes_with written.HtmlPage setting = says_html setting

-- it is Markdown that is drawn
abbrev pub is_markdown : Option Drawn → Bool
is_markdown (Some drawn.Markdown) = true
is_markdown other = false

-- the setting says something of what is drawn: a width says nothing of Markdown, whose rows are lines
abbrev pub says_something : Asked → Setting → Bool
says_something asked setting.Width = not (is_markdown asked.drawn)
says_something asked other = true

-- two settings that contradict each other
abbrev pub contradiction : Asked → Option (Setting × Setting)
contradiction asked =
    option_and_then
    (λ first. option_map (λ other. (first, other)) (find (λ s. is_set s asked && not (goes_with (written_of asked) s && says_something asked s)) settings_of_forms))
    (deciding asked)

-- the setting whose value is lacking
abbrev pub awaited : Next → Option Setting
awaited (next.Value setting) = Some setting
awaited other = None

-- what is written so is CSV
abbrev pub writes_csv : FormName → Bool
writes_csv written.Csv = true
writes_csv other = false

-- the setting that says how CSV is read or parted, where there is none
abbrev pub lacks_csv : Asked → Option Setting
lacks_csv asked =
    if asked.reads_csv then None
    else (if asked.no_quotes then Some setting.NoQuotes
    else (if is_some asked.separator && not (writes_csv (written_of asked)) then Some setting.Separator else None))

-- what is asked for lacks a value or a file of CSV, or contradicts itself, or there is no memory for it
abbrev pub IsUnmade : Asked → Refusal → Type 0
IsUnmade asked (NoValue setting) = awaited asked.next ≡ Some setting
IsUnmade asked (Contradictory first other) = contradiction asked ≡ Some (first, other)
IsUnmade asked (NoCsv setting) = lacks_csv asked ≡ Some setting
IsUnmade asked OutOfMemory = Unit {0}
IsUnmade asked (Misused misuse text) = ⊥
IsUnmade asked NotText = ⊥
IsUnmade asked Terminal = ⊥
IsUnmade asked (Failed name failure) = ⊥

-- what a picture is drawn in: the style ascii, unless another one is asked for
abbrev pub drawn_of : Asked → Drawn
drawn_of asked = unwrap_or asked.drawn (drawn.Style ascii)

-- how many columns a picture has at most: those that are asked for, or those of the terminal that it is written to
abbrev pub width_of : Asked → Option ℕ
width_of asked = if is_some asked.width || is_some asked.output then asked.width else asked.columns

-- what parts the fields of the files that are read
abbrev pub separator_of : Asked → ℕ
separator_of asked = unwrap_or asked.separator 44

-- how the records of the files of CSV stand in them
abbrev pub dialect_of : Asked → Dialect
dialect_of asked = record { separator = separator_of asked; quoting = not asked.no_quotes }

-- what parts the fields of CSV that is written
abbrev pub to_separator_of : Asked → ℕ
to_separator_of asked = unwrap_or asked.to_separator (separator_of asked)

-- what texts are as values of JSON: bare where they may be, unless strings are asked for
abbrev pub values_of : Asked → Values
values_of asked = if asked.strings then values.Strings else values.Bare

-- it is JSON, in this layout
abbrev pub IsJson : FormName → Layout → Type 0
IsJson written.Json laid = laid ≡ layout.Array
IsJson written.JsonLines laid = laid ≡ layout.Lines
IsJson _ laid = ⊥

-- it is HTML, and whether that is a page of its own
abbrev pub IsHtml : FormName → Bool → Type 0
IsHtml written.Html is_whole = is_whole ≡ false
IsHtml written.HtmlPage is_whole = is_whole ≡ true
IsHtml _ is_whole = ⊥

-- how a table is to be written: as what, and drawn in what, how wide, how aligned, parted by what, with which values, and with how many rows of header under which caption
pub record Writing : Type 0 where
  pub how : FormName
  pub look : Drawn
  pub width : Option ℕ
  pub alignments : Aligner
  pub separator : ℕ
  pub values : Values
  pub header : ℕ
  pub caption : Option (List ℕ)

-- how a table is to be written by what was found of it
abbrev pub writing_in : FormParts → Writing
writing_in parts = record {
  how = parts.written;
  look = parts.look;
  width = parts.width;
  alignments = aligner parts.alignments;
  separator = parts.separator;
  values = parts.values;
  header = parts.header;
  caption = option_map string_bytes parts.caption;
}

-- the form has what is said of it
abbrev pub IsForm : Writing → Form → Type 0
IsForm writing form.Script = writing.how ≡ written.Script
IsForm writing (form.Picture style alignments) = (writing.how ≡ written.Picture) × (writing.look ≡ drawn.Style style) × (writing.width ≡ None) × (writing.alignments ≡ aligner alignments)
IsForm writing (form.NarrowPicture width style alignments) =
    (writing.how ≡ written.Picture) × (writing.look ≡ drawn.Style style) × (writing.width ≡ Some width) × (writing.alignments ≡ aligner alignments)
IsForm writing (form.Markdown alignments) = (writing.how ≡ written.Picture) × (writing.look ≡ drawn.Markdown) × (writing.alignments ≡ aligner alignments)
IsForm writing (form.Csv byte) = (writing.how ≡ written.Csv) × (writing.separator ≡ byte)
IsForm writing (form.Json laid values) = IsJson writing.how laid × (writing.values ≡ values)
IsForm writing (form.Html page) =
    IsHtml writing.how page.is_whole × (writing.header ≡ page.header) × (writing.caption ≡ option_map string_bytes page.caption) × (writing.alignments ≡ aligner page.alignments)

-- how columns are aligned: by no list where that isn't asked for
abbrev pub aligner_asked : Asked → Aligner
aligner_asked asked = unwrap_or (option_and_then aligner_of asked.alignments) (listed [])

-- how the table that is asked for is to be written
abbrev pub writing_of : Asked → Writing
writing_of asked = record {
  how = written_of asked;
  look = drawn_of asked;
  width = width_of asked;
  alignments = aligner_asked asked;
  separator = to_separator_of asked;
  values = values_of asked;
  header = unwrap_or asked.header 0;
  caption = asked.caption;
}

-- how the rows of a file are read
abbrev pub format_of : Dialect → Kind → Format
format_of dialect kind.Csv = format.Csv dialect
format_of dialect kind.Json = format.Json

-- a source as it is asked for: its format, its name, and nothing of its bytes
abbrev pub named_source : Source → Format × (List ℕ × List ℕ)
named_source source = (source.format, (string_bytes source.name, source.bytes.items))

-- the file of the script: the one that is asked for, or standard input where there is no file of rows
abbrev pub script_of : Option (List ℕ) → Bool → Option (List ℕ)
script_of None true = Some (codes "-")
script_of script is_alone = script

-- files of rows, of which no byte is read
abbrev pub unread_files : Dialect → List (Kind × List ℕ) → List (Format × (List ℕ × List ℕ))
unread_files dialect files = map (λ file. (format_of dialect file.0, (file.1, []))) files

-- the files of rows that are asked for, and nothing of their bytes
abbrev pub files_of : Asked → List (Format × (List ℕ × List ℕ))
files_of asked = unread_files (dialect_of asked) asked.sources
