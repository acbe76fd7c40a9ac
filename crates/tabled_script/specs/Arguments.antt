-- What the arguments of the program ask for: options, some with a value behind them, and then the words of steps.
use Rattle.std.specs.Prelude.{ℕ, Bool, true, false, ◌==◌, ◌&&◌, ◌||◌, nat_lt, not, if◌then◌else◌, List, [], ◌∷◌, ◌++◌, codes, length, slice_index, Option, None, Some, Result, Ok, Err, String, map}
use Rattle.std.specs.Global.{Global, Vec}
use Rattle.std.specs.List.{after_first, before_first, position_or_len}
use Rattle.std.specs.Option.{is_some, option_map, unwrap_or}
use Rattle.std.specs.Str.{bytes_eq}
use Rattle.std.specs.String.{string_bytes}
use Rattle.tabled_language.specs.Word.{length_of}
use Rattle.tabled_script.specs.Aligners.{aligning, is_equals}
use Rattle.tabled_script.specs.Settings.{drawn_named, forms, is_csv, named_in, names_file, names_input, options, read_by, separator_of, takes_value}
use Rattle.tabled_script.specs.declared.arguments.Next.{Next}
use Rattle.tabled_script.specs.declared.arguments.Next.TheVariants as next
use Rattle.tabled_script.specs.declared.refusal.Misuse.{Misuse}
use Rattle.tabled_script.specs.declared.refusal.Misuse.TheVariants as misuse
use Rattle.tabled_script.specs.declared.setting.Drawn.{Drawn}
use Rattle.tabled_script.specs.declared.setting.Kind.{Kind}
use Rattle.tabled_script.specs.declared.setting.Setting.{Setting}
use Rattle.tabled_script.specs.declared.setting.Setting.TheVariants as setting
use Rattle.tabled_script.specs.declared.setting.FormName.{FormName}

-- what was asked for so far, and what the next argument is
pub record Asked : Type 0 where
  pub next : Next
  pub written : Option FormName
  pub draws : Bool
  pub drawn : Option Drawn
  pub alignments : Option (List ℕ)
  pub width : Option ℕ
  pub columns : Option ℕ
  pub sources : List (Kind × List ℕ)
  pub separator : Option ℕ
  pub no_quotes : Bool
  pub reads_csv : Bool
  pub to_separator : Option ℕ
  pub strings : Bool
  pub header : Option ℕ
  pub caption : Option (List ℕ)
  pub script : Option (List ℕ)
  pub output : Option (List ℕ)
  pub reads_input : Bool
  -- the steps that ended, and the words of the next one
  pub steps : List (List (List ℕ))
  pub step : List (List ℕ)
  pub checks_steps : Bool

-- why an argument asks for nothing, and the part of it that does
abbrev pub Blamed : Type 0
Blamed = Misuse × List ℕ

-- a setting has its value
abbrev pub is_set : Setting → Asked → Bool
is_set setting.Form asked = is_some asked.written
is_set setting.Picture asked = asked.draws
is_set setting.Style asked = is_some asked.drawn
is_set setting.Alignments asked = is_some asked.alignments
is_set setting.Width asked = is_some asked.width
is_set setting.Columns asked = is_some asked.columns
is_set (setting.Rows kind) asked = false
is_set setting.Separator asked = is_some asked.separator
is_set setting.NoQuotes asked = asked.no_quotes
is_set setting.ToSeparator asked = is_some asked.to_separator
is_set setting.Strings asked = asked.strings
is_set setting.Header asked = is_some asked.header
is_set setting.Caption asked = is_some asked.caption
is_set setting.Script asked = is_some asked.script
is_set setting.Output asked = is_some asked.output
is_set setting.Checks asked = asked.checks_steps

-- the file of this name is standard input
abbrev pub is_input : List ℕ → Bool
is_input name = bytes_eq name (codes "-")

-- the word is an option
abbrev pub is_option : List ℕ → Bool
is_option word = is_some (named_in options word)

-- the name of a file, if it is one
abbrev pub file_named : List ℕ → Option (List ℕ)
file_named name = if length name == 0 then None else Some name

-- what is asked for with a setting at what its value means, which may be nothing
abbrev pub set_to : Setting → List ℕ → Asked → Asked
set_to setting.Form name asked = record asked { written = named_in forms name }
set_to setting.Style name asked = record asked { drawn = drawn_named name }
set_to setting.Alignments value asked = record asked { alignments = aligning value }
set_to setting.Width number asked = record asked { width = length_of number }
set_to setting.Columns number asked = record asked { columns = length_of number }
set_to (setting.Rows kind) name asked = record asked { sources = asked.sources ++ (kind, name) ∷ []; reads_input = asked.reads_input || is_input name; reads_csv = asked.reads_csv || is_csv kind }
set_to setting.Separator name asked = record asked { separator = separator_of name }
set_to setting.ToSeparator name asked = record asked { to_separator = separator_of name }
set_to setting.Header number asked = record asked { header = length_of number }
set_to setting.Caption text asked = record asked { caption = Some text }
set_to setting.Script name asked = record asked { script = file_named name; reads_input = asked.reads_input || is_input name }
set_to setting.Output name asked = record asked { output = file_named name }
set_to setting.Picture value asked = asked
set_to setting.NoQuotes value asked = asked
set_to setting.Strings value asked = asked
set_to setting.Checks value asked = asked

-- a setting has a value: a file of rows a name, and another one what the value means
abbrev pub has_taken : Setting → List ℕ → Asked → Bool
has_taken (setting.Rows kind) name asked = not (length name == 0)
has_taken setting value asked = is_set setting asked

-- the next argument is this
abbrev pub expect : Next → Asked → Asked
expect what asked = record asked { next = what }

-- what is asked for once a setting is set to a value, if it can have that
abbrev pub with_first_value : Setting → List ℕ → Asked → Result Asked Blamed
with_first_value setting value asked =
    if has_taken setting value (set_to setting value asked) then Ok (expect next.Option (set_to setting value asked))
    else Err (misuse.WrongValue setting, value)

-- the value names standard input as a file that is read, and that is read already
abbrev pub reads_input_again : Setting → List ℕ → Asked → Bool
reads_input_again setting value asked = asked.reads_input && (names_input setting && is_input value)

-- what is asked for once a setting is set to a value: once at most, standard input is read once, and no option is the name of a file
abbrev pub with_value : Setting → List ℕ → Asked → Result Asked Blamed
with_value setting value asked =
    if is_set setting asked then Err (misuse.Repeated setting, value)
    else (if reads_input_again setting value asked then Err (misuse.InputRepeated, value)
    else (if names_file setting && is_option value then Err (misuse.OptionAsFile setting, value)
    else with_first_value setting value asked))

-- what is asked for once an option stands there by itself: what is behind it is its value, unless it takes none
abbrev pub with_option : Option Setting → List ℕ → Asked → Result Asked Blamed
with_option None option asked = Err (misuse.NoOption, option)
with_option (Some setting.Picture) option asked = Ok (record asked { draws = true })
with_option (Some setting.NoQuotes) option asked = Ok (record asked { no_quotes = true })
with_option (Some setting.Strings) option asked = Ok (record asked { strings = true })
with_option (Some setting.Checks) option asked = Ok (record asked { checks_steps = true })
with_option (Some setting) option asked = Ok (expect (next.Value setting) asked)

-- what is asked for once an option and its value stand there as one
abbrev pub with_option_and_value : Option Setting → List ℕ → List ℕ → Asked → Result Asked Blamed
with_option_and_value None option value asked = Err (misuse.NoOption, option)
with_option_and_value (Some setting) option value asked = if takes_value setting then with_value setting value asked else Err (misuse.NeedlessValue setting, value)

-- what is asked for once there is an argument that begins with a minus: `--` ends the options, and `=` stands between an option and its value
abbrev pub with_dashed : List ℕ → Asked → Result Asked Blamed
with_dashed argument asked =
    if bytes_eq argument (codes "--") then Ok (expect next.Word asked)
    else (if nat_lt (position_or_len is_equals argument) (length argument)
    then with_option_and_value (named_in options (before_first is_equals argument)) (before_first is_equals argument) (after_first is_equals argument) asked
    else with_option (named_in options argument) argument asked)

-- files by their names
abbrev pub named_files : List (Kind × String Global) → List (Kind × List ℕ)
named_files files = map (λ file. (file.0, string_bytes file.1)) files

-- the words of steps
abbrev pub words_of : List (Vec (String Global)) → List (List (List ℕ))
words_of steps = map (λ words. map string_bytes words.items) steps

-- the words of a step, if it has any
abbrev pub step_of : List (List ℕ) → List (List (List ℕ))
step_of [] = []
step_of (word ∷ words) = (word ∷ words) ∷ []

-- what is asked for once a step ends
abbrev pub step_ended : Asked → Asked
step_ended asked = record asked { steps = asked.steps ++ step_of asked.step; step = [] }

-- the text that a word of a step stands for: `\then` for `then`, which by itself ends a step
abbrev pub text_of_word : List ℕ → List ℕ
text_of_word word = if bytes_eq word (codes "\\then") then codes "then" else word

-- the word behind these is a width that has room for no text
abbrev pub leaves_no_text : List (List ℕ) → List ℕ → Bool
leaves_no_text [] word = false
leaves_no_text (verb ∷ []) word = bytes_eq verb (codes "wrap") && unwrap_or (option_map (λ n. n == 0) (length_of word)) false
leaves_no_text (verb ∷ next ∷ others) word = false

-- what is asked for with one more word: `then` ends a step, and any other is its next word, the first no file's name
abbrev pub with_word : List ℕ → Asked → Result Asked Blamed
with_word word asked =
    if bytes_eq word (codes "then") then Ok (expect next.Word (step_ended asked))
    else (if (length asked.step == 0) && is_some (read_by word) then Err (misuse.FileAsStep, word)
    else (if leaves_no_text asked.step word then Err (misuse.NoColumns, word)
    else Ok (record asked { next = next.Word; step = asked.step ++ text_of_word word ∷ [] })))

-- what is asked for once an argument is taken as what it is, or why it asks for nothing
abbrev pub taken_as : Next → List ℕ → Asked → Result Asked Blamed
taken_as next.Option argument asked = if slice_index argument 0 == 45 then with_dashed argument asked else with_word argument asked
taken_as (next.Value setting) value asked = with_value setting value asked
taken_as next.Word word asked = with_word word asked

-- what is asked for once an argument is taken, or why it asks for nothing
abbrev pub taken : List ℕ → Asked → Result Asked Blamed
taken argument asked = taken_as asked.next argument asked
