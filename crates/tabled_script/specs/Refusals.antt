-- Why a request isn't made of arguments, or isn't answered, and what is told then.
use Rattle.std.specs.Prelude.{◌≡◌, ◌⊎◌, ℕ, List, [], ◌∷◌, ◌++◌, String, codes, if◌then◌else◌, length, map, nat_le, Option, None, Some, Result, Ok, Err}
use Rattle.std.specs.Global.{Global}
use Rattle.std.specs.Io.KnownBytes.{Appends}
use Rattle.std.specs.List.{find, flat_map}
use Rattle.std.specs.Option.{option_or, unwrap_or}
use Rattle.std.specs.Str.{bytes_eq}
use Rattle.std.specs.String.{string_bytes}
use Rattle.std.specs.declared.io.ErrorKind.{ErrorKind}
use Rattle.std.specs.declared.io.ErrorKind.TheVariants.{IsADirectory, NotFound, PermissionDenied, StorageFull}
use Rattle.tabled_draw.specs.declared.style.TheConstants.Style.{NAMES}
use Rattle.tabled_help.specs.Near.{is_within}
use Rattle.tabled_script.specs.Arguments.{Asked, Blamed}
use Rattle.tabled_script.specs.Settings.{forms, name_of, options, read_by}
use Rattle.tabled_script.specs.Status.{failed, out_of_memory, refused}
use Rattle.tabled_script.specs.declared.refusal.Failure.{Failure}
use Rattle.tabled_script.specs.declared.refusal.Failure.TheVariants as failure
use Rattle.tabled_script.specs.declared.refusal.Misuse.{Misuse}
use Rattle.tabled_script.specs.declared.refusal.Misuse.TheVariants as misuse
use Rattle.tabled_script.specs.declared.refusal.Refusal.{Refusal}
use Rattle.tabled_script.specs.declared.refusal.Refusal.TheVariants.{Contradictory, Failed, Misused, NoCsv, NoValue, NotText, OutOfMemory, Terminal}
use Rattle.tabled_script.specs.declared.setting.Setting.{Setting}
use Rattle.tabled_script.specs.declared.setting.Setting.TheVariants as setting

-- what is blamed is refused
pub record Refuses (blamed : Blamed) (refused : Refusal) : Type 0 where
  pub text : String Global
  pub names : string_bytes text ≡ blamed.1
  pub is : refused ≡ Misused blamed.0 text

-- what is blamed is refused, or there was no memory for that
abbrev pub IsRefused : Blamed → Refusal → Type 0
IsRefused blamed refused = (refused ≡ OutOfMemory) ⊎ Refuses blamed refused

-- an argument is taken, or is refused for this reason, or there was no memory for that
abbrev pub Takes : Result Asked Blamed → Result Asked Refusal → Type 0
Takes expected (Ok after) = expected ≡ Ok after
Takes expected (Err refused) = (refused ≡ OutOfMemory) ⊎ ((blamed : Blamed) × (expected ≡ Err blamed) × Refuses blamed refused)

-- the status that a refusal ends with
abbrev pub status_of : Refusal → ℕ
status_of (Misused misuse text) = refused
status_of (NoValue setting) = refused
status_of (Contradictory first other) = refused
status_of (NoCsv setting) = refused
status_of NotText = refused
status_of Terminal = refused
status_of (Failed name why) = failed
status_of OutOfMemory = out_of_memory

-- a writer got the first of these bytes: all, some or none
pub record GetsFirst (old new : Option (List ℕ)) (bytes : List ℕ) : Type 0 where
  pub sent : List ℕ
  pub unsent : List ℕ
  pub parts : bytes ≡ sent ++ unsent
  pub got : Appends old new sent

-- why a file can't be read or written, by the kind of an error
abbrev pub failure_of : ErrorKind → Failure
failure_of NotFound = failure.Missing
failure_of PermissionDenied = failure.Forbidden
failure_of IsADirectory = failure.Folder
failure_of StorageFull = failure.Full
failure_of _ = failure.Other

-- the reason, in words
abbrev pub failure_text : Failure → List ℕ
failure_text failure.Missing = codes "No such file or directory"
failure_text failure.Forbidden = codes "Permission denied"
failure_text failure.Folder = codes "Is a directory"
failure_text failure.Full = codes "No space left on device"
failure_text failure.Other = codes "reading or writing failed"

-- that there is nothing of some kind with a name, and which there are, each behind a blank
abbrev pub names_text : List ℕ → List ℕ → List ℕ → List ℕ
names_text kind name names = codes "there is no " ++ (kind ++ (32 ∷ name ++ (58 ∷ names)))

-- how a table is written in a form that has a name elsewhere
abbrev pub other_form : List ℕ → List ℕ
other_form name = if bytes_eq name (codes "tsv") then codes "; tsv is --to csv --to-separator tab" else []

-- what is wrong with a value
abbrev pub value_text : Setting → List ℕ → List ℕ
value_text setting.Style name = names_text (codes "style") name (flat_map (λ style. 32 ∷ style.now) NAMES)
value_text setting.Form name = names_text (codes "form") name (flat_map (λ form. 32 ∷ form.0) forms) ++ other_form name
value_text setting.Alignments value = codes "columns are aligned by letters, as llr, by auto, or by names, as Price=r,Region=c, not by " ++ value
value_text setting.Width number = number ++ codes " is no number of columns"
value_text setting.Columns number = number ++ codes " is no number of columns"
value_text setting.Header number = number ++ codes " is no number of rows"
value_text setting.Caption text = name_of setting.Caption ++ codes " takes any value"
value_text setting.Separator name = name ++ codes " is no separator: one character of ASCII, but no quote, or tab"
value_text setting.ToSeparator name = name ++ codes " is no separator: one character of ASCII, but no quote, or tab"
value_text setting.Picture value = name_of setting.Picture ++ codes " takes no value"
value_text setting.NoQuotes value = name_of setting.NoQuotes ++ codes " takes no value"
value_text setting.Strings value = name_of setting.Strings ++ codes " takes no value"
value_text setting.Checks value = name_of setting.Checks ++ codes " takes no value"
value_text file name = codes "no name of a file stands behind " ++ name_of file

-- the options, and those of what is told in place of a table
abbrev pub known_options : List (List ℕ)
known_options = map (λ option. option.0) options ++ (codes "--help" ∷ codes "--explain" ∷ codes "--version" ∷ [])

-- the first of some options that a word becomes by one change, or, where it has five bytes or more, by two
unfoldable pub meant_in : List ℕ → List (List ℕ) → Option (List ℕ)
meant_in word options =
    if nat_le 5 (length word) then option_or (find (is_within 1 word) options) (find (is_within 2 word) options)
    else find (is_within 1 word) options

-- the option that may be meant by one that isn't known here, or where they are listed
abbrev pub cure_of : List ℕ → Option (List ℕ) → List ℕ
cure_of option None = codes ": --help lists them"
cure_of option (Some meant) = if bytes_eq meant option then codes " here: it stands first" else codes "; maybe " ++ (meant ++ codes " is meant")

-- the option that may be meant by one that isn't known: none by a single letter, which is like each other one
unfoldable pub meant_by : List ℕ → Option (List ℕ)
meant_by option = if nat_le (length option) 2 then None else meant_in option known_options

-- that there is no such option
abbrev pub option_text : List ℕ → List ℕ
option_text option = codes "there is no option " ++ (option ++ cure_of option (meant_by option))

-- the options that read a file, as its name ends
unfoldable pub reading_options : List ℕ → List ℕ
reading_options name = unwrap_or (read_by name) (codes "--csv")

-- that a step begins with the name of a file, and how that is read
abbrev pub file_text : List ℕ → List ℕ
file_text name = name ++ (codes " is a file: " ++ (reading_options name ++ (32 ∷ name)))

-- that an option stands where another one has the name of a file, and how a file of that name is named
abbrev pub option_as_file_text : List ℕ → List ℕ → List ℕ
option_as_file_text wanting option = wanting ++ (codes " wants a file, and " ++ (option ++ (codes " is an option: ./" ++ (option ++ codes " is a file of that name"))))

-- what is wrong with an argument, or this part of it
abbrev pub misuse_text : Misuse → List ℕ → List ℕ
misuse_text misuse.NoOption option = option_text option
misuse_text (misuse.WrongValue setting) value = value_text setting value
misuse_text (misuse.NeedlessValue setting) value = name_of setting ++ codes " takes no value"
misuse_text (misuse.Repeated setting) value = name_of setting ++ codes " stands here twice"
misuse_text misuse.InputRepeated name = codes "standard input is read once: - stands here twice"
misuse_text (misuse.OptionAsFile setting) option = option_as_file_text (name_of setting) option
misuse_text misuse.FileAsStep name = file_text name
misuse_text misuse.NoColumns word = codes "wrap " ++ (word ++ codes " would leave no text: it takes a width of 1 or more")

-- what is told of a refusal
abbrev pub refusal_text : Refusal → List ℕ
refusal_text (Misused misuse text) = misuse_text misuse (string_bytes text)
refusal_text (NoValue setting) = name_of setting ++ codes " lacks its value"
refusal_text (Contradictory first other) = name_of first ++ (codes " and " ++ (name_of other ++ codes " contradict each other"))
refusal_text (NoCsv setting) = name_of setting ++ codes " says how the files of --csv are read, and there is none"
refusal_text NotText = codes "an argument isn't UTF-8"
refusal_text Terminal = codes "a script comes in by standard input, which is a terminal here: write ./tabled_script [OPTIONS] [STEP [then STEP]..] < SCRIPT; --help tells the rest"
refusal_text (Failed name why) = string_bytes name ++ (codes ": " ++ failure_text why)
refusal_text OutOfMemory = codes "memory ran out"

-- the line that tells a refusal, behind the program's name
abbrev pub refusal_line : Refusal → List ℕ
refusal_line refusal = codes "tabled_script: " ++ (refusal_text refusal ++ 10 ∷ [])
