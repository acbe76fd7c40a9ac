-- Where it shows that bytes are no records, and why, as it is told.
use Rattle.std.specs.Fmt.{decimal}
use Rattle.std.specs.Prelude.{◌≡◌, ◌+◌, ◌-◌, ◌==◌, ℕ, List, [], ◌∷◌, ◌++◌, codes, if◌then◌else◌, length, take}
use Rattle.tabled_json.specs.declared.fault.Fault.{Fault}
use Rattle.tabled_json.specs.declared.fault.Fault.TheVariants.{BadEscape, BadNumber, BadUnicode, Closing, Comma, Comment, Control, Ended, NoArray, NoObject, NoWord, NotUtf8, SingleQuote, Unclosed, Unexpected}
use Rattle.tabled_texts.specs.declared.part_error.PartError.{PartError}
use Rattle.tabled_texts.specs.declared.part_error.PartError.TheVariants as part_error
use Rattle.tabled_json.specs.declared.fault.ReadError.{ReadError}
use Rattle.tabled_json.specs.declared.fault.ReadError.TheVariants.{Faulty, OutOfMemory}
use Rattle.tabled_texts.specs.Lines.{line_at}

-- the column behind bytes that begin in a column
abbrev pub column_behind : ℕ → List ℕ → ℕ
column_behind column [] = column
column_behind column (b ∷ bytes) = column_behind (if b == 10 then 1 else column + 1) bytes

-- in which column of its line the byte is from which on so many are left
abbrev pub column_at : List ℕ → ℕ → ℕ
column_at bytes left = column_behind 1 (take (length bytes - left) bytes)

-- a line and a column are those of one place in bytes
abbrev pub IsPlace : List ℕ → ℕ → ℕ → Type 0
IsPlace bytes line column = (left : ℕ) × (line ≡ line_at bytes left) × (column ≡ column_at bytes left)

-- where memory was not refused, there is a fault, in a line and a column
abbrev pub AtFault : (ℕ → ℕ → Fault → Type 0) → ReadError → Type 0
AtFault P (Faulty line column fault) = P line column fault
AtFault P OutOfMemory = Unit {0}

-- what is told of bytes that were not read: the fault, in the line and the column where so many bytes are left
abbrev pub IsTold : List ℕ → PartError Fault → ReadError → Type 0
IsTold bytes (part_error.Faulty fault left) told = told ≡ Faulty (line_at bytes left) (column_at bytes left) fault
IsTold bytes part_error.OutOfMemory told = told ≡ OutOfMemory

-- what is told of a fault
abbrev pub message_of : Fault → List ℕ
message_of NotUtf8 = codes "a text is not UTF-8"
message_of Ended = codes "the end comes too early"
message_of NoObject = codes "an object is wanted here"
message_of NoArray = codes "an array is wanted here"
message_of Comma = codes "a comma is not wanted here"
message_of Closing = codes "a closing bracket is not wanted here"
message_of SingleQuote = codes "a single quote is no quote of JSON"
message_of Comment = codes "JSON has no comments"
message_of NoWord = codes "a word that JSON does not have"
message_of Unexpected = codes "something else is wanted here"
message_of BadNumber = codes "a number is badly written"
message_of Unclosed = codes "a string is not closed"
message_of Control = codes "a control character stands in a string"
message_of BadUnicode = codes "\\u names no character"
message_of BadEscape = codes "a backslash has no meaning"

-- why bytes were not read, as it is told
abbrev pub text_of_error : ReadError → List ℕ
text_of_error (Faulty line column fault) = codes "line " ++ decimal line ++ codes ", column " ++ decimal column ++ codes ": " ++ message_of fault
text_of_error OutOfMemory = codes "out of memory"
