-- Where the lines of a script come from.
use Rattle.std.specs.Prelude.{ℕ, ◌-◌, List, [], if◌then◌else◌, get_or, nat_le}
use Rattle.tabled_language.specs.declared.origin.Origin.{Origin}
use Rattle.tabled_language.specs.declared.origin.Origin.TheVariants.{Row, Line as InLine, Words}
use Rattle.tabled_language.specs.Line.{ended_lines, says_line, says_words}
use Rattle.tabled_language.specs.Verb.{Line, RecordLine}

-- where the line of a number stands, where so many rows and then so many lines of bytes come before words. All are counted from 1
abbrev pub origin_of : ℕ → ℕ → ℕ → Origin
origin_of rows lines number =
    if nat_le number rows then Row number
    else (if nat_le (number - rows) lines then InLine (number - rows)
    else Words (number - rows - lines))

-- what is said there
abbrev pub said_at : List (List (List ℕ)) → List ℕ → List (List (List ℕ)) → Origin → Line
said_at rows input words (Row k) = RecordLine (get_or rows (k - 1) [])
said_at rows input words (InLine k) = says_line (get_or (ended_lines input) (k - 1) [])
said_at rows input words (Words k) = says_words (get_or words (k - 1) [])
