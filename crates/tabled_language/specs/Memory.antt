-- Where reading a script asks for memory.
use Rattle.std.specs.Prelude.{ℕ, Bool, true, false, ◌&&◌, ◌||◌, codes, List, [], ◌∷◌, ◌++◌, if◌then◌else◌, is_none, map}
use Rattle.std.specs.Str.{bytes_eq}
use Rattle.tabled_language.specs.Sizes.{reads_anchor}
use Rattle.tabled_language.specs.Verb.{Line, RecordLine, says_span, steps}
use Rattle.tabled_language.specs.Words.{behind, keeping_asks}
use Rattle.tabled_language.specs.Line.{ended_lines, is_plain, lines_of, says_line, says_words, words_of}
use Rattle.tabled_language.specs.Faults.{fault_of, is_in_place}

-- reading the texts after `span` asks for memory, where it is told which lines would stand in their place
abbrev pub span_asks : (Line → Bool) → List (List ℕ) → Bool
span_asks in_place texts = in_place (says_span texts) && keeping_asks reads_anchor texts

-- reading the texts after the verb of a step does
abbrev pub step_asks : List ℕ → List (List ℕ) → Bool
step_asks verb texts = keeping_asks (behind steps verb) texts

-- reading the texts after any verb but `row` does. A shape takes none
abbrev pub verb_asks : (Line → Bool) → List ℕ → List (List ℕ) → Bool
verb_asks in_place verb texts =
    if bytes_eq verb (codes "shape") then false
    else (if bytes_eq verb (codes "span") then span_asks in_place texts
    else step_asks verb texts)

-- reading words does, the first of them a verb
abbrev pub words_ask : (Line → Bool) → List (List ℕ) → Bool
words_ask in_place [] = false
words_ask in_place (verb ∷ texts) = if bytes_eq verb (codes "row") then in_place (RecordLine texts) else verb_asks in_place verb texts

-- reading a line does; one that isn't plain asks for its texts
abbrev pub line_asks : (Line → Bool) → List ℕ → Bool
line_asks in_place line = if is_plain line then words_ask in_place (words_of line) else true

-- a line as it is given: its bytes, or its words
pub data GivenLine : Type 0 where
  InBytes : List ℕ → GivenLine
  InWords : List (List ℕ) → GivenLine

-- what it says
abbrev pub says_given : GivenLine → Line
says_given (InBytes line) = says_line line
says_given (InWords words) = says_words words

-- reading it asks for memory
abbrev pub given_asks : (Line → Bool) → GivenLine → Bool
given_asks in_place (InBytes line) = line_asks in_place line
given_asks in_place (InWords words) = words_ask in_place words

-- reading lines after earlier ones does: one of them up to the first that is faulty by itself. The checks of the whole ask for none but where a span did
abbrev pub lines_ask : List Line → List GivenLine → Bool
lines_ask earlier [] = false
lines_ask earlier (line ∷ lines) = given_asks (is_in_place earlier) line || (is_none (fault_of earlier (says_given line)) && lines_ask (earlier ++ says_given line ∷ []) lines)

-- reading a script asks for memory before its first fault is found, or its end
abbrev pub asks_memory : List ℕ → Bool
asks_memory input = lines_ask [] (map InBytes (lines_of input))

-- the lines of bytes, and behind them those of words
abbrev pub given_lines : List ℕ → List (List (List ℕ)) → List GivenLine
given_lines input words = map InBytes (ended_lines input) ++ map InWords words

-- reading a script behind rows and before words does: the rows stand in memory
abbrev pub asks_between : List (List (List ℕ)) → List ℕ → List (List (List ℕ)) → Bool
asks_between rows input words = lines_ask (map RecordLine rows) (given_lines input words)
