-- How the words of a line are read, from the front, and where that asks for memory.
use Rattle.std.specs.Prelude.{ℕ, ℤ, Bool, false, ◌||◌, List, [], ◌∷◌, ◌==◌, if◌then◌else◌, Option, None, Some, Result, Ok, Err, is_ok}
use Rattle.std.specs.Option.{is_some}
use Rattle.std.specs.Str.{bytes_eq}
use Rattle.tabled_language.specs.declared.fault.Fault.{Fault}
use Rattle.tabled_language.specs.declared.fault.Fault.TheVariants.{UnknownWord, WordCount, NumberRange}
use Rattle.tabled_language.specs.Word.{integer_of, length_of, number_of}

-- what was read from the front of texts, with the texts left, or the fault that was met
abbrev pub Read : Type 0 → Type 0
Read A = Result (A × List (List ℕ)) Fault

-- a way to read from the front of texts: what it gives, and whether it asks for memory before it ends
pub record Reading (A : Type 0) : Type 0 where
  pub reads : List (List ℕ) → Read A
  pub asks : List (List ℕ) → Bool

-- a value, and no word read
abbrev pub gives : {A : Type 0} → A → Reading A
gives x = record { reads = λ texts. Ok (x, texts); asks = λ texts. false }

-- a fault
abbrev pub fails : {A : Type 0} → Fault → Reading A
fails fault = record { reads = λ texts. Err fault; asks = λ texts. false }

-- what is read next, by what was read
abbrev pub reads_next : {A B : Type 0} → (A → Reading B) → Read A → Read B
reads_next next (Ok read) = (next read.0).reads read.1
reads_next next (Err fault) = Err fault

-- this asks for memory
abbrev pub asks_next : {A B : Type 0} → (A → Reading B) → Read A → Bool
asks_next next (Ok read) = (next read.0).asks read.1
asks_next next (Err fault) = false

-- one reading, and then another by what it gave: memory is asked for where either asks for some
abbrev pub then_reads : {A B : Type 0} → Reading A → (A → Reading B) → Reading B
then_reads first next = record { reads = λ texts. reads_next next (first.reads texts); asks = λ texts. first.asks texts || asks_next next (first.reads texts) }

-- what is read twice
abbrev pub reads_two : {A : Type 0} → Reading A → Reading (A × A)
reads_two reading = then_reads reading (λ first. then_reads reading (λ second. gives (first, second)))

-- a reading whose value is put in memory: this is asked for once it is read
abbrev pub kept : {A : Type 0} → Reading A → Reading A
kept reading = record { reads = reading.reads; asks = λ texts. reading.asks texts || is_ok (reading.reads texts) }

-- a value before others, or a fault where there is none or these are one
abbrev pub in_front : {A : Type 0} → Option A → Result (List A) Fault → Result (List A) Fault
in_front None told = Err NumberRange
in_front (Some x) (Ok xs) = Ok (x ∷ xs)
in_front (Some x) (Err fault) = Err fault

-- what words tell, each by itself, or a fault at the first that tells nothing
abbrev pub all_told : {A : Type 0} → (List ℕ → Option A) → List (List ℕ) → Result (List A) Fault
all_told tells [] = Ok []
all_told tells (word ∷ words) = in_front (tells word) (all_told tells words)

-- what was told, and no word left
abbrev pub with_none_left : {A : Type 0} → Result A Fault → Read A
with_none_left (Ok x) = Ok (x, [])
with_none_left (Err fault) = Err fault

-- what all words tell, of which there is at least one
abbrev pub read_all : {A : Type 0} → (List ℕ → Option A) → List (List ℕ) → Read (List A)
read_all tells [] = Err WordCount
read_all tells (word ∷ words) = with_none_left (all_told tells (word ∷ words))

-- this asks for memory where the first tells something
abbrev pub asks_all : {A : Type 0} → (List ℕ → Option A) → List (List ℕ) → Bool
asks_all tells [] = false
asks_all tells (word ∷ words) = is_some (tells word)

-- all words left, each of which tells something by itself
abbrev pub reads_all : {A : Type 0} → (List ℕ → Option A) → Reading (List A)
reads_all tells = record { reads = read_all tells; asks = asks_all tells }

-- what is read where no word is left is a value
abbrev pub read_or : {A : Type 0} → A → Reading A → List (List ℕ) → Read A
read_or x reading [] = Ok (x, [])
read_or x reading (text ∷ texts) = reading.reads (text ∷ texts)

-- this asks for no memory
abbrev pub asks_or : {A : Type 0} → Reading A → List (List ℕ) → Bool
asks_or reading [] = false
asks_or reading (text ∷ texts) = reading.asks (text ∷ texts)

-- a value where no word is left, and else what is read
abbrev pub reads_or : {A : Type 0} → A → Reading A → Reading A
reads_or x reading = record { reads = read_or x reading; asks = asks_or reading }

-- a word
abbrev pub first_word : List (List ℕ) → Read (List ℕ)
first_word [] = Err WordCount
first_word (text ∷ texts) = Ok (text, texts)

-- a word that is looked at as it stands
abbrev pub reads_word : Reading (List ℕ)
reads_word = record { reads = first_word; asks = λ texts. false }

-- a word that is kept as a text
abbrev pub reads_text : Reading (List ℕ)
reads_text = kept reads_word

-- a value, if there is one, and else a number that isn't in range
abbrev pub in_range : {A : Type 0} → Option A → Reading A
in_range None = fails NumberRange
in_range (Some x) = gives x

-- a number that a step may name
abbrev pub reads_number : Reading ℕ
reads_number = then_reads reads_word (λ text. in_range (number_of text))

-- such a number, with a minus before it or none
abbrev pub reads_integer : Reading ℤ
reads_integer = then_reads reads_word (λ text. in_range (integer_of text))

-- a number of at least 1 that a step may name
abbrev pub reads_positive_number : Reading ℕ
reads_positive_number = then_reads reads_number (λ n. if n == 0 then fails NumberRange else gives n)

-- a number that a shape or a span may name
abbrev pub reads_length : Reading ℕ
reads_length = then_reads reads_word (λ text. in_range (length_of text))

-- a number of at least 1 that a shape or a span may name
abbrev pub reads_positive_length : Reading ℕ
reads_positive_length = then_reads reads_length (λ n. if n == 0 then fails NumberRange else gives n)

-- words, and what is read after each of them
abbrev pub Choices : Type 0 → Type 0
Choices A = List (List ℕ × Reading A)

-- what is read after one of these words
abbrev pub behind : {A : Type 0} → Choices A → List ℕ → Reading A
behind [] word = fails UnknownWord
behind ((name, reading) ∷ others) word = if bytes_eq word name then reading else behind others word

-- one of these words, and what is read after it
abbrev pub reads_one_of : {A : Type 0} → Choices A → Reading A
reads_one_of choices = then_reads reads_word (behind choices)

-- the value that was read, where no word is left over
abbrev pub if_no_word_left : {A : Type 0} → Read A → Result A Fault
if_no_word_left (Ok (x, [])) = Ok x
if_no_word_left (Ok (x, text ∷ texts)) = Err WordCount
if_no_word_left (Err fault) = Err fault

-- what a reading gives of all of these texts
abbrev pub whole : {A : Type 0} → Reading A → List (List ℕ) → Result A Fault
whole reading texts = if_no_word_left (reading.reads texts)

-- what is read of all of these texts is kept: memory is asked for where the reading asks for some, or it is whole
abbrev pub keeping_asks : {A : Type 0} → Reading A → List (List ℕ) → Bool
keeping_asks reading texts = reading.asks texts || is_ok (whole reading texts)
