-- The text so far is what the entries up to this one say of the word.
use Rattle.std.proofs.Common.{◌≡◌, take}
use Rattle.std.specs.String.{string_bytes}
use Rattle.tabled_help.specs.Said.{said_of}
use Rattle.tabled_help.proofs.said.said_of.Given as goal

abbrev pub invariant-loop-entry : goal.invariant-loop-entry
invariant-loop-entry l = string_bytes l.text ≡ said_of l.word (take l.entry-index l.entries)
