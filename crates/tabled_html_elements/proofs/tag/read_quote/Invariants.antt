use Rattle.std.proofs.Common.{◌≡◌, ◌≤◌, List, length, ℕ}
use Rattle.tabled_html_reading.specs.Tokenizing.{Tag, tokens_from}
use Rattle.tabled_html_reading.specs.Tokenizing.State.{BeforeAttributeValue}
use Rattle.tabled_html_elements.proofs.tag.read_quote.Given as goal

abbrev pub invariant-blanks : goal.invariant-blanks
invariant-blanks l = record {
  read : (t : Tag) (name : List ℕ) → tokens_from l.fn.bytes (BeforeAttributeValue t name) ≡ tokens_from l.rest (BeforeAttributeValue t name);
  shorter : length l.rest ≤ length l.fn.bytes;
}

abbrev pub decreases-blanks : goal.decreases-blanks
decreases-blanks l = length l.rest
