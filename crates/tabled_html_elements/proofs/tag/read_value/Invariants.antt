use Rattle.std.proofs.Common.{◌≡◌, ◌≤◌, List, length, ℕ}
use Rattle.tabled_html_reading.specs.Tokenizing.{Tag, tokens_from}
use Rattle.tabled_html_reading.specs.Tokenizing.State.{AttributeValue}
use Rattle.tabled_html_elements.proofs.tag.read_value.Given as goal

abbrev pub invariant-value : goal.invariant-value
invariant-value l = record {
  read : (t : Tag) (name : List ℕ) → tokens_from l.fn.bytes (AttributeValue t name l.fn.value.items) ≡ tokens_from l.rest (AttributeValue t name l.value.items);
  shorter : length l.rest ≤ length l.fn.bytes;
}

abbrev pub decreases-value : goal.decreases-value
decreases-value l = length l.rest
