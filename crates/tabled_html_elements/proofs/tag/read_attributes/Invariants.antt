use Rattle.std.proofs.Common.{◌≡◌, ◌≤◌, length}
use Rattle.tabled_html_reading.specs.Tokenizing.{Tag, tokens_from}
use Rattle.tabled_html_reading.specs.Tokenizing.State.{BeforeAttributeName}
use Rattle.tabled_html_elements.proofs.tag.read_attributes.Given as goal

abbrev pub invariant-attributes : goal.invariant-attributes
invariant-attributes l = record {
  read : (t : Tag) → t.attributes ≡ l.fn.attributes.items → tokens_from l.fn.bytes (BeforeAttributeName t) ≡ tokens_from l.rest (BeforeAttributeName (record t { attributes = l.attributes.items }));
  shorter : length l.rest ≤ length l.fn.bytes;
}

abbrev pub decreases-attributes : goal.decreases-attributes
decreases-attributes l = length l.rest
