use Rattle.std.proofs.Common.{◌≡◌, ◌≤◌, length}
use Rattle.tabled_html_reading.specs.Tokenizing.{Tag, tokens_from}
use Rattle.tabled_html_reading.specs.Tokenizing.State.{AttributeName}
use Rattle.tabled_html_elements.proofs.tag.read_attribute_name.Given as goal

abbrev pub invariant-name : goal.invariant-name
invariant-name l = record {
  read : (t : Tag) → tokens_from l.fn.bytes (AttributeName t l.fn.name.items) ≡ tokens_from l.rest (AttributeName t l.name.items);
  shorter : length l.rest ≤ length l.fn.bytes;
}

abbrev pub decreases-name : goal.decreases-name
decreases-name l = length l.rest
