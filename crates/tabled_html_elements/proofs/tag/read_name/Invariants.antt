use Rattle.std.proofs.Common.{◌≡◌, ◌≤◌, Bool, length}
use Rattle.tabled_html_reading.specs.Tokenizing.{tag, tokens_from}
use Rattle.tabled_html_reading.specs.Tokenizing.State.{TagName}
use Rattle.tabled_html_elements.proofs.tag.read_name.Given as goal

abbrev pub invariant-name : goal.invariant-name
invariant-name l = record {
  read : (is_end : Bool) → tokens_from l.fn.bytes (TagName (tag is_end l.fn.name.items)) ≡ tokens_from l.rest (TagName (tag is_end l.name.items));
  shorter : length l.rest ≤ length l.fn.bytes;
}

abbrev pub decreases-name : goal.decreases-name
decreases-name l = length l.rest
