use Rattle.std.proofs.Common.{◌≡◌, ◌≤◌, ◌∷◌, [], length}
use Rattle.tabled_html_reading.specs.Tokenizing.{tokens_from}
use Rattle.tabled_html_reading.specs.Tokenizing.State.{NamedCharacterReference}
use Rattle.tabled_html_elements.proofs.reference.read_name.Given as goal

abbrev pub invariant-name : goal.invariant-name
invariant-name l = record {
  read : tokens_from l.fn.bytes (NamedCharacterReference (l.first ∷ [])) ≡ tokens_from l.rest (NamedCharacterReference l.name.items);
  shorter : length l.rest ≤ length l.fn.bytes;
}

abbrev pub decreases-name : goal.decreases-name
decreases-name l = length l.rest
