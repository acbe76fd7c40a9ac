use Rattle.std.proofs.Common.{◌≡◌, ◌≤◌, length}
use Rattle.tabled_html_reading.specs.Tokenizing.{characters, emit, tokens_from}
use Rattle.tabled_html_reading.specs.Tokenizing.State.{Data}
use Rattle.tabled_html_elements.proofs.text.read_characters.Given as goal

abbrev pub invariant-characters : goal.invariant-characters
invariant-characters l = record {
  read : emit (characters l.fn.text.items) (tokens_from l.fn.bytes Data) ≡ emit (characters l.text.items) (tokens_from l.rest Data);
  shorter : length l.rest ≤ length l.fn.bytes;
}

abbrev pub decreases-characters : goal.decreases-characters
decreases-characters l = length l.rest
