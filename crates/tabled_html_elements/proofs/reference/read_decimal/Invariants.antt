use Rattle.std.proofs.Common.{◌≡◌, ◌≤◌, length}
use Rattle.tabled_html_reading.specs.Tokenizing.{tokens_from}
use Rattle.tabled_html_reading.specs.Tokenizing.State.{Decimal}
use Rattle.tabled_html_elements.proofs.reference.read_decimal.Given as goal

abbrev pub invariant-digits : goal.invariant-digits
invariant-digits l = record {
  read : tokens_from l.fn.bytes (Decimal l.first) ≡ tokens_from l.rest (Decimal l.code);
  few : l.code ≤ 1114112;
  shorter : length l.rest ≤ length l.fn.bytes;
}

abbrev pub decreases-digits : goal.decreases-digits
decreases-digits l = length l.rest
