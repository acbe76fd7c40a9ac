use Rattle.std.proofs.Common.{◌≡◌, ◌++◌, drop, false}
use Rattle.tabled_html_reading.specs.Tokenizing.{normalized_behind}
use Rattle.tabled_html_elements.proofs.parts.normalized.Given as goal

abbrev pub invariant-loop-byte : goal.invariant-loop-byte
invariant-loop-byte l = normalized_behind false l.bytes ≡ l.out.items ++ normalized_behind l.is_behind_return (drop l.byte-index l.bytes)
