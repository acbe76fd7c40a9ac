use Rattle.std.proofs.Common.{◌≡◌, take}
use Rattle.tabled_html_elements.specs.Reading.{kept}
use Rattle.tabled_html_elements.proofs.building.kept.Given as goal

abbrev pub invariant-loop-byte : goal.invariant-loop-byte
invariant-loop-byte l = l.out.items ≡ kept (take l.byte-index l.text)
