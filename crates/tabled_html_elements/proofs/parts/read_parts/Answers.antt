use Rattle.std.proofs.Common.{◌≡◌, ◌∙◌, [], false, rules, true}
use Rattle.std.specs.Prelude.{codes}
use Rattle.std.specs.Str.{bytes_eq}
use Rattle.tabled_html_elements.proofs.Pieces.{no_end}
use Rattle.tabled_html_reading.specs.Building.Mode.{InTable}
use Rattle.tabled_html_elements.specs.Reading.{opened}
use Rattle.tabled_html_elements.proofs.parts.read_parts.Goals as goal

pub returns-then-not-is_named-clause-read : goal.returns-then-not-is_named-clause-read
returns-then-not-is_named-clause-read c =
    let end : c.in-Some.tag.is_end ≡ true = search rules in
    let other : bytes_eq c.in-Some.tag.name (codes "table") ≡ false = search rules in
    c.parts.invariant.read ∙ (rw c.in-Some.is at c.in_ok-tag.ensures.read) (opened InTable c.parts.table false [] []) tt ∙ no_end c.parts.table c.in-Some.tag c.in-Some.behind.now end other
