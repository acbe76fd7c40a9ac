use Rattle.tabled_json.proofs.Common.{◌≤◌, length, map}
use Rattle.tabled_json.proofs.Lists.{ElementsRead}
use Rattle.tabled_json.specs.Grammar.{closing}
use Rattle.tabled_json.proofs.list.elements.Given as goal

abbrev pub invariant-elements : goal.invariant-elements
invariant-elements g l = record {
  read : ElementsRead g.E.Element.is_at g.E.Element.is_fault (closing l.fn.kind) l.fn.bytes (map g.E.Element.shown l.elements.items) l.rest;
  shorter : length l.rest ≤ length l.fn.bytes;
}

abbrev pub decreases-elements : goal.decreases-elements
decreases-elements g l = length l.rest
