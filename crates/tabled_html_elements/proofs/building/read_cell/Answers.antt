use Rattle.std.proofs.Common.{◌≡◌, false, rules, true}
use Rattle.tabled_html_elements.proofs.Pieces.{cell_not_ended, cell_not_spans}
use Rattle.tabled_html_reading.specs.Building.{are_spans}
use Rattle.tabled_html_elements.specs.Reading.{ends_cell}
use Rattle.tabled_html_elements.proofs.building.read_cell.Goals as goal

pub returns-then-not-ends_cell-clause-read : goal.returns-then-not-ends_cell-clause-read
returns-then-not-ends_cell-clause-read c = λ table is_head rows cells. (let other : ends_cell c.in-Some.tag c.args.is_header ≡ false = search rules in
    cell_not_ended table is_head rows cells c.args.is_header c.args.attributes.items c.args.bytes.now c.read_piece.new.text.items c.in-Some.tag c.in-Some.after.now (rw c.in-Some.is at c.in_ok-tag.ensures.read) other)

pub returns-then-not-are_spans-clause-read : goal.returns-then-not-are_spans-clause-read
returns-then-not-are_spans-clause-read c = λ table is_head rows cells. (let ends : ends_cell c.in-Some.tag c.args.is_header ≡ true = search rules in let other : are_spans c.args.attributes.items ≡ false = search rules in
    cell_not_spans table is_head rows cells c.args.is_header c.args.attributes.items c.args.bytes.now c.read_piece.new.text.items c.in-Some.tag c.in-Some.after.now (rw c.in-Some.is at c.in_ok-tag.ensures.read) ends other)
