use Rattle.std.proofs.Common.{◌≡◌, ◌∙◌, [], None, Some, ap, ap₂, false, rules, sym, true}
use Rattle.tabled_html_elements.proofs.Pieces.{no_tag_behind, table_begins}
use Rattle.tabled_html_reading.specs.Building.Mode.{Behind, InTable}
use Rattle.tabled_html_elements.specs.Reading.{as_table, begins_table, built_from, opened}
use Rattle.tabled_html_reading.specs.Tokenizing.{Tag}
use Rattle.tabled_html_elements.proofs.parts.read_normalized.Goals as goal

pub returns-in-Some-2 : goal.returns-in-Some-2
returns-in-Some-2 c =
    let begins : begins_table c.read_piece.new.text.items c.in-Some.tag ≡ true = search rules in
    let started = table_begins c.in-Some.tag c.args.bytes.now c.read_piece.new.text.items c.in-Some.behind.now (rw c.in-Some.is at c.in_ok-tag.ensures.read) begins in
    let attributes : c.tag.inside.attributes.items ≡ c.in-Some.tag.attributes = ap (λ (t : Tag). t.attributes) c.tag.view_is in
    let parts = ap₂ (λ xs gs. built_from (Some (opened InTable (as_table xs None gs) false [] [])) c.in-Some.behind.now) (sym attributes) (sym c.new.ensures.items) ∙ c.in_ok-after.ensures.read in
    started ∙ parts ∙ no_tag_behind c.read_parts.new.table c.in-Some-2.field-0.0 c.in_ok-after.after.now c.in-Some-2.field-0.1.now ((rw c.in-Some-2.is at c.in_ok-read_tag_between.ensures.read) (opened Behind c.read_parts.new.table false [] []) tt)
