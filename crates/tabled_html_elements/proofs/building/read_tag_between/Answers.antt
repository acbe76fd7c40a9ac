use Rattle.std.proofs.Common.{◌≡◌, false, rules}
use Rattle.std.specs.List.{list_all}
use Rattle.tabled_html_elements.proofs.Pieces.{no_tag_between}
use Rattle.tabled_html_reading.specs.Characters.{is_blank}
use Rattle.tabled_html_elements.proofs.building.read_tag_between.Goals as goal

pub returns-then-not-are_blanks-clause-read : goal.returns-then-not-are_blanks-clause-read
returns-then-not-are_blanks-clause-read c = λ b between. (let other : list_all is_blank c.read_piece.new.text.items ≡ false = search rules in no_tag_between b between c.args.bytes.now c.read_piece.new.text.items c.in-Some.tag c.in-Some.after.now other (rw c.in-Some.is at c.in_ok-tag.ensures.read))
