use Rattle.std.proofs.Common.{◌≡◌, false, rules}
use Rattle.tabled_html_elements.proofs.Pieces.{caption_not_ended}
use Rattle.tabled_html_elements.specs.Reading.{ends_caption}
use Rattle.tabled_html_elements.proofs.parts.read_caption.Goals as goal

pub returns-then-not-ends_caption-clause-read : goal.returns-then-not-ends_caption-clause-read
returns-then-not-ends_caption-clause-read c = λ table. (let other : ends_caption c.in-Some.tag ≡ false = search rules in caption_not_ended table c.args.bytes.now c.read_piece.new.text.items c.in-Some.tag c.in-Some.after.now (rw c.in-Some.is at c.in_ok-tag.ensures.read) other)
