use Rattle.tabled_draw.proofs.Fine.{ascii, ascii_rounded, blank, dots, empty, extended, markdown, modern, psql, re_structured_text, rounded, sharp}
use Rattle.tabled_draw.proofs.laws.styles_are_fine.Goals as goal

pub returns : goal.returns
returns c = record { ascii = ascii; modern = modern; rounded = rounded; sharp = sharp; extended = extended; psql = psql; markdown = markdown; re_structured_text = re_structured_text; dots = dots; ascii_rounded = ascii_rounded; blank = blank; empty = empty }
