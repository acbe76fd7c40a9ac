use Rattle.tabled_draw.proofs.LawMarkdown.{bytes-of-lines, lines-read}
use Rattle.tabled_draw.proofs.laws.markdown_is_read_as_its_table.Goals as goal

pub returns : goal.returns
returns c = record { lines = bytes-of-lines; read = lines-read }
