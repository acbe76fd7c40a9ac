use Rattle.tabled_html_reading.proofs.Parsed.{table-parsed}
use Rattle.tabled_html_reading.proofs.laws.written_elements_are_read_back.Goals as goal

pub returns : goal.returns
returns c t well = table-parsed t well
