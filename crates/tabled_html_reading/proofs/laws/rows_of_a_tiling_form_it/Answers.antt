use Rattle.tabled_html_reading.proofs.Formed.{body-formed, head-and-body-formed}
use Rattle.tabled_html_reading.proofs.laws.rows_of_a_tiling_form_it.Goals as goal

pub returns-clause-body : goal.returns-clause-body
returns-clause-body c columns rows own element none tiles = body-formed columns rows own element none tiles

pub returns-clause-head : goal.returns-clause-head
returns-clause-head c columns rows own element head none tiles part ends = head-and-body-formed columns rows own element tiles head part ends none
