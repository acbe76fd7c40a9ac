use Rattle.tabled_html.proofs.cells.write_style.Goals as goal

pub returns-in-Some : goal.returns-in-Some
returns-in-Some g c = rw c.in-Some.is c.write_alignment.ensures
