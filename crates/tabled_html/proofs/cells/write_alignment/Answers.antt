use Rattle.tabled_html.proofs.cells.write_alignment.Goals as goal

pub returns-in-Left : goal.returns-in-Left
returns-in-Left g c = rw c.in-Left.is c.send.ensures

pub returns-in-Center : goal.returns-in-Center
returns-in-Center g c = rw c.in-Center.is c.send-in-Center.ensures

pub returns-in-Right : goal.returns-in-Right
returns-in-Right g c = rw c.in-Right.is c.send-in-Right.ensures
