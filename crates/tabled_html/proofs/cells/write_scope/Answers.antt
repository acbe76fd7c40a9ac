use Rattle.tabled_html.proofs.cells.write_scope.Goals as goal

pub returns-then-is_header : goal.returns-then-is_header
returns-then-is_header g c = rw c.if-is_header.true c.send.ensures
