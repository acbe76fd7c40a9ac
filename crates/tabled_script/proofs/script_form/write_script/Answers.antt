use Rattle.tabled_script.proofs.script_form.write_script.Goals as goal

pub returns-clause-known : goal.returns-clause-known
returns-clause-known g c = c.in_ok-send_lines.ensures.known
