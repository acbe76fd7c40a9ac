use Rattle.tabled_held.specs.Pens.{Sends}
use Rattle.tabled_script.proofs.Common.{flat_map, span_line, take}
use Rattle.tabled_script.proofs.script_form.write_spans.Given as goal

abbrev pub invariant-loop-rectangle : goal.invariant-loop-rectangle
invariant-loop-rectangle g l = Sends g.W.Write.contents l.fn.pen l.pen (flat_map span_line (take l.rectangle-index l.rectangle-items))
