use Rattle.std.proofs.Common.{◌≡◌, map, take}
use Rattle.tabled_script.specs.Html.{html_alignment}
use Rattle.tabled_script.proofs.html_form.html_alignments.Given as goal

abbrev pub invariant-loop-alignment : goal.invariant-loop-alignment
invariant-loop-alignment l = l.aligned.items ≡ map html_alignment (take l.alignment-index l.alignments)
