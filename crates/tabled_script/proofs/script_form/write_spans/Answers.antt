use Rattle.tabled_held.proofs.Pens.{sends-as, sends-none, sends-then}
use Rattle.tabled_script.proofs.Common.{[], ◌∙◌, ap, arith, flat_map, get_or, get_or_default, refl, sized, span_line, take, take_all}
use Rattle.tabled_script.proofs.OutputLines.{pushed_more}
use Rattle.tabled_script.proofs.script_form.write_spans.Goals as goal

pub loop-rectangle-init : goal.loop-rectangle-init
loop-rectangle-init g c = sends-none

pub loop-rectangle-preserved : goal.loop-rectangle-preserved
loop-rectangle-preserved g c =
    let anchors = c.rectangles-rectangle-items.result.now in
    let i = c.loop-rectangle.rectangle-index in
    let anchor = get_or anchors i (record { first = record { row = 0; col = 0 }; size = sized 0 0 }) in
    sends-as (pushed_more span_line [] (flat_map span_line (take i anchors)) anchors i anchor c.loop-rectangle-test.true (get_or_default anchors i _ anchor c.loop-rectangle-test.true) refl)
    (sends-then c.loop-rectangle.invariant c.write_numbers.ensures)

pub returns : goal.returns
returns g c =
    let all = take_all c.loop-rectangle.rectangle-index c.rectangles-rectangle-items.result.now (omega arith) in
    sends-as (ap (flat_map span_line) (all ∙ c.rectangles-rectangle-items.ensures.rectangles)) c.loop-rectangle.invariant
