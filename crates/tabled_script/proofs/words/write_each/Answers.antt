use Rattle.tabled_held.proofs.Pens.{sends-as, sends-then}
use Rattle.tabled_script.proofs.Common.{[], ◌∷◌, ap, arith, escaped, escaped_byte, get_or, get_or_default, refl, take, take_all}
use Rattle.tabled_script.proofs.OutputLines.{pushed_more}
use Rattle.tabled_script.proofs.words.write_each.Goals as goal

pub loop-byte-preserved : goal.loop-byte-preserved
loop-byte-preserved g c =
    let bytes = c.args.bytes.now in
    let i = c.loop-byte.byte-index in
    let byte = get_or bytes i 0 in
    sends-as (pushed_more escaped_byte (9 ∷ []) (9 ∷ escaped (take i bytes)) bytes i byte c.loop-byte-test.true (get_or_default bytes i _ byte c.loop-byte-test.true) refl) (sends-then c.loop-byte.invariant c.write_escaped_byte.ensures)

pub returns : goal.returns
returns g c = sends-as (ap (λ bs. 9 ∷ escaped bs) (take_all c.loop-byte.byte-index c.args.bytes.now (omega arith))) c.loop-byte.invariant
