use Rattle.tabled_settings.proofs.Common.{◌-◌, ◌≡◌, append_assoc, arith, encode_ascii, suc}
use Rattle.tabled_settings.proofs.formatting.charset.push_spaces.Goals as goal

pub loop-left-preserved : goal.loop-left-preserved
loop-left-preserved c =
    let more : c.loop-left.left ≡ suc (c.loop-left.left - 1) = omega arith in
    let space = encode_ascii 32 (omega arith) in
    rw (c.in_ok-push.ensures.bytes, space, append_assoc) (rw more at c.loop-left.invariant)
