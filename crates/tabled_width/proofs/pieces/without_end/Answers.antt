use Rattle.std.proofs.Common.{◌-◌, ◌≡◌, ap, arith, length, length-append, subst}
use Rattle.std.proofs.lemmas.Str.{IsCharBoundary-at_seam}
use Rattle.std.specs.Str.{IsCharBoundary}
use Rattle.tabled_width.proofs.pieces.without_end.Goals as goal

pub range-requires-clause-end_boundary : goal.range-requires-clause-end_boundary
range-requires-clause-end_boundary c =
    let text = c.args.text.now in
    let end = c.args.end.now in
    let front = c.requires.0 in
    let many : length front ≡ length text - length end = omega (arith, ap length c.requires.1, length-append front end) in
    subst (IsCharBoundary text) many (IsCharBoundary-at_seam text front end c.requires.1 c.utf8.end)
