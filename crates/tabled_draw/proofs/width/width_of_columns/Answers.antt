use Rattle.tabled_draw.proofs.Common.{Columns, arith, get_or, length, line_size, start_of, ◌+◌, ◌≡◌}
use Rattle.tabled_draw.proofs.Shares.{start-more}
use Rattle.tabled_draw.proofs.width.width_of_columns.Goals as goal

pub loop-k-preserved : goal.loop-k-preserved
loop-k-preserved c =
    let ws = c.args.widths.now in
    let k = c.loop-k.k in
    let lines = line_size c.args.lines (length ws) in
    let next : start_of Columns lines ws (k + 1) ≡ start_of Columns lines ws k + (lines k + get_or ws k 0 + 2) = start-more Columns lines ws k in
    omega (arith, next)
