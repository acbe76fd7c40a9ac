use Rattle.tabled_settings.proofs.Common.{◌≤◌, arith, count_along, is_marked, left_over, length, same_count}
use Rattle.tabled_settings.proofs.Dropped.{left_few}
use Rattle.tabled_settings.proofs.KeptLines.{kept_all}
use Rattle.tabled_settings.proofs.lines.remove.Goals as goal

pub truncate_lines-requires-clause-within : goal.truncate_lines-requires-clause-within
truncate_lines-requires-clause-within g c =
    let many = c.thin-kept.ensures.many in
    omega (arith, many, left_few (is_marked c.args.gone.now) (length c.args.gone.now), c.requires.many, same_count c.args.axis (g.R.GridStore.grid c.args.records.now) (g.R.GridStore.grid c.thin-kept.new.records) c.thin-kept.ensures.brings.shape)

pub returns-clause-kept : goal.returns-clause-kept
returns-clause-kept g c =
    let many = c.thin-kept.ensures.many in
    let brings = c.thin-kept.ensures.brings in
    let fits : c.thin-kept.result ≤ count_along c.args.axis (g.R.GridStore.grid c.thin-kept.new.records) = omega (arith, many, left_few (is_marked c.args.gone.now) (length c.args.gone.now), c.requires.many, same_count c.args.axis (g.R.GridStore.grid c.args.records.now) (g.R.GridStore.grid c.thin-kept.new.records) brings.shape) in
    kept_all c.args.axis (left_over (is_marked c.args.gone.now) (length c.args.gone.now)) c.thin-kept.result _ _ _ brings many fits c.truncate_lines.ensures.first
