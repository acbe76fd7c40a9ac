use Rattle.tabled_settings.proofs.Common.{is_marked}
use Rattle.std.specs.Prelude.{length}
use Rattle.tabled_settings.proofs.RisingLists.{left_rises}
use Rattle.tabled_settings.proofs.kept_lines.KeptLines.unmarked.Goals as goal

pub invariant_of-result : goal.invariant_of-result
invariant_of-result c = record { rising = rw c.in_ok-indexes.ensures (left_rises (is_marked c.args.gone.now) (length c.args.gone.now)) }
