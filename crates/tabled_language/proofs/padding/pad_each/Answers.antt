use Rattle.tabled_language.proofs.Common.{arith, changed_all, changed_more, refl}
use Rattle.tabled_language.proofs.padding.pad_each.Goals as goal

pub loop-record-init : goal.loop-record-init
loop-record-init c = record { is = refl }

pub loop-record-preserved : goal.loop-record-preserved
loop-record-preserved c = changed_more _ _ _ _ _ c.record-item.result c.pad.new.row (omega arith) c.loop-record.invariant c.in_ok-pad.ensures

pub returns : goal.returns
returns c = changed_all _ _ _ _ _ (omega arith) c.loop-record.invariant
