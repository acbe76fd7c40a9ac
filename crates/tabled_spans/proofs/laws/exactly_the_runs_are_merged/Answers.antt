use Rattle.tabled_spans.proofs.MergeTwice.{joins_in_none, merged_is_run, run_is_merged}
use Rattle.tabled_spans.proofs.laws.exactly_the_runs_are_merged.Goals as goal

pub returns-clause-merged : goal.returns-clause-merged
returns-clause-merged c = run_is_merged

pub returns-clause-no_others : goal.returns-clause-no_others
returns-clause-no_others c = merged_is_run

pub returns-clause-joined : goal.returns-clause-joined
returns-clause-joined c = joins_in_none
