use Rattle.tabled_steps.proofs.MergedRuns.{listed_merged}
use Rattle.tabled_steps.proofs.laws.listed_runs_are_the_longest_ones.Goals as goal

pub returns : goal.returns
returns c = record { merges = λ axis e g m. listed_merged axis e g m }
