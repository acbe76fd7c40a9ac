use Rattle.tabled_table.proofs.Common.{◌∙◌, ap, numbers, vec_len-rows, vec_len-texts}
use Rattle.tabled_table.proofs.Indexed.{IsIndexed-numbers}
use Rattle.tabled_table.proofs.builder.indexed.Indexed.new.Goals as goal

pub invariant_of-result : goal.invariant_of-result
invariant_of-result c = IsIndexed-numbers _ (c.in_ok-index.ensures ∙ ap numbers (c.len.ensures ∙ vec_len-rows c.args.body)) (rw (vec_len-texts c.args.header) at c.requires)
