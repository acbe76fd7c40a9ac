use Rattle.tabled_settings.proofs.Common.{◌%◌, ◌∙◌, ap, arith, mod-eq_of_lt, mod_self, sym, ℕ}
use Rattle.tabled_settings.proofs.duplicate.index_after.Goals as goal

pub returns-then-next-count-clause-next : goal.returns-then-next-count-clause-next
returns-then-next-count-clause-next c = sym (ap (λ (i : ℕ). i % c.args.count) c.if-next-count.true ∙ mod_self c.args.count)

pub returns-else-next-count-clause-next : goal.returns-else-next-count-clause-next
returns-else-next-count-clause-next c = sym (mod-eq_of_lt (omega (arith, c.requires, c.if-next-count.false)))
