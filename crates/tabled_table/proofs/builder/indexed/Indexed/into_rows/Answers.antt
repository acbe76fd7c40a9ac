use Rattle.tabled_table.proofs.Common.{◌≡◌, AreWide, IfOk, IfOk-weaker, built_rows, row_texts, rules, subst, sym, width_of}
use Rattle.tabled_table.proofs.Indexed.{even-rows_of}
use Rattle.tabled_table.proofs.builder.indexed.Indexed.into_rows.Goals as goal

pub returns-in-None-clause-even : goal.returns-in-None-clause-even
returns-in-None-clause-even c =
    let is : row_texts c.if-is_shown.rows.items ≡ built_rows c.args.self = search rules in
    subst (λ rows. AreWide (width_of rows) rows) (sym is) (even-rows_of c.args.self (rw c.self.view_is at c.self.invariant))

pub returns-clause-even : goal.returns-clause-even
returns-clause-even c =
    let is : IfOk c.rows_with_name.result (λ rows. row_texts rows.items ≡ built_rows c.args.self) = search rules in
    IfOk-weaker c.rows_with_name.result _ _ (λ rows e. subst (λ all. AreWide (width_of all) all) (sym e) (even-rows_of c.args.self (rw c.self.view_is at c.self.invariant))) is
