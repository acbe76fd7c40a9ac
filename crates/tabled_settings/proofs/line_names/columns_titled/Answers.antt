use Rattle.tabled_settings.proofs.Common.{◌<◌, IfOk-weaker, List, subst, sym, ℕ}
use Rattle.std.specs.List.{All}
use Rattle.tabled_settings.proofs.NamedLines.{titled_below}
use Rattle.tabled_settings.proofs.line_names.columns_titled.Goals as goal

pub returns-clause-inside : goal.returns-clause-inside
returns-clause-inside g c =
    IfOk-weaker c.coordinates.result _ _
    (λ found e. subst (λ (xs : List ℕ). All (λ (j : ℕ). j < (g.R.GridStore.grid c.args.records.now).columns) xs) (sym e) (titled_below _ _))
    c.coordinates.ensures.lists
