use Rattle.tabled_select.proofs.Common.{◌∙◌, IfOk-weaker, ap, map, map_grid, rules, text_is}
use Rattle.tabled_select.proofs.Filtered.{Filters-is}
use Rattle.tabled_select.proofs.location.search.search_text.Goals as goal

pub returns : goal.returns
returns g c =
    let texts = map_grid g.R.Cell.CellText.text_of (g.R.GridStore.grid c.args.records.now) in
    IfOk-weaker c.search.result _ _
    (λ all e. e.2 ∙ ap (map g.K.Tell.told) (Filters-is _ (text_is c.args.wanted.now texts) (λ p b says. let said = says.says.met in search rules) _ e.0 e.1))
    c.search.ensures
