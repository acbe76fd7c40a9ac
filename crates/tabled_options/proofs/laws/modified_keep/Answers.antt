use Rattle.tabled_options.proofs.Common.{EachListed, EachListedUntil, SameOr}
use Rattle.tabled_options.proofs.Keeps.{keeps_copied, keeps_listed}
use Rattle.tabled_options.proofs.laws.modified_keep.Goals as goal

pub returns : goal.returns
returns g c = record {
  each =
      λ each.
      let option = c.args._option.now in
      let does = g.M.CellOption.does option in
      let leaves = g.M.CellOption.leaves option in
      let lists = g.O.Object.lists c.args._object.now in
      keeps_copied g.P.Property.holds (EachListed lists does) (EachListedUntil lists does (λ e. SameOr (leaves e)))
      (keeps_listed g.P.Property.holds does (λ e. SameOr (leaves e)) lists (λ e. keeps_copied g.P.Property.holds (does e) (leaves e) (each e)));
}
