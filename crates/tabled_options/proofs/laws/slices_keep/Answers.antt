use Rattle.tabled_options.proofs.Common.{SameOr}
use Rattle.tabled_options.proofs.Keeps.{keeps_all, keeps_all_copied}
use Rattle.tabled_options.proofs.laws.slices_keep.Goals as goal

pub returns : goal.returns
returns g c = record {
  slice =
      λ each.
      let t = g.T.TableOption in
      keeps_all g.P.Property.holds t.does (λ x. SameOr (t.leaves x)) c.args._options.now.0.now (keeps_all_copied g.P.Property.holds t.does t.leaves c.args._options.now.0.now each);
}
