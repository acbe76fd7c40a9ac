use Rattle.tabled_select.proofs.Common.{cells_of, flat, inversion_of, refl}
use Rattle.tabled_select.proofs.Inverted.{listed-by_difference, listed-by_intersection}
use Rattle.tabled_select.proofs.laws.not_is_intersect_with_inverse.Goals as goal

pub returns : goal.returns
returns g c = λ entities.
    let grid = g.R.GridStore.grid c.args._records.now in (
      (λ p. (p.0, cells_of (inversion_of (flat p.1 grid.rows grid.columns) grid.rows grid.columns), p.2, (p.1, p.3, refl), listed-by_intersection p.0 p.1 grid.rows grid.columns entities p.4)),
      λ p. (p.0, p.3.0, p.2, p.3.1, listed-by_difference p.0 p.3.0 grid.rows grid.columns entities p.1 p.3.2 p.4),
    )
