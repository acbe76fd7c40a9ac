use Rattle.tabled_grid.proofs.Common.{◌+◌, ◌∙◌, arith, refl, sub_self, sym}
use Rattle.tabled_grid.proofs.Places.{block-no_rows, block-no_columns}
use Rattle.tabled_grid.proofs.config.entity.EntityIterator.of.Goals as goal

pub returns : goal.returns
returns c =
    let first = c.args.block.first in
    let size = c.args.block.size in
    elim c.if-size-gt0.branch [
      | goal.then-size-gt0 w ↦ rw (sub_self, w.height-is) refl
      | goal.else-size-gt0 w ↦ rw (sub_self, w.height-is) (block-no_rows first.row (first.row + 0) first.col (first.col + size.width) (omega arith) ∙ sym (block-no_columns first.row (first.row + size.height) first.col (first.col + size.width) (omega (arith, w.if-size-gt0.false))))
    ]
