use Rattle.std.specs.Prelude.{false, get_or}
use Rattle.tabled_grid.specs.declared.config.entity.Entity.TheVariants.{Global}
use Rattle.tabled_spans.proofs.Common.{map_grid, sym, ℕ}
use Rattle.tabled_spans.proofs.MergeEach.{runs_kept}
use Rattle.tabled_spans.specs.Lines.{line_at}
use Rattle.tabled_spans.proofs.merge.each.runs_marked.Goals as goal

pub returns : goal.returns
returns g c =
    let texts = map_grid g.R.Cell.CellText.text_of (g.R.GridStore.grid c.args.records.now) in
    let high = sym c.shape_of-table.ensures.rows in
    let wide = sym c.shape_of-table.ensures.columns in
    let band = c.block_of_lines-band.ensures in
    rw (c.keep_marked.ensures) (runs_kept c.args.axis texts (λ (line : ℕ). get_or c.args.marks.now line false) c.args.cfg.now c.block_of_lines-band.result (λ p at is. let within = c.marked_range-line.ensures.marked (line_at c.args.axis p) is in band.cells texts high wide p at within.0 within.1) c.in_ok-sizes.sizes.items (c.in_ok-sizes.ensures Global (band.band texts high wide)))
