use Rattle.tabled_select.proofs.Common.{IfOk-weaker}
use Rattle.tabled_spans.proofs.Blocks.{block_band, named_block}
use Rattle.tabled_spans.proofs.Common.{map_grid, sym}
use Rattle.tabled_spans.proofs.RunsFrom.{all_listed}
use Rattle.tabled_spans.proofs.merge.runs.runs_of.Goals as goal

pub runs_in_block-requires-clause-block : goal.runs_in_block-requires-clause-block
runs_in_block-requires-clause-block g c =
    let texts = map_grid g.R.Cell.CellText.text_of (g.R.GridStore.grid c.args.records.now) in
    let is = named_block c.args.entity texts _ _ c.block-block.result (sym c.count_rows.ensures.rows) (sym c.count_columns.ensures.columns) c.block-block.ensures.named in
    (c.args.entity, block_band c.args.axis c.args.entity texts c.block-block.result is)

pub returns : goal.returns
returns g c =
    let texts = map_grid g.R.Cell.CellText.text_of (g.R.GridStore.grid c.args.records.now) in
    let is = named_block c.args.entity texts _ _ c.block-block.result (sym c.count_rows.ensures.rows) (sym c.count_columns.ensures.columns) c.block-block.ensures.named in
    IfOk-weaker c.runs_in_block.result _ _ (λ sizes listed. all_listed c.args.axis c.args.entity texts c.args.cfg.now c.block-block.result (λ p. (is p).0) sizes.items (listed c.args.entity (block_band c.args.axis c.args.entity texts c.block-block.result is))) c.runs_in_block.ensures
