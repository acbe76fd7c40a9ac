use Rattle.tabled_spans.proofs.Common.{AllByRecursion, HasArea, MergesRuns, across, ap, lines_in, map_grid, rules, subst, sym, with_sizes, ◌∙◌, ◌≡◌, ◌≤◌}
use Rattle.tabled_spans.proofs.Blocks.{named_block, neighbours, none_merged}
use Rattle.tabled_spans.proofs.RunLists.{runs_merged, sizes_full}
use Rattle.tabled_spans.proofs.merge.merge_runs.Goals as goal

pub returns-then-not-has_neighbours-clause-ok : goal.returns-then-not-has_neighbours-clause-ok
returns-then-not-has_neighbours-clause-ok g c =
    let texts = map_grid g.R.Cell.CellText.text_of (g.R.GridStore.grid c.args.records.now) in
    let is = named_block c.args.entity texts _ _ c.block-block.result (sym c.count_rows.ensures.rows) (sym c.count_columns.ensures.columns) c.block-block.ensures.named in
    none_merged c.args.axis c.args.entity texts c.block-block.result is c.args.cfg.now (λ lines cells. let t = c.has_neighbours.ensures.1 (lines, cells) in let f = c.if-not-has_neighbours.true in cc)

pub returns-in_err-sizes-clause-promised : goal.returns-in_err-sizes-clause-promised
returns-in_err-sizes-clause-promised g c = λ none.
    let texts = map_grid g.R.Cell.CellText.text_of (g.R.GridStore.grid c.args.records.now) in
    let is = named_block c.args.entity texts _ _ c.block-block.result (sym c.count_rows.ensures.rows) (sym c.count_columns.ensures.columns) c.block-block.ensures.named in
    let some : (2 ≤ lines_in c.args.axis c.block-block.result.size) × (1 ≤ lines_in (across c.args.axis) c.block-block.result.size) = search (rules, c.has_neighbours.ensures, c.if-not-has_neighbours.false) in
    absurd (neighbours g.R.Cell.CellText.text_of c.args.axis c.args.entity (g.R.GridStore.grid c.args.records.now) c.block-block.result is some none)

pub set_sizes-requires-clause-each : goal.set_sizes-requires-clause-each
set_sizes-requires-clause-each g c =
    let texts = map_grid g.R.Cell.CellText.text_of (g.R.GridStore.grid c.args.records.now) in
    subst (AllByRecursion HasArea) (sym c.deref.ensures.value) (sizes_full c.args.axis c.args.entity texts c.args.cfg.now _ c.in_ok-sizes.ensures.each)

pub returns-in_err-set_sizes-clause-promised : goal.returns-in_err-set_sizes-clause-promised
returns-in_err-set_sizes-clause-promised g c = λ none.
    let texts = map_grid g.R.Cell.CellText.text_of (g.R.GridStore.grid c.args.records.now) in
    let is = named_block c.args.entity texts _ _ c.block-block.result (sym c.count_rows.ensures.rows) (sym c.count_columns.ensures.columns) c.block-block.ensures.named in
    let some : (2 ≤ lines_in c.args.axis c.block-block.result.size) × (1 ≤ lines_in (across c.args.axis) c.block-block.result.size) = search (rules, c.has_neighbours.ensures, c.if-not-has_neighbours.false) in
    absurd (neighbours g.R.Cell.CellText.text_of c.args.axis c.args.entity (g.R.GridStore.grid c.args.records.now) c.block-block.result is some none)

pub returns-clause-ok : goal.returns-clause-ok
returns-clause-ok g c =
    let texts = map_grid g.R.Cell.CellText.text_of (g.R.GridStore.grid c.args.records.now) in
    let is : c.set_sizes.new.self ≡ with_sizes c.args.cfg.now c.in_ok-sizes.sizes.items = c.in_ok-set_sizes.ensures.ok ∙ ap (with_sizes c.args.cfg.now) c.deref.ensures.value in
    subst (MergesRuns c.args.axis c.args.entity texts c.args.cfg.now) (sym is) (runs_merged c.args.axis c.args.entity texts c.args.cfg.now c.in_ok-sizes.sizes.items c.in_ok-sizes.ensures)
