use Rattle.std.specs.Prelude.{false}
use Rattle.tabled_spans.proofs.Common.{[], ◌<◌, ◌∙◌, ◌≡◌, AllByRecursion, AreSorted, HasArea, across, ap, count_along, map_grid, subst, sym, with_sizes, ℕ}
use Rattle.tabled_spans.proofs.MergeEach.{listed_merged, no_neighbours, none_in, none_merged_each, runs_full, same_lines}
use Rattle.tabled_spans.specs.Lines.{MergesEach, is_among, is_named_by}
use Rattle.tabled_spans.specs.declared.merge.lines.NamedLines.{NamedLines}
use Rattle.tabled_spans.proofs.merge.each.merge_each.Goals as goal

pub returns-then-not-has_neighbours-clause-ok : goal.returns-then-not-has_neighbours-clause-ok
returns-then-not-has_neighbours-clause-ok g c = λ items gives.
    let texts = map_grid g.R.Cell.CellText.text_of (g.R.GridStore.grid c.args.records.now) in
    none_merged_each c.args.axis texts items c.args.cfg.now (no_neighbours c.args.axis texts c.args.cfg.now _ c.shape_of-size.ensures.rows c.shape_of-size.ensures.columns (λ lines cells. let t = c.has_neighbours.ensures.1 (lines, cells) in let f = c.if-not-has_neighbours.true in cc))

pub returns-in-Nothing-clause-ok : goal.returns-in-Nothing-clause-ok
returns-in-Nothing-clause-ok g c = λ items gives.
    let texts = map_grid g.R.Cell.CellText.text_of (g.R.GridStore.grid c.args.records.now) in
    let same : (line : ℕ) → line < count_along (across c.args.axis) texts → false ≡ is_named_by c.args.axis items line = λ line within.
    subst (λ (lines : NamedLines). is_among c.args.axis lines line ≡ is_named_by c.args.axis items line) c.in-Nothing.is (c.in_ok-lines.ensures.named items gives line (same_lines g.R.Cell.CellText.text_of c.args.axis c.across.result (g.R.GridStore.grid c.args.records.now) c.count.result line c.across.ensures c.count.ensures.count within)) in
    listed_merged c.args.axis texts (λ _. false) items c.args.cfg.now [] same (none_in c.args.axis texts c.args.cfg.now)

pub set_sizes-requires : goal.set_sizes-requires
set_sizes-requires g c =
    let texts = map_grid g.R.Cell.CellText.text_of (g.R.GridStore.grid c.args.records.now) in
    record {
      sorted = subst AreSorted (sym c.deref.ensures.value) c.in_ok-sizes.ensures.sorted;
      each = subst (AllByRecursion HasArea) (sym c.deref.ensures.value) (runs_full c.args.axis texts (is_among c.args.axis c.in_ok-lines.lines) c.args.cfg.now c.in_ok-sizes.sizes.items c.in_ok-sizes.ensures);
    }

pub returns-clause-ok : goal.returns-clause-ok
returns-clause-ok g c = λ items gives.
    let grid = g.R.GridStore.grid c.args.records.now in
    let is : c.set_sizes.new.self ≡ with_sizes c.args.cfg.now c.in_ok-sizes.sizes.items = c.in_ok-set_sizes.ensures.ok ∙ ap (with_sizes c.args.cfg.now) c.deref.ensures.value in
    subst (MergesEach c.args.axis items (map_grid g.R.Cell.CellText.text_of grid) c.args.cfg.now) (sym is) (listed_merged c.args.axis (map_grid g.R.Cell.CellText.text_of grid) (is_among c.args.axis c.in_ok-lines.lines) items c.args.cfg.now c.in_ok-sizes.sizes.items (λ line within. c.in_ok-lines.ensures.named items gives line (same_lines g.R.Cell.CellText.text_of c.args.axis c.across.result grid c.count.result line c.across.ensures c.count.ensures.count within)) c.in_ok-sizes.ensures)
