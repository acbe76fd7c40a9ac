use Rattle.std.proofs.lemmas.Result.{IfOk-weaker}
use Rattle.tabled_draw.proofs.Common.{◌∙◌, ◌≡◌, ap, length, map_grid}
use Rattle.tabled_draw.proofs.Fitting.{fits-of}
use Rattle.tabled_grid.specs.Grid.{map_items}
use Rattle.tabled_script.specs.InMemory.{grid_of_texts}
use Rattle.tabled_script.proofs.Rooms.{cut-is, length-limits-of, limits-are}
use Rattle.tabled_script.specs.Narrow.{limits_of}
use Rattle.tabled_script.proofs.narrow.cut_to.Goals as goal

pub returns-clause-texts : goal.returns-clause-texts
returns-clause-texts g c =
    let t = map_grid g.R.Cell.CellText.text_of (g.R.GridStore.grid c.args.records.now) in
    let limits : c.deref-4.result.now ≡ limits_of c.args.width c.args.style.now c.args.cfg.now t =
    limits-are c.args.width c.args.style.now c.args.cfg.now t c.in_ok-of_lines.of_lines.items c.in_ok-of_words.of_words.items c.in_ok-of_pieces.of_pieces.items c.deref.result.now c.deref-2.result.now c.deref-3.result.now c.in_ok-widths.widths.items c.deref-4.result.now (grid_of_texts (map_items c.args.pieces.now.items)) c.in_ok-of_lines.ensures.widths c.in_ok-of_words.ensures c.requires.pieces c.in_ok-of_pieces.ensures.widths c.deref.ensures.value c.deref-2.ensures.value c.deref-3.ensures.value c.in_ok-widths.ensures c.deref-4.ensures.value in
    IfOk-weaker c.wrapped_texts.result _ _
    (λ texts is. is ∙ cut-is c.args.width c.args.style.now c.args.cfg.now t c.count_rows.result c.count_columns.result c.in_ok-kept.kept c.deref-4.result.now c.count_rows.ensures.rows c.count_columns.ensures.columns c.in_ok-kept.ensures.fitting limits)
    c.wrapped_texts.ensures.texts

pub wrapped_texts-requires-clause-columns : goal.wrapped_texts-requires-clause-columns
wrapped_texts-requires-clause-columns g c =
    let t = map_grid g.R.Cell.CellText.text_of (g.R.GridStore.grid c.args.records.now) in
    let limits : c.deref-4.result.now ≡ limits_of c.args.width c.args.style.now c.args.cfg.now t =
    limits-are c.args.width c.args.style.now c.args.cfg.now t c.in_ok-of_lines.of_lines.items c.in_ok-of_words.of_words.items c.in_ok-of_pieces.of_pieces.items c.deref.result.now c.deref-2.result.now c.deref-3.result.now c.in_ok-widths.widths.items c.deref-4.result.now (grid_of_texts (map_items c.args.pieces.now.items)) c.in_ok-of_lines.ensures.widths c.in_ok-of_words.ensures c.requires.pieces c.in_ok-of_pieces.ensures.widths c.deref.ensures.value c.deref-2.ensures.value c.deref-3.ensures.value c.in_ok-widths.ensures c.deref-4.ensures.value in
    record {
      fits = fits-of t c.args.cfg.now c.in_ok-kept.kept _ _ c.count_rows.ensures.rows c.count_columns.ensures.columns c.in_ok-kept.ensures.fitting;
      each = λ some. ap length limits ∙ length-limits-of c.args.width c.args.style.now c.args.cfg.now t some;
    }
