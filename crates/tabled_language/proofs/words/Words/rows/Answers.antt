use Rattle.tabled_language.proofs.Common.{[], ◌∙◌, ◌∷◌, Global, String, ap, drop, map, map-append, map_items, string_bytes, take}
use Rattle.std.proofs.Common.{Vec}
use Rattle.tabled_language.proofs.TableRows.{left_more, row_left, rows_more}
use Rattle.tabled_language.proofs.words.Words.rows.Goals as goal

pub row-requires : goal.row-requires
row-requires c = rw c.loop.invariant.left (row_left c.args.columns c.args.rows c.loop.counter c.args.self.now c.loop-test.true c.requires)

pub loop-preserved : goal.loop-preserved
loop-preserved c =
    let row = c.in_ok-row.row in
    record {
      texts = rw (c.in_ok-push.ensures.items, map-append (λ (v : Vec (String Global) Global). v.items) c.loop.cells.items (row ∷ []))
          (rows_more (map string_bytes) c.args.columns c.loop.counter c.args.self.now (map_items c.loop.cells.items) row.items c.loop.invariant.texts (c.in_ok-row.ensures.0 ∙ ap (take c.args.columns) c.loop.invariant.left));
      left = c.in_ok-row.ensures.1 ∙ ap (drop c.args.columns) c.loop.invariant.left ∙ left_more c.args.columns c.loop.counter c.args.self.now;
    }
