use Rattle.tabled_table.proofs.Common.{[], ◌++◌, ◌+◌, ◌<◌, ◌∙◌, ◌∷◌, ◌≡◌, Global, List, String, Vec, ap, ap₂, arith, changed_all, changed_more, column_of, get_or, get_or-map, length, length-map, map, map-remove, map_more, map_push, rest_more, rest_next, row_texts, string_bytes, sym, take, take_all, texts_of, vec_len, ℕ}
use Rattle.tabled_table.proofs.builder.columns.take_column.Goals as goal

-- the text that is taken out of the next row belongs to the column
column_more : (rows : List (Vec (String Global))) (column : List (String Global)) (i j : ℕ) (row : Vec (String Global)) (cell : String Global) → i < length rows → string_bytes cell ≡ get_or (texts_of (get_or rows i row)) j [] →
    map string_bytes column ≡ column_of (take i (row_texts rows)) j → map string_bytes (column ++ cell ∷ []) ≡ column_of (take (i + 1) (row_texts rows)) j
column_more rows column i j row cell inside is before =
    map_push string_bytes column cell
    ∙ ap₂ (λ ts t. ts ++ t ∷ []) before (is ∙ ap (λ (texts : List (List ℕ)). get_or texts j []) (sym (get_or-map texts_of rows i row (texts_of row) inside)))
    ∙ sym (map_more (λ (texts : List (List ℕ)). get_or texts j []) (row_texts rows) i (texts_of row) (omega (arith, length-map rows texts_of)))

pub remove-requires : goal.remove-requires
remove-requires c = rw (rest_next _ _ c.loop-row.row-index c.row-item.result c.loop-row.invariant.rest) (c.requires _ _ (omega arith))

pub loop-row-preserved : goal.loop-row-preserved
loop-row-preserved c =
    let i = c.loop-row.row-index in
    let d = c.row-item.result in
    let row = get_or c.loop-row.rows i d in
    let same : row ≡ get_or c.args.rows.now i d = rest_next _ _ i d c.loop-row.invariant.rest in
    let within : c.args.j < length row.items = omega (arith, row.ok.0, ap vec_len same, c.requires i d (omega arith)) in
    record {
      rows = changed_more _ _ _ _ _ d c.remove.new.self (omega arith) c.loop-row.invariant.rows (ap (map string_bytes) c.remove.ensures.items ∙ map-remove string_bytes _ _);
      rest = rest_more c.args.rows.now c.loop-row.rows i c.remove.new.self c.loop-row.invariant.rest;
      column = ap (map string_bytes) c.in_ok-push.ensures.items
          ∙ column_more c.args.rows.now c.loop-row.column.items i c.args.j d c.remove.result (omega arith)
          (ap string_bytes c.remove.ensures.value ∙ sym (get_or-map string_bytes row.items c.args.j c.remove.result [] within) ∙ ap (λ (r : Vec (String Global)). get_or (texts_of r) c.args.j []) same) c.loop-row.invariant.column;
    }

pub returns-clause-column : goal.returns-clause-column
returns-clause-column c = c.loop-row.invariant.column ∙ ap (λ rows. column_of rows c.args.j) (take_all c.loop-row.row-index (row_texts c.args.rows.now) (omega (arith, length-map c.args.rows.now texts_of)))

pub returns-clause-rows : goal.returns-clause-rows
returns-clause-rows c = changed_all _ _ _ _ _ (omega arith) c.loop-row.invariant.rows
