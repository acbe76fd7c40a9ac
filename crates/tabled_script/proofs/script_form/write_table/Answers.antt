use Rattle.tabled_held.proofs.Pens.{sends-as, sends-then}
use Rattle.tabled_script.proofs.Common.{◌++◌, ◌∙◌, ◌∷◌, [], AllByRecursion, IsUtf8, Vec, ap, ap₂, codes, decimal, flat_map, line, map, map_items, subst, sym, List, ℕ}
use Rattle.tabled_language.specs.Output.{row_line}
use Rattle.tabled_script.proofs.OutputLines.{table_lines-pieces}
use Rattle.tabled_script.proofs.Texts.{all_map}
use Rattle.tabled_script.proofs.script_form.write_table.Goals as goal

pub returns-clause-sends : goal.returns-clause-sends
returns-clause-sends g c =
    let text = g.T.CellText.text_of in
    let records = c.args.records.now.items in
    let rows = λ (rows : List (Vec _)). flat_map (λ (row : Vec _). row_line (map text row.items)) rows in
    sends-as (ap₂ (λ (shape : List ℕ) (lines : List ℕ). shape ++ lines) (ap₂ (λ (n k : ℕ). line (codes "shape" ∷ decimal n ∷ decimal k ∷ [])) c.count_rows.ensures.rows c.count_columns.ensures.columns) (ap rows c.deref.ensures.value) ∙ sym (table_lines-pieces text records))
    (sends-then c.write_numbers.ensures c.write_rows.ensures.sends)

pub returns-clause-texts : goal.returns-clause-texts
returns-clause-texts g c = λ works.
    let text = g.T.CellText.text_of in
    let records = c.args.records.now.items in
    let rows = subst (AllByRecursion (λ (r : Vec _). AllByRecursion IsUtf8 (map text r.items))) c.deref.ensures.value (c.write_rows.ensures.texts works) in
    all_map (AllByRecursion IsUtf8) (map text) (map_items records) (all_map (λ ts. AllByRecursion IsUtf8 (map text ts)) (λ (r : Vec _). r.items) records rows)
