use Rattle.std.specs.Borrow.{Bor}
use Rattle.tabled_texts.specs.Texts.{rows_of, text_of}
use Rattle.tabled_grid.specs.Grid.{IsEven}
use Rattle.tabled_json.proofs.Lines.{empty-is}
use Rattle.tabled_language.proofs.AllTold.{no_items}
use Rattle.tabled_language.specs.Lent.{texts_in_records}
use Rattle.tabled_language.specs.Parsing.{cell_texts}
use Rattle.tabled_language.specs.Script.{parse_between}
use Rattle.tabled_language.specs.declared.fault.Fault.{Fault}
use Rattle.tabled_script.proofs.Common.{[], ◌∙◌, ◌≡◌, Err, List, Ok, State, Vec, ap, ap₂, grid_of, map_items, refl, subst, sym, ℕ}
use Rattle.tabled_script.proofs.Outcomes.{of_end}
use Rattle.tabled_script.proofs.RowsAlone.{ended-alone, parse_between-rows, rows_alone}
use Rattle.tabled_script.specs.Outcome.{ComesOfState}
use Rattle.tabled_script.specs.InMemory.{said_by}
use Rattle.tabled_script.proofs.ending.run_between.Goals as goal

pub returns-in-Ok : goal.returns-in-Ok
returns-in-Ok g c =
    let rows = rows_of c.args.rows.items in
    let records : texts_in_records c.in_ok-records.records.items ≡ rows = c.in_ok-records.ensures in
    let script = c.args.script.now in
    let words : texts_in_records c.in_ok-words.words.items ≡ cell_texts c.args.request.now.steps.items = c.in_ok-words.ensures ∙ ap cell_texts c.deref-3.ensures.value in
    of_end c.args.request.now.form (parse_between rows script (cell_texts c.args.request.now.steps.items)) (said_by c.in-Ok.script) (g.W.Write.contents c.args.writer.now) (g.W.Write.contents c.run_parsed.new.writer) c.run_parsed.result
    (ap₂ (λ (front lists : List (List (List ℕ))). parse_between front script lists) (sym records) (sym words) ∙ c.in-Ok.ensures.script) c.run_parsed.ensures

pub returns-in-Err-Faulty : goal.returns-in-Err-Faulty
returns-in-Err-Faulty g c =
    let rows = rows_of c.args.rows.items in
    let records : texts_in_records c.in_ok-records.records.items ≡ rows = c.in_ok-records.ensures in
    let script = c.args.script.now in
    let words : texts_in_records c.in_ok-words.words.items ≡ cell_texts c.args.request.now.steps.items = c.in_ok-words.ensures ∙ ap cell_texts c.deref-3.ensures.value in
    let faulty = rw c.in-Err-Faulty.field-0-is at c.in-Err-Faulty.ensures.error in
    (ap₂ (λ (front lists : List (List (List ℕ))). parse_between front script lists) (sym records) (sym words) ∙ faulty ∙ sym (ap₂ (λ (line : ℕ) (fault : Fault). Err (line, fault)) c.in-Err-Faulty.line-is c.in-Err-Faulty.fault-is), refl)

pub returns-then-are_even : goal.returns-then-are_even
returns-then-are_even g c =
    let rows = rows_of c.args.rows.items in
    let no_script : c.args.script.now ≡ [] = empty-is c.args.script.now (sym c.if-is_empty.true ∙ c.is_empty.ensures) in
    let no_steps : c.args.request.now.steps.items ≡ [] = no_items c.args.request.now.steps (sym c.is_empty-then-is_empty.ensures ∙ c.if-is_empty-2.true) in
    let read : parse_between rows c.args.script.now (cell_texts c.args.request.now.steps.items) ≡ Ok (rows_alone rows) = rw (no_script, no_steps) (parse_between-rows rows) in
    let even : IsEven (grid_of (map_items c.args.rows.items)) = subst (λ (rows : List (Vec (Bor (List ℕ)))). IsEven (grid_of (map_items rows))) c.deref.ensures.value (c.if-are_even.ensures refl) in
    of_end c.args.request.now.form _ (rows_alone rows) (g.W.Write.contents c.args.writer.now) (g.W.Write.contents c.write_rows.new.writer) c.write_rows.result read
    (subst (λ (s : State). ComesOfState c.args.request.now.form s (g.W.Write.contents c.args.writer.now) (g.W.Write.contents c.write_rows.new.writer) c.write_rows.result) (sym (ended-alone text_of c.args.rows.items even)) c.write_rows.ensures)
