use Rattle.tabled_settings.proofs.Common.{◌∙◌, FirstWrites, ap, ap₂, inside, into_iter_items, map, map_grid, on_err, round_from, round_writes, some-first, some-later, string_bytes, subst, sym, with_writes, writes-append}
use Rattle.tabled_settings.proofs.duplicate.write_rounds.Goals as goal

pub loop-entity-preserved : goal.loop-entity-preserved
loop-entity-preserved g c =
    let i = c.loop-entity.invariant in
    let first = g.R.GridStore.grid c.args.records.now in
    let texts = map string_bytes c.args.texts.now in
    let one = round_from 0 texts (inside c.in-Some.entity first.rows first.columns) in
    let left = round_writes texts first.rows first.columns (into_iter_items c.next.new.self) in
    let now = map_grid g.R.Cell.CellText.text_of (g.R.GridStore.grid c.loop-entity.records) in
    let put = c.in_ok-write_round.ensures.ok ∙ ap (λ places. with_writes (round_from 0 texts places) now) (ap₂ (inside c.in-Some.entity) i.rows i.columns) in
    record {
      well = c.write_round.ensures.well;
      rows = c.write_round.ensures.rows ∙ i.rows;
      columns = c.write_round.ensures.columns ∙ i.columns;
      ok = rw put (sym (writes-append one left _) ∙ rw c.in-Some.ensures.items at i.ok);
      err = λ h s. i.err h (rw c.in-Some.ensures.items (some-later one left _ h (rw put at s)));
    }

pub returns-in_err-write_round-clause-err : goal.returns-in_err-write_round-clause-err
returns-in_err-write_round-clause-err g c =
    let i = c.loop-entity.invariant in
    let first = g.R.GridStore.grid c.args.records.now in
    let texts = map string_bytes c.args.texts.now in
    let one = round_from 0 texts (inside c.in-Some.entity first.rows first.columns) in
    let left = round_writes texts first.rows first.columns (into_iter_items c.next.new.self) in
    let grid = λ (r : _). map_grid g.R.Cell.CellText.text_of (g.R.GridStore.grid r) in
    let some = subst (λ places. FirstWrites (round_from 0 texts places) (grid c.loop-entity.records) (grid c.write_round.new.records)) (ap₂ (inside c.in-Some.entity) i.rows i.columns) c.in_err-write_round.ensures.err in
    on_err c.from_residual.result (i.err _ (rw c.in-Some.ensures.items (some-first one left _ _ some)))
