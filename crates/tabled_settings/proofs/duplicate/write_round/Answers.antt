use Rattle.tabled_settings.proofs.Common.{[], ◌%◌, ◌+◌, ◌∙◌, ◌≡◌, ap, ap₂, get_or, get_or-map, inside, inside-within, length, length-map, map, map_grid, mod-add-mod, on_err, refl, some-next, some-none, string_bytes, sym, with_cell, zero-mod, ℕ}
use Rattle.tabled_settings.proofs.duplicate.write_round.Goals as goal

pub loop-pos-init : goal.loop-pos-init
loop-pos-init g c =
    let first = g.R.GridStore.grid c.args.records.now in
    let all : c.into_iter-pos-iterator.result ≡ inside c.args.entity first.rows first.columns = c.into_iter-pos-iterator.ensures.into_iter_gives ∙ (rw (c.count_rows.ensures.rows, c.count_columns.ensures.columns) at c.iter-pos-items.ensures) in
    record {
      can = tt;
      ends = tt;
      well = c.requires.well;
      rows = refl;
      columns = refl;
      within = rw all (inside-within c.args.entity first.rows first.columns);
      next = c.requires.some;
      left = (0, sym (zero-mod (length (map string_bytes c.args.texts.now))), rw all refl, λ h s. rw all at s);
    }

pub bounds-texts-next : goal.bounds-texts-next
bounds-texts-next g c = c.loop-pos.invariant.next

pub returns-in_err-clone-clause-well : goal.returns-in_err-clone-clause-well
returns-in_err-clone-clause-well g c = c.loop-pos.invariant.well

pub returns-in_err-clone-clause-rows : goal.returns-in_err-clone-clause-rows
returns-in_err-clone-clause-rows g c = c.loop-pos.invariant.rows

pub returns-in_err-clone-clause-columns : goal.returns-in_err-clone-clause-columns
returns-in_err-clone-clause-columns g c = c.loop-pos.invariant.columns

pub returns-in_err-clone-clause-err : goal.returns-in_err-clone-clause-err
returns-in_err-clone-clause-err g c = on_err c.from_residual.result (c.loop-pos.invariant.left.3 _ (rw c.in-Some.ensures.steps (some-none _ _ _)))

pub set-requires-clause-well : goal.set-requires-clause-well
set-requires-clause-well g c = c.loop-pos.invariant.well

pub set-requires-clause-inside : goal.set-requires-clause-inside
set-requires-clause-inside g c =
    let here = (rw c.in-Some.ensures.steps at c.loop-pos.invariant.within).0 in
    record { row = rw c.loop-pos.invariant.rows here.0; col = rw c.loop-pos.invariant.columns here.1 }

pub returns-in_err-set-clause-rows : goal.returns-in_err-set-clause-rows
returns-in_err-set-clause-rows g c = c.set.ensures.rows ∙ c.loop-pos.invariant.rows

pub returns-in_err-set-clause-columns : goal.returns-in_err-set-clause-columns
returns-in_err-set-clause-columns g c = c.set.ensures.columns ∙ c.loop-pos.invariant.columns

pub returns-in_err-set-clause-err : goal.returns-in_err-set-clause-err
returns-in_err-set-clause-err g c = on_err c.from_residual-in_err-set.result (c.loop-pos.invariant.left.3 _ (rw (c.in-Some.ensures.steps, c.in_err-set.ensures.err) (some-none _ _ _)))

pub loop-pos-preserved : goal.loop-pos-preserved
loop-pos-preserved g c =
    let i = c.loop-pos.invariant in
    let texts = map string_bytes c.args.texts.now in
    let k = i.left.0 in
    let same = sym (length-map c.args.texts.now string_bytes) in
    let text : string_bytes c.in_ok-clone.field-0 ≡ get_or texts (k % length texts) [] = c.in_ok-clone.ensures.cases ∙ ap string_bytes c.index-texts-next.is ∙ sym (get_or-map string_bytes c.args.texts.now c.loop-pos.next c.index-texts-next.result [] i.next) ∙ ap (λ x. get_or texts x []) i.left.1 in
    let put = c.in_ok-set.ensures.texts ∙ ap (with_cell (map_grid g.R.Cell.CellText.text_of (g.R.GridStore.grid c.loop-pos.records)) c.in-Some.pos) text in
    record {
      can = tt;
      ends = tt;
      well = c.set.ensures.well;
      rows = c.set.ensures.rows ∙ i.rows;
      columns = c.set.ensures.columns ∙ i.columns;
      within = (rw c.in-Some.ensures.steps at i.within).1;
      next = c.index_after-next.ensures.within;
      left = (k + 1, c.index_after-next.ensures.next ∙ ap₂ (λ (a n : ℕ). (a + 1) % n) i.left.1 same ∙ mod-add-mod k (length texts) 1, rw put (rw c.in-Some.ensures.steps at i.left.2), λ h s. i.left.3 h (rw c.in-Some.ensures.steps (some-next _ _ _ h (rw put at s))));
    }

pub returns-clause-well : goal.returns-clause-well
returns-clause-well g c = c.loop-pos.invariant.well

pub returns-clause-rows : goal.returns-clause-rows
returns-clause-rows g c = c.loop-pos.invariant.rows

pub returns-clause-columns : goal.returns-clause-columns
returns-clause-columns g c = c.loop-pos.invariant.columns

pub returns-clause-ok : goal.returns-clause-ok
returns-clause-ok g c = rw c.in-None.ensures.steps.0 at c.loop-pos.invariant.left.2
