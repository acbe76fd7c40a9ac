use Rattle.tabled_select.proofs.Common.{[], ◌∙◌, ◌∷◌, append-nil, append_assoc, false, inside-within, refl, sym, true}
use Rattle.tabled_select.proofs.location.search.search.Goals as goal

pub loop-pos-init : goal.loop-pos-init
loop-pos-init g c =
    let grid = g.R.GridStore.grid c.args.records.now in
    let all = c.into_iter-pos-iterator.ensures.into_iter_gives ∙ (rw (c.count_rows.ensures.rows, c.count_columns.ensures.columns) at c.iter-pos-items.ensures) in
    record {
      can = tt;
      ends = tt;
      within = rw all (inside-within c.args.entity grid.rows grid.columns);
      rest = λ picked picks. (picked, (rw all at picks), rw c.new-found.ensures.items refl);
    }

pub loop-pos-preserved-in-Continue-1 : goal.loop-pos-preserved-in-Continue-1
loop-pos-preserved-in-Continue-1 g c =
    record {
      can = tt;
      ends = tt;
      within = (rw c.in-Some.ensures.steps at c.loop-pos.invariant.within).1;
      rest = λ picked picks.
          let all = c.loop-pos.invariant.rest (c.in-Some.pos ∷ picked) (rw c.in-Some.ensures.steps (true, picked, record { shown = c.get_text.result; shows = rw c.get_text.ensures refl; says = record { met = c.if-says.ensures } }, picks, refl)) in
          (all.0, all.1, all.2 ∙ rw (c.in_ok-push.ensures.items, c.tell.ensures, append_assoc) refl);
    }

pub loop-pos-preserved : goal.loop-pos-preserved
loop-pos-preserved g c =
    record {
      can = tt;
      ends = tt;
      within = (rw c.in-Some.ensures.steps at c.loop-pos.invariant.within).1;
      rest = λ picked picks. c.loop-pos.invariant.rest picked (rw c.in-Some.ensures.steps (false, picked, record { shown = c.get_text.result; shows = rw c.get_text.ensures refl; says = record { met = c.if-says.ensures } }, picks, refl));
    }

pub returns : goal.returns
returns g c =
    let all = c.loop-pos.invariant.rest [] (rw c.in-None.ensures.steps.0 refl) in
    (all.0, all.1, sym (rw append-nil at all.2))
