use Rattle.tabled_select.proofs.Common.{◌∙◌, ◌∷◌, ◌≡◌, false, flat, refl, sym, true}
use Rattle.tabled_select.proofs.NamedPlaces.{flat-within}
use Rattle.tabled_select.proofs.location.by_value.held_last.Goals as goal

pub loop-pos-init : goal.loop-pos-init
loop-pos-init g c =
    let grid = g.R.GridStore.grid c.args.records.now in
    let all : flat c.args.entities.items grid.rows grid.columns ≡ _ ∷ _ = sym (rw (c.count_rows.ensures.rows, c.count_columns.ensures.columns) at c.new-rest.ensures) ∙ c.in_ok-held.ensures.steps in
    let within = rw all at (flat-within c.args.entities.items grid.rows grid.columns) in
    record {
      can = tt;
      ends = tt;
      within = rw c.into_iter-pos-iterator.ensures.into_iter_gives within.1;
      held = within.0;
      rest = λ last folds. rw all (last, rw c.into_iter-pos-iterator.ensures.into_iter_gives at folds, refl);
    }

pub loop-pos-preserved-then-takes : goal.loop-pos-preserved-then-takes
loop-pos-preserved-then-takes g c =
    let within = rw c.in-Some.ensures.steps at c.loop-pos.invariant.within in
    record {
      can = tt;
      ends = tt;
      within = within.1;
      held = within.0;
      rest = λ last folds. c.loop-pos.invariant.rest last (rw c.in-Some.ensures.steps (c.in-Some.pos, (true, record { first = c.get_text.result; second = c.get_text-in-loop-pos.result; shows = (rw c.get_text.ensures refl, rw c.get_text-in-loop-pos.ensures refl); says = record { met = c.if-takes.ensures } }, refl), folds));
    }

pub loop-pos-preserved : goal.loop-pos-preserved
loop-pos-preserved g c =
    record {
      can = tt;
      ends = tt;
      within = (rw c.in-Some.ensures.steps at c.loop-pos.invariant.within).1;
      held = c.loop-pos.invariant.held;
      rest = λ last folds. c.loop-pos.invariant.rest last (rw c.in-Some.ensures.steps (c.loop-pos.held, (false, record { first = c.get_text.result; second = c.get_text-in-loop-pos.result; shows = (rw c.get_text.ensures refl, rw c.get_text-in-loop-pos.ensures refl); says = record { met = c.if-takes.ensures } }, refl), folds));
    }

pub returns : goal.returns
returns g c = c.loop-pos.invariant.rest c.loop-pos.held (rw c.in-None.ensures.steps.0 refl)
