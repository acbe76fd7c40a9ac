use Rattle.tabled_settings.proofs.Common.{[], ◌∙◌, ◌∷◌, ◌≡◌, append_assoc, inside, inside-within, map_grid, on_err, refl}
use Rattle.tabled_settings.proofs.Rewriting.{inside-apart, rewritten-all, rewritten-kept, rewritten-more, rewritten-none, rewritten-until, same-texts, untouched}
use Rattle.tabled_settings.proofs.rewrite.rewrite.Goals as goal

pub loop-pos-init : goal.loop-pos-init
loop-pos-init g c =
    let first = g.R.GridStore.grid c.args.records.now in
    let all : c.into_iter-pos-iterator.result ≡ inside c.args.entity first.rows first.columns = c.into_iter-pos-iterator.ensures.into_iter_gives ∙ (rw (c.count_rows.ensures.rows, c.count_columns.ensures.columns) at c.iter-pos-items.ensures) in
    record {
      can = tt;
      ends = tt;
      well = c.requires.well;
      can_answer = c.requires.can;
      rows = refl;
      columns = refl;
      within = rw all (inside-within c.args.entity first.rows first.columns);
      apart = rw all (inside-apart c.args.entity first.rows first.columns);
      all = all;
      same = same-texts (map_grid g.R.Cell.CellText.text_of first) _;
      so_far = rewritten-none _ _ _;
    }

pub get_text-old-requires-clause-well : goal.get_text-old-requires-clause-well
get_text-old-requires-clause-well g c = c.loop-pos.invariant.well

pub get_text-old-requires-clause-inside : goal.get_text-old-requires-clause-inside
get_text-old-requires-clause-inside g c =
    let here = (rw c.in-Some.ensures.steps at c.loop-pos.invariant.within).0 in
    record { row = rw c.loop-pos.invariant.rows here.0; col = rw c.loop-pos.invariant.columns here.1 }

pub answer-requires : goal.answer-requires
answer-requires g c = record { can = c.loop-pos.invariant.can_answer }

pub returns-in_err-text-clause-well : goal.returns-in_err-text-clause-well
returns-in_err-text-clause-well g c = c.loop-pos.invariant.well

pub returns-in_err-text-clause-err : goal.returns-in_err-text-clause-err
returns-in_err-text-clause-err g c =
    let i = c.loop-pos.invariant in
    on_err c.from_residual.result (rewritten-until _ _ _ _ _ _ _ _ _ (rw c.in-Some.ensures.steps at i.all) i.so_far)

pub set-requires-clause-well : goal.set-requires-clause-well
set-requires-clause-well g c = c.loop-pos.invariant.well

pub set-requires-clause-inside : goal.set-requires-clause-inside
set-requires-clause-inside g c =
    let here = (rw c.in-Some.ensures.steps at c.loop-pos.invariant.within).0 in
    record { row = rw c.loop-pos.invariant.rows here.0; col = rw c.loop-pos.invariant.columns here.1 }

pub loop-pos-preserved-in-Continue-branch-2 : goal.loop-pos-preserved-in-Continue-branch-2
loop-pos-preserved-in-Continue-branch-2 g c =
    let texts = λ (r : _). map_grid g.R.Cell.CellText.text_of (g.R.GridStore.grid r) in
    let i = c.loop-pos.invariant in
    let apart = rw c.in-Some.ensures.steps at i.apart in
    let same = rw c.in-Some.ensures.steps at i.same in
    record {
      can = tt;
      ends = tt;
      well = c.set.ensures.well;
      can_answer = c.in_ok-text.ensures.can;
      rows = c.set.ensures.rows ∙ i.rows;
      columns = c.set.ensures.columns ∙ i.columns;
      within = (rw c.in-Some.ensures.steps at i.within).1;
      apart = apart.1;
      all = append_assoc c.loop-pos.yielded (c.in-Some.pos ∷ []) c.next.new.self ∙ (rw c.in-Some.ensures.steps at i.all);
      same = untouched (texts c.args.records.now) (texts c.loop-pos.records) _ _ _ _ c.in_ok-set.ensures.texts apart.0 same.1;
      so_far = rw c.in_ok-set.ensures.texts (rewritten-more _ _ _ _ _ _ _ _ _ i.so_far (rw (← same.0, c.get_text-old.ensures) c.in_ok-text.ensures.asks));
    }

pub loop-pos-preserved : goal.loop-pos-preserved
loop-pos-preserved g c =
    let i = c.loop-pos.invariant in
    let same = rw c.in-Some.ensures.steps at i.same in
    record {
      can = tt;
      ends = tt;
      well = i.well;
      can_answer = i.can_answer;
      rows = i.rows;
      columns = i.columns;
      within = (rw c.in-Some.ensures.steps at i.within).1;
      apart = (rw c.in-Some.ensures.steps at i.apart).1;
      all = append_assoc c.loop-pos.yielded (c.in-Some.pos ∷ []) c.next.new.self ∙ (rw c.in-Some.ensures.steps at i.all);
      same = same.1;
      so_far = rewritten-kept _ _ _ _ _ _ _ i.so_far (rw (← same.0, c.get_text-old.ensures) (c.keeps.ensures c.if-not-keeps.false));
    }

pub returns-in_err-set-clause-err : goal.returns-in_err-set-clause-err
returns-in_err-set-clause-err g c =
    let i = c.loop-pos.invariant in
    on_err c.from_residual-in_err-set.result (rw c.in_err-set.ensures.err (rewritten-until _ _ _ _ _ _ _ _ _ (rw c.in-Some.ensures.steps at i.all) i.so_far))

pub returns-clause-well : goal.returns-clause-well
returns-clause-well g c = c.loop-pos.invariant.well

pub returns-clause-ok : goal.returns-clause-ok
returns-clause-ok g c = rewritten-all _ _ _ _ _ _ _ (rw c.in-None.ensures.steps.0 at c.loop-pos.invariant.all) c.loop-pos.invariant.so_far
