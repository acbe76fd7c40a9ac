use Rattle.std.proofs.Common.{length, length-set, map-id}
use Rattle.std.proofs.lemmas.Iterator.{items_from_drains}
use Rattle.tabled_settings.proofs.Common.{[], ◌++◌, ◌<◌, ◌∙◌, ◌∷◌, ◌≡◌, List, TellsLocated, ap, arith, rules, subst, sym, true, ℕ}
use Rattle.tabled_settings.proofs.TakenInOrder.{marks_back, taken-new, taken-same, told-later, told-new}
use Rattle.tabled_settings.specs.Kept.{taken_in_order}
use Rattle.tabled_settings.proofs.keep.taken_in_order.Goals as goal

pub loop-index-preserved : goal.loop-index-preserved
loop-index-preserved g c =
    let u = c.loop-index.invariant in
    let found = c.loop-index.yielded in
    let old = c.loop-index.taken.items in
    let value = c.deref_mut.ensures.value in
    let said = (rw value at (c.mark_first.ensures.later c.if-mark_first.false)) in
    let later = told-later found c.args.count c.in-Some.index old u.told said.0 in
    let back = marks_back c.loop-index.taken.len old c.mark_first.new.marks (ap length said.1) (omega (arith, ap length value, c.deref_mut.ensures.len)) ∙ said.1 in
    record {
      can = search rules;
      ends = search rules;
      told = subst (TellsLocated (found ++ c.in-Some.index ∷ []) c.args.count) (sym back) later.0;
      in_order = u.in_order ∙ sym later.1;
    }

pub loop-index-preserved-in-Continue-branch-3 : goal.loop-index-preserved-in-Continue-branch-3
loop-index-preserved-in-Continue-branch-3 g c =
    let u = c.loop-index.invariant in
    let found = c.loop-index.yielded in
    let index = c.in-Some.index in
    let old = c.loop-index.taken.items in
    let value = c.deref_mut.ensures.value in
    let said = (rw value at (c.mark_first.ensures.first c.if-mark_first.true)) in
    let inside : index < c.args.count = omega (arith, said.0, u.told.many) in
    let long = ap length said.2 ∙ length-set old index true in
    let back = marks_back c.loop-index.taken.len old c.mark_first.new.marks long (omega (arith, ap length value, c.deref_mut.ensures.len)) ∙ said.2 in
    record {
      can = search rules;
      ends = search rules;
      told = subst (TellsLocated (found ++ index ∷ []) c.args.count) (sym back) (told-new found c.args.count index old u.told inside);
      in_order =
          c.in_ok-push.ensures.items
          ∙ ap (λ (xs : List ℕ). xs ++ index ∷ []) u.in_order
          ∙ sym (taken-new found c.args.count index inside (sym (u.told.tells index inside) ∙ said.1));
    }

pub returns : goal.returns
returns g c =
    let listed = c.in_ok-found.ensures.lists in
    let over = listed.4 _ c.into_iter-index-iterator.ensures.into_iter_gives in
    let all = c.loop-index.yielded in
    let given : all ≡ listed.1 = sym (map-id all) ∙ items_from_drains {steps = g.L.IntoIter.IntoIter.Iterator.next_gives} {s = c.into_iter-index-iterator.result} all (c.loop-index.index-iterator, c.loop-index.yielded_by, λ _. (c.next.new.self, c.in-None.ensures.steps)) (record { runs = over.gives }) in (
      listed.0,
      listed.2,
      c.loop-index.invariant.in_order ∙ ap (λ found. taken_in_order found c.args.count) given ∙ taken-same listed.0 listed.1 c.args.count listed.3,
    )
