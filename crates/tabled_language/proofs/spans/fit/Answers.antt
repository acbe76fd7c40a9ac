use Rattle.tabled_language.proofs.Common.{◌++◌, ◌∙◌, ◌≡◌, IfOk, IfOk-weaker, Rectangle, answers_always, ap, all_fit, rules, subst, sym}
use Rattle.tabled_language.proofs.PlacedAnchors.{InOrder, in_order, map_of_sorted, rows_rise, fit-any_order}
use Rattle.tabled_language.proofs.spans.fit.Goals as goal

pub have_places-requires : goal.have_places-requires
have_places-requires c =
    let es = c.args.anchors.now in
    let fs = c.sort_unstable_by_key.new.self.items in
    let order : InOrder es fs = in_order es c.extend_from_slice.new.self.items fs (c.in_ok-extend_from_slice.ensures.items ∙ ap (λ xs. xs ++ es) c.clear.ensures.items) c.sort_unstable_by_key.ensures.permutation c.requires (c.sort_unstable_by_key.ensures.sorted (λ (e : Rectangle). e.first) (answers_always _ _ _ (λ f a r g h. search rules))) in
    rw c.deref.ensures.value (record { rising = rows_rise es fs order; sizes = order.sizes })

pub returns : goal.returns
returns c =
    let es = c.args.anchors.now in
    let fs = c.sort_unstable_by_key.new.self.items in
    let order : InOrder es fs = in_order es c.extend_from_slice.new.self.items fs (c.in_ok-extend_from_slice.ensures.items ∙ ap (λ xs. xs ++ es) c.clear.ensures.items) c.sort_unstable_by_key.ensures.permutation c.requires (c.sort_unstable_by_key.ensures.sorted (λ (e : Rectangle). e.first) (answers_always _ _ _ (λ f a r g h. search rules))) in
    record {
      fit = subst (λ b. IfOk c.have_places.result (λ fit. fit ≡ b)) (ap (all_fit c.args.rows c.args.columns) c.deref.ensures.value ∙ fit-any_order c.args.rows c.args.columns es fs order.moved) c.have_places.ensures;
      made = IfOk-weaker c.have_places.result _ _ (λ fit is yes. map_of_sorted c.args.rows c.args.columns es fs order (ap (all_fit c.args.rows c.args.columns) (sym c.deref.ensures.value) ∙ sym is ∙ yes)) c.have_places.ensures;
    }
