use Rattle.std.proofs.Common.{rules, ◌≡◌, ℕ, ℤ, ◌<◌, ◌≤◌, [], length, get_or, map, Bor, List, ap, arith, below_more, subst, sym, ◌∙◌, refl, ⊎_elim}
use Rattle.std.proofs.lemmas.Bool.{cases_lt}
use Rattle.std.proofs.lemmas.Int.{to_z-of_z}
use Rattle.std.proofs.lemmas.List.{get_or-map, get_or_past, length-map}
use Rattle.tabled_decimal.specs.Numbers.{decimal}
use Rattle.tabled_settings.specs.Keys.{lent_text}
use Rattle.tabled_settings.specs.Ranks.{IsRank, last_rank}
use Rattle.tabled_settings.proofs.sort.ranks.ranks_of.Goals as goal
use mir.Syntax.{w64}
use mir.Val.{of_z, to_z}

pub loop-text-preserved : goal.loop-text-preserved
loop-text-preserved c =
    let texts = c.args.texts.now in
    let index = c.loop-text.text-index in
    let ranks = c.push.new.self.items in
    let long : index < length texts = c.loop-text-test.true in
    let passed : to_z w64 (of_z w64 c.in-Some.rank) ≡ c.in-Some.rank = search (rules, to_z-of_z) in
    let rank : get_or ranks index last_rank ≡ c.in-Some.rank = ap (λ (k : ℕ). get_or ranks k last_rank) (sym c.loop-text.invariant.0) ∙ c.in_ok-push-in-Some.ensures.by_index.1 last_rank refl ∙ passed in
    let text : lent_text texts index ≡ (get_or texts index (record { ref_ptr = (0, 0); now = [] })).now = get_or-map (λ (t : Bor (List ℕ)). t.now) texts index (record { ref_ptr = (0, 0); now = [] }) [] long in (
      omega (arith, c.in_ok-push-in-Some.ensures.len),
      below_more _ _
          (λ i below. subst (IsRank c.args.descending (decimal (lent_text texts i))) (sym (c.in_ok-push-in-Some.ensures.by_index.0 i last_rank (omega arith))) (c.loop-text.invariant.1 i below))
          (subst (λ (t : List ℕ). IsRank c.args.descending (decimal t) (get_or ranks index last_rank)) (sym text) (subst (IsRank c.args.descending (decimal (get_or texts index (record { ref_ptr = (0, 0); now = [] })).now)) (sym rank) c.in-Some.ensures)),
    )

pub returns : goal.returns
returns c = λ i.
    let texts = c.args.texts.now in
    ⊎_elim
    (λ (below : i < c.loop-text.text-index). c.loop-text.invariant.1 i below)
    (λ (past : c.loop-text.text-index ≤ i).
    let none : lent_text texts i ≡ [] = get_or_past (map (λ (t : Bor (List ℕ)). t.now) texts) i [] (rw length-map (omega arith)) in
    let last : get_or c.loop-text.ranks.items i last_rank ≡ last_rank = get_or_past c.loop-text.ranks.items i last_rank (omega arith) in
    subst (λ (t : List ℕ). IsRank c.args.descending (decimal t) (get_or c.loop-text.ranks.items i last_rank)) (sym none) last)
    (cases_lt i c.loop-text.text-index)
