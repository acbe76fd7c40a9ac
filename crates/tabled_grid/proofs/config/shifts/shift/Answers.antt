use Rattle.tabled_grid.proofs.Common.{◌∙◌, ◌≡◌, ap, drop, length, length-map, map, rules, sym, take_at}
use Rattle.std.proofs.lemmas.Fn.{filter_same}
use Rattle.tabled_grid.proofs.Shifts.{has_place, moved_one_by_one, shifted_or_kept}
use Rattle.tabled_grid.proofs.config.shifts.shift.Goals as goal

pub returns : goal.returns
returns c =
    let kept = c.retain.new.self in
    let new = c.shift_each.new.anchors in
    let change = shifted_or_kept c.args.axis c.args.from in
    let is : new ≡ map change kept.items = c.shift_each.ensures ∙ ap (map change) c.deref_mut.ensures.value in
    let long : length new ≡ kept.len = ap length is ∙ length-map _ _ ∙ sym kept.ok.0 in
    let those = filter_same _ (has_place c.args.axis c.args.from) _ (λ x b q h. search rules) c.args.anchors.now.items kept.items c.retain.ensures.filtered in
    take_at new (drop (length new) kept.items) kept.len long ∙ is ∙ ap (map change) those ∙ moved_one_by_one c.args.axis c.args.from c.args.anchors.now.items
