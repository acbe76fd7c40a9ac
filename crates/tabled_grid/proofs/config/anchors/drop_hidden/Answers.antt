use Rattle.tabled_grid.proofs.Common.{◌∙◌, ◌≡◌, ap, drop, filter, length, sym, take_at}
use Rattle.tabled_grid.proofs.MarkedAnchors.{has_size, length_marked, sized_marked}
use Rattle.tabled_grid.proofs.config.anchors.drop_hidden.Goals as goal

pub returns : goal.returns
returns c =
    let old = c.args.anchors.now in
    let new = c.mark_hidden.new.anchors in
    let is : new ≡ Rattle.tabled_grid.specs.Anchors.marked old.items = c.mark_hidden.ensures ∙ ap Rattle.tabled_grid.specs.Anchors.marked c.deref_mut.ensures.value in
    let long : length new ≡ old.len = ap length is ∙ length_marked old.items ∙ sym old.ok.0 in
    c.drop_empty.ensures ∙ ap (filter has_size) (take_at new (drop (length new) old.items) old.len long ∙ is) ∙ sized_marked old.items c.requires.sorted c.requires.sizes
