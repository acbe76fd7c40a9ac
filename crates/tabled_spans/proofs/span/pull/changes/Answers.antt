use Rattle.tabled_spans.proofs.Common.{◌∙◌, inside-within, refl}
use Rattle.tabled_spans.proofs.span.pull.changes.Goals as goal

pub loop-pos-init : goal.loop-pos-init
loop-pos-init c =
    let items = c.into_iter-pos-iterator.ensures.into_iter_gives ∙ c.iter-pos-items.ensures in
    record {
      within = rw items (inside-within c.args.entity c.args.rows c.args.columns);
      sorted = rw c.new-changes.ensures.items tt;
      full = rw c.new-changes.ensures.items tt;
      spans = rw (items, c.new-changes.ensures.items) refl;
    }
