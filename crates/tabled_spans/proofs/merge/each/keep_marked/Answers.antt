use Rattle.std.proofs.lemmas.Fn.{filter_same}
use Rattle.std.specs.Prelude.{false, get_or}
use Rattle.tabled_spans.proofs.Common.{Rectangle, rules}
use Rattle.tabled_spans.specs.Lines.{line_at}
use Rattle.tabled_spans.proofs.merge.each.keep_marked.Goals as goal

pub returns : goal.returns
returns c = filter_same _ (λ (e : Rectangle). get_or c.args.marks.now (line_at c.args.axis e.first) false) _ (λ x b q h. let said = h.called.met in (search rules, search rules)) c.args.sizes.now.items c.retain.new.self.items c.retain.ensures.filtered
