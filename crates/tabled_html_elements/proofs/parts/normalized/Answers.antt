use Rattle.std.proofs.Common.{◌∙◌, ◌++◌, ap, append-nil, sym}
use Rattle.std.proofs.lemmas.List.{drop_all}
use Rattle.tabled_html_reading.specs.Tokenizing.{normalized_behind}
use Rattle.tabled_html_elements.proofs.parts.normalized.Goals as goal

pub returns : goal.returns
returns c = sym (c.loop-byte.invariant ∙ ap (λ bs. c.loop-byte.out.items ++ normalized_behind c.loop-byte.is_behind_return bs) (drop_all _ _ c.loop-byte-test.false) ∙ append-nil _)
