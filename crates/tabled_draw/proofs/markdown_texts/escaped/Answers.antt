use Rattle.std.proofs.lemmas.Str.{IsUtf8-string_bytes, chars_from_encodes}
use Rattle.tabled_draw.proofs.Common.{ap, encode_utf8_all, sym, ◌++◌, ◌∙◌}
use Rattle.tabled_draw.specs.Markdown.{escaped}
use Rattle.tabled_draw.proofs.markdown_texts.escaped.Goals as goal

pub returns : goal.returns
returns c = sym (chars_from_encodes (escaped c.args.text.now) _ (IsUtf8-string_bytes c.push_text.new.out) (sym (c.in_ok-push_text.ensures ∙ ap (λ bs. bs ++ encode_utf8_all (escaped c.args.text.now)) c.in_ok-out.ensures.bytes)))
