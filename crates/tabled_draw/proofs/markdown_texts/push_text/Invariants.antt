use Rattle.std.specs.Prelude.{chars}
use Rattle.std.specs.String.{string_bytes}
use Rattle.tabled_draw.proofs.Common.{IsUtf8, chars_rest, encode_utf8_all, ◌++◌, ◌∷◌, ◌≡◌}
use Rattle.tabled_draw.specs.Markdown.{escaped, escaped_behind}
use Rattle.tabled_draw.proofs.markdown_texts.push_text.Given as goal

abbrev pub invariant-loop-after : goal.invariant-loop-after
invariant-loop-after l = record {
  can : goal.iterator-loop-after.can_next l.after-iterator;
  ends : goal.iterator-loop-after.is_finite l.after-iterator;
  utf8 : IsUtf8 (chars_rest l.after-iterator);
  same : string_bytes l.out ++ encode_utf8_all (escaped_behind l.before (l.here ∷ chars (chars_rest l.after-iterator))) ≡ string_bytes l.fn.out ++ encode_utf8_all (escaped l.fn.text);
}
