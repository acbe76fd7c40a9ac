use Rattle.tabled_spans.proofs.Common.{◌++◌, ◌≡◌, IsUtf8, chars, chars_rest, encode_utf8_all, pieces}
use Rattle.std.proofs.Common.{string_bytes}
use Rattle.tabled_spans.proofs.panel.width.cut_text.Given as goal

abbrev pub invariant-loop-c : goal.invariant-loop-c
invariant-loop-c l = record {
  can : goal.iterator-loop-c.can_next l.c-iterator;
  ends : goal.iterator-loop-c.is_finite l.c-iterator;
  utf8 : IsUtf8 (chars_rest l.c-iterator);
  same : string_bytes l.out ++ encode_utf8_all (pieces l.fn.width l.used (chars (chars_rest l.c-iterator))) ≡ encode_utf8_all (pieces l.fn.width 0 (chars l.fn.text));
}
