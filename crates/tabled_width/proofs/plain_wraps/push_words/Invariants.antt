use Rattle.std.proofs.Common.{◌++◌, ◌≡◌, ◌≤◌, Some, encode_utf8_all, length, map, true}
use Rattle.std.specs.Prelude.{chars}
use Rattle.std.specs.String.{string_bytes}
use Rattle.tabled_width.proofs.PlainPieces.{singles}
use Rattle.tabled_width.specs.Pieces.{pieces}
use Rattle.tabled_width.specs.Plain.{IsPlainRest, words_left}
use Rattle.tabled_width.specs.Wraps.{with_words, wrapped_line}
use Rattle.tabled_width.proofs.plain_wraps.push_words.Given as goal

abbrev pub invariant-loop-rest : goal.invariant-loop-rest
invariant-loop-rest l = record {
  plain : IsPlainRest l.rest;
  within : l.used ≤ l.fn.width;
  put : string_bytes l.out ++ encode_utf8_all (with_words l.fn.width (Some l.used) (map singles (words_left l.rest))) ≡ string_bytes l.fn.out ++ encode_utf8_all (wrapped_line l.fn.width true (pieces (chars l.fn.text)));
}

abbrev pub decreases-loop-rest : goal.decreases-loop-rest
decreases-loop-rest l = length (words_left l.rest)
