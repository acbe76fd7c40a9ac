use Rattle.std.proofs.Common.{◌++◌, ◌≡◌, None, encode_utf8_all, length, map}
use Rattle.std.specs.List.{AllByRecursion}
use Rattle.std.specs.Str.{IsUtf8}
use Rattle.std.specs.Prelude.{chars}
use Rattle.std.specs.String.{string_bytes}
use Rattle.tabled_width.specs.Pieces.{pieces}
use Rattle.tabled_width.specs.WrapSteps.{put_from}
use Rattle.tabled_width.proofs.wrapping.wrap.Given as goal

abbrev pub invariant-loop-piece : goal.invariant-loop-piece
invariant-loop-piece l = record {
  texts : AllByRecursion IsUtf8 l.rest;
  same : string_bytes l.out ++ encode_utf8_all (put_from l.fn.width l.fn.keep_words l.used (map chars l.rest)) ≡ encode_utf8_all (put_from l.fn.width l.fn.keep_words None (pieces (chars l.fn.text)));
}

abbrev pub decreases-loop-piece : goal.decreases-loop-piece
decreases-loop-piece l = length l.rest
