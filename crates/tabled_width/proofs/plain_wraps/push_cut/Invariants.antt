use Rattle.std.proofs.Common.{◌++◌, ◌≡◌, None, encode_utf8_all, length}
use Rattle.std.specs.Prelude.{chars}
use Rattle.std.specs.String.{string_bytes}
use Rattle.tabled_width.proofs.PlainPieces.{singles}
use Rattle.tabled_width.specs.Pieces.{pieces}
use Rattle.tabled_width.specs.Plain.{ArePlain}
use Rattle.tabled_width.specs.Wraps.{broken, last_used}
use Rattle.tabled_width.proofs.plain_wraps.push_cut.Given as goal
use denote.Shadow.{shadow}
use denote.Text.{Utf8}

abbrev pub invariant-loop-rest : goal.invariant-loop-rest
invariant-loop-rest l = record {
  texts : shadow (Utf8 l.rest);
  plain : ArePlain l.rest;
  put : string_bytes l.out ++ encode_utf8_all (broken l.fn.width None (singles l.rest)) ≡ string_bytes l.fn.out ++ encode_utf8_all (broken l.fn.width None (pieces (chars l.fn.text)));
  used : last_used l.fn.width None (singles l.rest) ≡ last_used l.fn.width None (pieces (chars l.fn.text));
}

abbrev pub decreases-loop-rest : goal.decreases-loop-rest
decreases-loop-rest l = length l.rest
