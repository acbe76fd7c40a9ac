use Rattle.std.proofs.Common.{◌++◌, ◌≡◌, length}
use denote.Shadow.{shadow}
use denote.Text.{Utf8}
use Rattle.std.specs.String.{string_bytes}
use Rattle.tabled_settings.specs.Truncates.{truncated}
use Rattle.tabled_settings.proofs.width.truncate.truncated.Given as goal

abbrev pub invariant-loop-line : goal.invariant-loop-line
invariant-loop-line l = record {
  text : shadow (Utf8 l.rest);
  same : string_bytes l.out ++ truncated l.fn.width l.fn.suffix l.rest ≡ truncated l.fn.width l.fn.suffix l.fn.text;
}

abbrev pub decreases-loop-line : goal.decreases-loop-line
decreases-loop-line l = length l.rest
