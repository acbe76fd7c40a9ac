use Rattle.std.proofs.Common.{◌≡◌, List, length, ℕ}
use denote.Shadow.{shadow}
use denote.Text.{Utf8}
use Rattle.tabled_settings.specs.Truncates.{truncated}
use Rattle.tabled_settings.proofs.width.truncate.fits.Given as goal

abbrev pub invariant-loop-line : goal.invariant-loop-line
invariant-loop-line l = record {
  text : shadow (Utf8 l.rest);
  same : (suffix : List ℕ) → l.rest ≡ truncated l.fn.width suffix l.rest → l.fn.text ≡ truncated l.fn.width suffix l.fn.text;
}

abbrev pub decreases-loop-line : goal.decreases-loop-line
decreases-loop-line l = length l.rest
