use Rattle.std.proofs.Common.{◌++◌, ◌≡◌, length}
use denote.Shadow.{shadow}
use denote.Text.{Utf8}
use Rattle.std.specs.String.{string_bytes}
use Rattle.tabled_settings.specs.Replaced.{replaced_text}
use Rattle.tabled_settings.proofs.replace.replaced.Given as goal

abbrev pub invariant-loop-before : goal.invariant-loop-before
invariant-loop-before l = record {
  text : shadow (Utf8 l.rest);
  same : string_bytes l.out ++ replaced_text l.fn.from l.fn.to l.rest ≡ replaced_text l.fn.from l.fn.to l.fn.text;
}

abbrev pub decreases-loop-before : goal.decreases-loop-before
decreases-loop-before l = length l.rest
