use Rattle.tabled_language.proofs.Common.{◌≡◌, length, unescaped}
use Rattle.tabled_language.proofs.Escapes.{all_before}
use Rattle.tabled_language.proofs.word.unescape.Given as goal

abbrev pub invariant-loop-place : goal.invariant-loop-place
invariant-loop-place l = all_before l.bytes.items (unescaped l.rest) ≡ unescaped l.word

abbrev pub decreases-loop-place : goal.decreases-loop-place
decreases-loop-place l = length l.rest
