use Rattle.std.specs.Prelude.{◌≡◌, Some, take}
use Rattle.tabled_script.specs.Aligners.{alignment_of, each_of}
use Rattle.tabled_script.proofs.alignment_words.alignments_of.Given as goal

abbrev pub invariant-loop-letter : goal.invariant-loop-letter
invariant-loop-letter l = each_of alignment_of (take l.letter-index l.letters) ≡ Some l.alignments.items
