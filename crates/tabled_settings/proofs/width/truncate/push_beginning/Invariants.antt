use Rattle.std.proofs.Common.{◌++◌, ◌≡◌}
use Rattle.std.specs.List.{concat}
use Rattle.std.specs.String.{string_bytes}
use Rattle.tabled_settings.specs.Truncates.{beginning, first_within}
use Rattle.tabled_settings.proofs.width.truncate.push_beginning.Given as goal

abbrev pub invariant-loop-piece : goal.invariant-loop-piece
invariant-loop-piece l = string_bytes l.out ++ concat (first_within l.left l.piece-iterator) ≡ string_bytes l.fn.out ++ beginning l.fn.width l.fn.text
