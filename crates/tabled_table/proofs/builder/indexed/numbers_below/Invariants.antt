use Rattle.tabled_table.proofs.Common.{◌≡◌, map, numbers, string_bytes}
use Rattle.tabled_table.proofs.builder.indexed.numbers_below.Given as goal

abbrev pub invariant-loop-i : goal.invariant-loop-i
invariant-loop-i l = map string_bytes l.texts.items ≡ numbers l.i-counter
