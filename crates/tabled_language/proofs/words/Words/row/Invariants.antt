use Rattle.tabled_language.proofs.Common.{◌≡◌, drop, map, string_bytes, take}
use Rattle.tabled_language.proofs.words.Words.row.Given as goal

abbrev pub invariant-loop : goal.invariant-loop
invariant-loop l = record {
  texts : map string_bytes l.row.items ≡ take l.counter l.fn.self;
  left : l.self ≡ drop l.counter l.fn.self;
}
