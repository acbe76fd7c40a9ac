use Rattle.tabled_language.proofs.Common.{◌*◌, ◌≡◌, drop, map, map_items, range_with_len, string_bytes, take, ℕ}
use Rattle.tabled_language.proofs.words.Words.rows.Given as goal

abbrev pub invariant-loop : goal.invariant-loop
invariant-loop l = record {
  texts : map (map string_bytes) (map_items l.cells.items) ≡ map (λ (i : ℕ). take l.columns (drop (i * l.columns) l.fn.self)) (range_with_len 0 l.counter);
  left : l.self ≡ drop (l.counter * l.columns) l.fn.self;
}
