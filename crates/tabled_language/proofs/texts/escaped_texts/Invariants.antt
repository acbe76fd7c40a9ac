use Rattle.tabled_language.proofs.Common.{◌++◌, ◌≡◌, LackEach, List, bytes_of, map, option_map, texts_of, words_of, ℕ}
use Rattle.tabled_language.proofs.texts.escaped_texts.Given as goal

abbrev pub invariant-loop-word : goal.invariant-loop-word
invariant-loop-word l = record {
  texts : option_map (λ (ts : List (List ℕ)). map bytes_of l.texts.items ++ ts) (texts_of l.word-iterator) ≡ texts_of (words_of l.line);
  no_tab : LackEach 9 l.word-iterator;
  no_newline : LackEach 10 l.word-iterator;
}
