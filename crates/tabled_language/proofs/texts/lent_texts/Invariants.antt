use Rattle.tabled_language.proofs.Common.{◌++◌, ◌≡◌, AllByRecursion, IsOwnWord, bytes_of, map}
use Rattle.tabled_language.proofs.texts.lent_texts.Given as goal

abbrev pub invariant-loop-word : goal.invariant-loop-word
invariant-loop-word l = record {
  texts : map bytes_of l.texts.items ++ l.word-iterator ≡ l.fn.words;
  own : AllByRecursion IsOwnWord l.word-iterator;
}
