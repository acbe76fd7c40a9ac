-- What each of some elements stands for, one after another.
use Rattle.std.proofs.Math.Seq.{drop-cons}
use Rattle.std.specs.Option.{option_and_then, option_map}
use Rattle.tabled_script.proofs.Common.{[], ◌++◌, ◌<◌, ◌∙◌, ◌∷◌, ◌≡◌, List, None, Option, Some, ap, drop, get_or, length, refl, suc, sym, take, take-append-drop, ℕ}
use Rattle.tabled_script.specs.Aligners.{each_of}

module _ {A B : Type 0} (of : A → Option B) where
  -- what the first stands for, and what those behind it do
  abbrev both : Option B → Option (List B) → Option (List B)
  both first others = option_and_then (λ x. option_map (λ list. x ∷ list) others) first

  pushed : (first : Option B) (others more : Option (List B)) (list : List B) (last : B)
      → ((l : List B) → others ≡ Some l → more ≡ Some (l ++ last ∷ [])) → both first others ≡ Some list → both first more ≡ Some (list ++ last ∷ [])
  pushed None others more list last behind is = cc (is)
  pushed (Some x) None more list last behind is = cc (is)
  pushed (Some x) (Some l) more list last behind is = let same : x ∷ l ≡ list = cc (is) in rw (behind l refl, ← same) refl

  -- one more that stands for something
  pub each_of-more : (xs : List A) (x : A) (list : List B) (last : B) → each_of of xs ≡ Some list → of x ≡ Some last → each_of of (xs ++ x ∷ []) ≡ Some (list ++ last ∷ [])
  each_of-more [] x list last read is = let same : [] ≡ list = cc (read) in rw (is, ← same) refl
  each_of-more (first ∷ xs) x list last read is = pushed (of first) (each_of of xs) (each_of of (xs ++ x ∷ [])) list last (λ l others. each_of-more xs x l last others is) read

  stopped : (first : Option B) (others all : Option (List B)) (list : List B) → ((l : List B) → others ≡ Some l → all ≡ None) → both first others ≡ Some list → both first all ≡ None
  stopped None others all list behind is = refl
  stopped (Some x) None all list behind is = cc (is)
  stopped (Some x) (Some l) all list behind is = rw (behind l refl) refl

  -- one that stands for nothing
  pub each_of-none : (xs rest : List A) (x : A) (list : List B) → each_of of xs ≡ Some list → of x ≡ None → each_of of (xs ++ x ∷ rest) ≡ None
  each_of-none [] rest x list read is = rw is refl
  each_of-none (first ∷ xs) rest x list read is = stopped (of first) (each_of of xs) (each_of of (xs ++ x ∷ rest)) list (λ l others. each_of-none xs rest x l others is) read

  pub each_of-none_at : (xs : List A) (i : ℕ) (d : A) (list : List B) → i < length xs → each_of of (take i xs) ≡ Some list → of (get_or xs i d) ≡ None → each_of of xs ≡ None
  each_of-none_at xs i d list here read is =
      let parts : xs ≡ take i xs ++ (get_or xs i d ∷ drop (suc i) xs) = sym (take-append-drop i xs) ∙ ap (λ (l : List A). take i xs ++ l) (drop-cons xs i d here) in
      ap (each_of of) parts ∙ each_of-none (take i xs) (drop (suc i) xs) (get_or xs i d) list read is
