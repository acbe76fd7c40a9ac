-- Runs of items that trade places with a gap.
use Rattle.tabled_grid.proofs.Common.{◌++◌, ◌+◌, ◌-◌, ◌<◌, ◌∙◌, ◌≡◌, All-from_recursion, All-permutation, AllByRecursion, IsPermutation, IsPermutation-append_comm, IsPermutation-refl, List, Slid, SlidBack, ap, append_assoc, ap₂, arith, drop, drop_at, length, length-append, length-drop, length-take-le, recursion_from_All, subst, sym, take, take-append-drop, take_at, with_runs_swapped, ℕ}

module _ {A : Type 0} where
  -- what holds of each item of a gap holds of each that moved
  pub all-moved : (P : A → Type 0) (gap moved : List A) → IsPermutation gap moved → AllByRecursion P gap → AllByRecursion P moved
  all-moved P gap moved same all = recursion_from_All P moved (All-permutation P gap moved same (All-from_recursion P gap all))

  -- a list cut in two, and its parts in the other order
  turned : (k : ℕ) (g : List A) → IsPermutation g (drop k g ++ take k g)
  turned k g = subst (λ xs. IsPermutation xs (drop k g ++ take k g)) (take-append-drop k g) (IsPermutation-append_comm (take k g) (drop k g))

  -- four lists in a row, of which the outer ones stay
  module _ (old p one two rest : List A) (e : old ≡ p ++ (one ++ (two ++ rest))) where
    front_cut : (n : ℕ) → length p + length one ≡ n → take n old ≡ p ++ one
    front_cut n h = ap (take n) (e ∙ sym (append_assoc p one (two ++ rest))) ∙ take_at (p ++ one) (two ++ rest) n (length-append p one ∙ h)

    back_cut : (n : ℕ) → length p + length one ≡ n → drop n old ≡ two ++ rest
    back_cut n h = ap (drop n) (e ∙ sym (append_assoc p one (two ++ rest))) ∙ drop_at (p ++ one) (two ++ rest) n (length-append p one ∙ h)

  pub slid_by_swap : (old new : List A) (to gap count second : ℕ) → count < gap → second ≡ to + gap → new ≡ with_runs_swapped old to second count → Slid old new to gap count
  slid_by_swap old new to gap count second few at is = record {
    is = λ p g run rest e lp lg lr.
        let there : length p + length g ≡ second = omega (arith, lp, lg, at) in
        let moved : List A = drop count g ++ take count g in
        record {
          moved = moved;
          same = turned count g;
          is =
              is
              ∙ rw (front_cut old p g run rest e second there, back_cut old p g run rest e second there, take_at p g to lp, drop_at p g to lp, take_at run rest count lr, drop_at run rest count lr)
              (append_assoc p (run ++ drop count g) (take count g ++ rest)
              ∙ ap (λ xs. p ++ xs) (append_assoc run (drop count g) (take count g ++ rest) ∙ ap (λ xs. run ++ xs) (sym (append_assoc (drop count g) (take count g) rest))));
        };
  }

  pub slid_back_by_swap : (old new : List A) (from count gap second : ℕ) → count < gap → second ≡ from + gap → new ≡ with_runs_swapped old from second count → SlidBack old new from count gap
  slid_back_by_swap old new from count gap second few at is = record {
    is = λ p run g rest e lp lr lg.
        let k : ℕ = gap - count in
        let left : List A = take k g in
        let right : List A = drop k g in
        let cut : g ≡ left ++ right = sym (take-append-drop k g) in
        let left_long : length left ≡ k = length-take-le k g (omega (arith, lg)) in
        let right_long : length right ≡ count = length-drop k g ∙ omega (arith, lg, few) in
        let whole : old ≡ p ++ ((run ++ left) ++ (right ++ rest)) = e ∙ ap (λ xs. p ++ (run ++ (xs ++ rest))) cut ∙ ap (λ xs. p ++ xs) (ap (λ xs. run ++ xs) (append_assoc left right rest) ∙ sym (append_assoc run left (right ++ rest))) in
        let there : length p + length (run ++ left) ≡ second = omega (arith, lp, lr, left_long, length-append run left, at, few) in
        record {
          moved = right ++ left;
          same = turned k g;
          is =
              is
              ∙ rw (front_cut old p (run ++ left) right rest whole second there, back_cut old p (run ++ left) right rest whole second there, take_at p (run ++ left) from lp, drop_at p (run ++ left) from lp, take_at right rest count right_long, drop_at right rest count right_long, take_at run left count lr, drop_at run left count lr)
              (append_assoc p (right ++ left) (run ++ rest));
        };
  }

  -- the part of a list that two runs take, and what is after it
  module _ (old p one two rest : List A) (from k : ℕ) (e : old ≡ p ++ (one ++ (two ++ rest))) (lp : length p ≡ from) (l : length one + length two ≡ k) where
    part_is : take k (drop from old) ≡ one ++ two
    part_is = ap (λ xs. take k (drop from xs)) e ∙ ap (take k) (drop_at p (one ++ (two ++ rest)) from lp ∙ sym (append_assoc one two rest)) ∙ take_at (one ++ two) rest k (length-append one two ∙ l)

    behind_is : drop k (drop from old) ≡ rest
    behind_is = ap (λ xs. drop k (drop from xs)) e ∙ ap (drop k) (drop_at p (one ++ (two ++ rest)) from lp ∙ sym (append_assoc one two rest)) ∙ drop_at (one ++ two) rest k (length-append one two ∙ l)

    before_is : take from old ≡ p
    before_is = ap (take from) e ∙ take_at p (one ++ (two ++ rest)) from lp

  pub slid_by_turn : (old mid new : List A) (to gap count k : ℕ) → k ≡ gap + count → mid ≡ drop gap (take k (drop to old)) ++ take gap (take k (drop to old)) → new ≡ take to old ++ (mid ++ drop k (drop to old)) → Slid old new to gap count
  slid_by_turn old mid new to gap count k many turn is = record {
    is = λ p g run rest e lp lg lr.
        let l : length g + length run ≡ k = omega (arith, lg, lr, many) in
        let middle : mid ≡ run ++ g = turn ∙ ap (λ xs. drop gap xs ++ take gap xs) (part_is old p g run rest to k e lp l) ∙ ap₂ (λ xs ys. xs ++ ys) (drop_at g run gap lg) (take_at g run gap lg) in
        record {
          moved = g;
          same = IsPermutation-refl g;
          is = is ∙ rw (before_is old p g run rest to k e lp l, behind_is old p g run rest to k e lp l, middle) (ap (λ xs. p ++ xs) (append_assoc run g rest));
        };
  }

  pub slid_back_by_turn : (old mid new : List A) (from count gap k : ℕ) → k ≡ count + gap →
      mid ≡ drop (length (take k (drop from old)) - gap) (take k (drop from old)) ++ take (length (take k (drop from old)) - gap) (take k (drop from old)) → new ≡ take from old ++ (mid ++ drop k (drop from old)) → SlidBack old new from count gap
  slid_back_by_turn old mid new from count gap k many turn is = record {
    is = λ p run g rest e lp lr lg.
        let l : length run + length g ≡ k = omega (arith, lg, lr, many) in
        let part : take k (drop from old) ≡ run ++ g = part_is old p run g rest from k e lp l in
        let front : length (run ++ g) - gap ≡ count = omega (arith, length-append run g, lr, lg) in
        let middle : mid ≡ g ++ run =
        turn ∙ ap (λ xs. drop (length xs - gap) xs ++ take (length xs - gap) xs) part ∙ ap (λ n. drop n (run ++ g) ++ take n (run ++ g)) front
        ∙ ap₂ (λ xs ys. xs ++ ys) (drop_at run g count lr) (take_at run g count lr) in
        record {
          moved = g;
          same = IsPermutation-refl g;
          is = is ∙ rw (before_is old p run g rest from k e lp l, behind_is old p run g rest from k e lp l, middle) (ap (λ xs. p ++ xs) (append_assoc g run rest));
        };
  }
