-- What adapters give, told by what the iterators inside them gave.
use Rattle.tabled_rows.proofs.Common.{[], ◌&&◌, ◌++◌, ◌+◌, ◌∙◌, ◌∷◌, ◌≡◌, ◌≤◌, All, All-drop, All-from_recursion, AllByRecursion, AllZip, Bool, DrainsIf, GivesLimited, HoldsAlong, LimitsRow, List, None, Option, Skip, Some, Take, Yields, ap, arith, common_steps, drop, drop-append_seam, drop_all, false, length, ltb, recursion_from_All, refl, rules, skip_count, skip_source, skip_steps, subst, sym, take_count, take_source, take_steps, true, ℕ}
use Rattle.std.proofs.lemmas.Bool.{ltb-true}

module _ {S A : Type 0} (next_gives : S → Option A → S → Type 0) where
  not_ended : false ≡ true → (t : S) → (u : S) × next_gives t None u
  not_ended e t = absurd (search rules)

  -- calls that didn't come to an end
  pub so_far : (xs : List A) (s t : S) → Yields next_gives s xs t → DrainsIf next_gives (false ≡ true) s xs
  so_far xs s t ran = (t, ran, λ e. not_ended e t)

  pub ran-append : (xs ys : List A) (s t u : S) → Yields next_gives s xs t → Yields next_gives t ys u → Yields next_gives s (xs ++ ys) u
  ran-append [] ys s t u a b = subst (λ k. Yields next_gives k ys u) (sym a) b
  ran-append (x ∷ xs) ys s t u a b = (a.0, a.1, ran-append xs ys a.0 t u a.2 b)

-- `take` passes on what comes, up to its count
module _ {S A W : Type 0} (next_gives : S → Option A → S → Type 0) (inside : W → Take S) where
  abbrev takes : W → Option A → W → Type 0
  takes s r t = take_steps next_gives (inside s) r (inside t)

  pub taken : (xs : List A) (s t : W) → Yields takes s xs t → Yields next_gives (take_source (inside s)) xs (take_source (inside t)) × (length xs + take_count (inside t) ≡ take_count (inside s))
  taken [] s t ran = let same : 0 + take_count (inside t) ≡ take_count (inside t) = omega arith in (ap (λ w. take_source (inside w)) ran, same ∙ ap (λ w. take_count (inside w)) (sym ran))
  taken (x ∷ xs) s t ran =
      let rest = taken xs ran.0 t ran.2 in
      ((take_source (inside ran.0), ran.1.0, rest.0), omega (arith, ran.1.1, rest.1))

  pub taken-gave : (xs : List A) (ended : Bool) (s : W) → DrainsIf takes (ended ≡ true) s xs → DrainsIf next_gives ((ended && ltb (length xs) (take_count (inside s))) ≡ true) (take_source (inside s)) xs × (length xs ≤ take_count (inside s))
  taken-gave xs ended s drained = grind (arith, common_steps, taken, ltb-true)

  pub taken-along : (P : A → Type 0) (s : W) → HoldsAlong next_gives (take_source (inside s)) (All P) → HoldsAlong takes s (All P)
  taken-along P s along = λ xs t ran. along xs (take_source (inside t)) (taken xs s t ran).0

-- `skip` passes on what comes after its count
module _ {S A W : Type 0} (next_gives : S → Option A → S → Type 0) (inside : W → Skip S) where
  abbrev skips : W → Option A → W → Type 0
  skips s r t = skip_steps next_gives (inside s) r (inside t)

  here : (ys : List A) (s t : S) → length ys ≡ 0 → Yields next_gives s ys t → s ≡ t
  here [] s t e ran = ran
  here (y ∷ ys) s t e ran = absurd (omega (arith, e))

  passed_on : (xs : List A) (s t : W) → skip_count (inside s) ≡ 0 → Yields skips s xs t → Yields next_gives (skip_source (inside s)) xs (skip_source (inside t)) × (skip_count (inside t) ≡ 0)
  passed_on [] s t none ran = (ap (λ w. skip_source (inside w)) ran, ap (λ w. skip_count (inside w)) (sym ran) ∙ none)
  passed_on (x ∷ xs) s t none ran =
      let step = ran.1 in
      let at = here step.1.0 _ _ (step.1.2 ∙ none) step.1.1.1 in
      let rest = passed_on xs ran.0 t step.0 ran.2 in
      ((skip_source (inside ran.0), subst (λ k. next_gives k (Some x) (skip_source (inside ran.0))) (sym at) step.1.1.2, rest.0), rest.1)

  pub skipped-gave : (xs : List A) (ended : Bool) (s : W) → DrainsIf skips (ended ≡ true) s xs → (all : List A) × DrainsIf next_gives (ended ≡ true) (skip_source (inside s)) all × (xs ≡ drop (skip_count (inside s)) all)
  skipped-gave [] false s drained = ([], so_far next_gives [] _ _ refl, sym (drop_all (skip_count (inside s)) [] (omega arith)))
  skipped-gave [] true s drained = grind (arith, common_steps)
  skipped-gave (x ∷ xs) ended s drained =
      let t = drained.0 in
      let first = drained.1.0 in
      let step = drained.1.1 in
      let ys = step.1.0 in
      let rest = passed_on xs first t step.0 drained.1.2 in (
        ys ++ x ∷ xs,
        (
          skip_source (inside t),
          ran-append next_gives ys (x ∷ xs) _ _ _ step.1.1.1 (skip_source (inside first), step.1.1.2, rest.0),
          λ e.
              let last = drained.2 e in
              let end = last.1.1 in
              let at = here end.0 _ _ (omega (arith, end.2, rest.1)) end.1.1 in
              (skip_source (inside last.0), subst (λ k. next_gives k None (skip_source (inside last.0))) (sym at) end.1.2),
        ),
        sym (ap (λ n. drop n (ys ++ x ∷ xs)) (sym step.1.2) ∙ drop-append_seam ys (x ∷ xs)),
      )

  pub skipped-along : (P : A → Type 0) (s : W) → HoldsAlong next_gives (skip_source (inside s)) (All P) → HoldsAlong skips s (All P)
  skipped-along P s along = λ xs t ran.
      let gave = skipped-gave xs false s (so_far skips xs s t ran) in
      let all : All P gave.0 = along gave.0 gave.1.0 gave.1.1 in
      subst (All P) (sym gave.2) (All-drop P (skip_count (inside s)) gave.0 all)

-- what limits each row passes on rows that came
module _ {S U T W : Type 0} (next_gives : S → Option U → S → Type 0) (becomes : U → T → Type 0) (rows_of : W → S) (limit_of : W → ℕ) where
  abbrev limits : W → Option (Take T) → W → Type 0
  limits s r t = GivesLimited next_gives becomes (limit_of s) (rows_of s) r (rows_of t) × (limit_of t ≡ limit_of s)

  limited-ran : (n : ℕ) (xs : List (Take T)) (s t : W) → limit_of s ≡ n → Yields limits s xs t → (all : List U) × Yields next_gives (rows_of s) all (rows_of t) × AllZip (LimitsRow becomes n) all xs
  limited-ran n [] s t is ran = ([], ap rows_of ran, tt)
  limited-ran n (x ∷ xs) s t is ran =
      let step = ran.1.0 in
      let rest = limited-ran n xs ran.0 t (ran.1.1 ∙ is) ran.2 in
      (step.0 ∷ rest.0, (rows_of ran.0, step.1, rest.1), ((step.2, step.3 ∙ is), rest.2))

  pub limited-gave : (n : ℕ) (xs : List (Take T)) (ended : Bool) (s : W) → limit_of s ≡ n → DrainsIf limits (ended ≡ true) s xs → (all : List U) × DrainsIf next_gives (ended ≡ true) (rows_of s) all × AllZip (LimitsRow becomes n) all xs
  limited-gave n xs ended s is drained =
      let ran = limited-ran n xs s drained.0 is drained.1 in
      (ran.0, (rows_of drained.0, ran.1, λ e. let last = drained.2 e in (rows_of last.0, last.1.0)), ran.2)

  each-limited : (P : U → Type 0) (Q : Take T → Type 0) (n : ℕ) → ((row : U) (cells : Take T) → P row → LimitsRow becomes n row cells → Q cells) → (all : List U) (xs : List (Take T)) → AllZip (LimitsRow becomes n) all xs → AllByRecursion P all → AllByRecursion Q xs
  each-limited P Q n so [] [] zipped holds = tt
  each-limited P Q n so [] (x ∷ xs) zipped holds = absurd zipped
  each-limited P Q n so (row ∷ all) [] zipped holds = absurd zipped
  each-limited P Q n so (row ∷ all) (x ∷ xs) zipped holds = (so row x holds.0 zipped.0, each-limited P Q n so all xs zipped.1 holds.1)

  pub limited-along : (P : U → Type 0) (Q : Take T → Type 0) (s : W) → ((row : U) (cells : Take T) → P row → LimitsRow becomes (limit_of s) row cells → Q cells) → HoldsAlong next_gives (rows_of s) (All P) → HoldsAlong limits s (All Q)
  limited-along P Q s so along = λ xs t ran.
      let came = limited-ran (limit_of s) xs s t refl ran in
      All-from_recursion Q xs (each-limited P Q (limit_of s) so came.0 xs came.2 (recursion_from_All P came.0 (along came.0 (rows_of t) came.1)))
