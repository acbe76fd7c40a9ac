-- Flags before a flag: read in pairs, they take as many columns as at the end of a line.
use Rattle.std.proofs.Common.{[], ◌&&◌, ◌++◌, ◌+◌, ◌==◌, ◌∙◌, ◌∷◌, ◌≡◌, ◌≤◌, ◌⊎◌, Bool, List, ap, arith, eqb-true, false, inl, inr, length, length-append, not, refl, suc, subst, sym, true, zero, ℕ}
use Rattle.std.proofs.lemmas.Bool.{cases_Bool, eqb-false, false≢true}
use Rattle.tabled_width.proofs.First.{is_flag}
use Rattle.tabled_width.proofs.Flags.{Ended, bare_flag, ended, flag-free, flag_from_whole, is_whole, joiner-step, read-end, whole-flag, whole-plain}
use Rattle.tabled_width.proofs.Scanning.{more-half}
use Rattle.tabled_width.proofs.Untouched.{same-step}
use Rattle.tabled_width.specs.Pieces.{ends_in_half_a_flag}
use Rattle.unicode_width.specs.Width.{Reading, before, is_indicator, plain, read_before, step}
use Rattle.unicode_width.specs.declared.state.After.{After}
use Rattle.unicode_width.specs.declared.state.After.TheVariants.{RegionalIndicators, EvenIndicatorsZwj}

-- an indicator, and one before it
record Pair (cs : List ℕ) : Type 0 where
  front : List ℕ
  first : ℕ
  second : ℕ
  is : cs ≡ (front ++ first ∷ []) ++ second ∷ []
  is_first : is_indicator first ≡ true
  is_second : is_indicator second ≡ true
  even : ends_in_half_a_flag front ≡ false

half_true : (a b : Bool) → (a && not b) ≡ true → (a ≡ true) × (b ≡ false)
half_true true false h = (refl, refl)
half_true true true h = absurd (false≢true h)
half_true false b h = absurd (false≢true h)

half_false : (b : Bool) → (true && not b) ≡ false → b ≡ true
half_false true h = refl
half_false false h = absurd (false≢true (sym h))

pair : (front : List ℕ) (y : ℕ) → is_indicator y ≡ true → ends_in_half_a_flag (front ++ y ∷ []) ≡ false → Pair (front ++ y ∷ [])
pair front y is h = pair-ended front (half_false (ends_in_half_a_flag front) (ap (λ b. b && not (ends_in_half_a_flag front)) (sym is) ∙ sym (more-half front y) ∙ h))
  where
    pair-ended : (front : List ℕ) → ends_in_half_a_flag front ≡ true → Pair (front ++ y ∷ [])
    pair-ended [] half = absurd (false≢true half)
    pair-ended (c ∷ cs) half =
        let e = ended c cs in
        let parts = half_true (is_indicator e.end) (ends_in_half_a_flag e.front) (sym (more-half e.front e.end) ∙ ap ends_in_half_a_flag (sym e.is) ∙ half) in
        record { front = e.front; first = e.end; second = y; is = ap (λ xs. xs ++ y ∷ []) e.is; is_first = parts.0; is_second = is; even = parts.1 }

read-pair : (front : List ℕ) (z y : ℕ) (r : Reading) → read_before false ((front ++ z ∷ []) ++ y ∷ []) r ≡ read_before false front (step false z (step false y r))
read-pair front z y r = read-end (front ++ z ∷ []) y r ∙ read-end front z (step false y r)

shorter : (k : ℕ) (cs front : List ℕ) (z y : ℕ) → length cs ≤ suc k → cs ≡ (front ++ z ∷ []) ++ y ∷ [] → length front ≤ k
shorter k cs front z y h is = omega (arith, h, ap length is, length-append (front ++ z ∷ []) (y ∷ []), length-append front (z ∷ []))

-- what stands before whole flags is read alike
alike : (k : ℕ) (cs : List ℕ) → length cs ≤ k → ends_in_half_a_flag cs ≡ false → (b c : After) → is_whole b ≡ true → is_whole c ≡ true → (n : ℕ) → 1 ≤ n → (read_before false cs (n, before b)).0 ≡ (read_before false cs (n, before c)).0
alike k [] h half b c p q n some = refl
alike zero (x ∷ xs) h half b c p q n some = absurd (omega (arith, h))
alike (suc k) (x ∷ xs) h half b c p q n some = ended-alike (ended x xs) (λ front less even d e v w. alike k front less even d e v w (n + 2) (omega arith))
  where
    More : Type 0
    More = (front : List ℕ) → length front ≤ k → ends_in_half_a_flag front ≡ false → (d e : After) → is_whole d ≡ true → is_whole e ≡ true → (read_before false front (n + 2, before d)).0 ≡ (read_before false front (n + 2, before e)).0

    All : List ℕ → Type 0
    All cs = (read_before false cs (n, before b)).0 ≡ (read_before false cs (n, before c)).0

    paired : Pair (x ∷ xs) → More → All (x ∷ xs)
    paired t more =
        let l = whole-flag t.first t.second t.is_first t.is_second n b (flag_from_whole b p) (inl some) in
        let r = whole-flag t.first t.second t.is_first t.is_second n c (flag_from_whole c q) (inl some) in
        subst All (sym t.is)
        (ap (λ (r : Reading). r.0) (read-pair t.front t.first t.second (n, before b) ∙ ap (read_before false t.front) l.step_is)
        ∙ more t.front (shorter k (x ∷ xs) t.front t.first t.second h t.is) t.even l.after r.after l.whole r.whole
        ∙ ap (λ (r : Reading). r.0) (sym (read-pair t.front t.first t.second (n, before c) ∙ ap (read_before false t.front) r.step_is)))

    other : (e : Ended (x ∷ xs)) → is_indicator e.end ≡ false → step false e.end (n, before b) ≡ step false e.end (n, before c)
    other e none = at (cases_Bool (e.end == 0x200D))
      where
        at : ((e.end == 0x200D) ≡ true) ⊎ ((e.end == 0x200D) ≡ false) → step false e.end (n, before b) ≡ step false e.end (n, before c)
        at (inl is) = subst (λ y. step false y (n, before b) ≡ step false y (n, before c)) (sym (eqb-true e.end 0x200D is)) (joiner-step b p n ∙ sym (joiner-step c q n))
        at (inr apart) =
            let free = eqb-false e.end 0x200D apart in
            same-step b (bare_flag b (flag_from_whole b p)) e.end n (flag-free b (flag_from_whole b p) e.end none free)
            ∙ sym (same-step c (bare_flag c (flag_from_whole c q)) e.end n (flag-free c (flag_from_whole c q) e.end none free))

    ended-alike : Ended (x ∷ xs) → More → All (x ∷ xs)
    ended-alike e more = choose (cases_Bool (is_indicator e.end))
      where
        choose : (is_indicator e.end ≡ true) ⊎ (is_indicator e.end ≡ false) → All (x ∷ xs)
        choose (inl is) = paired (subst Pair (sym e.is) (pair e.front e.end is (ap ends_in_half_a_flag (sym e.is) ∙ half))) more
        choose (inr none) = subst All (sym e.is) (ap (λ (r : Reading). r.0) (read-end e.front e.end (n, before b) ∙ ap (read_before false e.front) (other e none) ∙ sym (read-end e.front e.end (n, before c))))

-- whole flags before a flag are read as at the end of a line
pub flags-same : (front : List ℕ) (y : ℕ) → is_indicator y ≡ true → ends_in_half_a_flag (front ++ y ∷ []) ≡ false → (b : After) → is_flag b ≡ true → (n : ℕ) → (1 ≤ n) ⊎ (b ≡ EvenIndicatorsZwj) → (read_before false (front ++ y ∷ []) (n, before b)).0 ≡ (read_before false (front ++ y ∷ []) (n, plain)).0
flags-same front y is half b flag n some =
    let t = pair front y is half in
    let l = whole-flag t.first t.second t.is_first t.is_second n b flag some in
    subst (λ cs. (read_before false cs (n, before b)).0 ≡ (read_before false cs (n, plain)).0) (sym t.is)
    (ap (λ (r : Reading). r.0) (read-pair t.front t.first t.second (n, before b) ∙ ap (read_before false t.front) l.step_is)
    ∙ alike (length t.front) t.front (omega arith) t.even l.after RegionalIndicators l.whole refl (n + 2) (omega arith)
    ∙ ap (λ (r : Reading). r.0) (sym (read-pair t.front t.first t.second (n, plain) ∙ ap (read_before false t.front) (whole-plain t.first t.second t.is_first t.is_second n))))
