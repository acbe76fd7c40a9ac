-- The last entry of a map before a key.
use Rattle.tabled_language.proofs.Common.{[], ◌++◌, ◌<◌, ◌∙◌, ◌∷◌, ◌≡◌, BTreeMap, Excluded, Less, List, MatchOrdering, Ordering, Rectangle, ap, false≢true, get, is_lt, is_some, lt-ltb, nat_cmp, ranked, refl, subst, sym, ℕ}
use Rattle.std.specs.Prelude.{Option, None, Some}
use Rattle.std.specs.BTreeMap.Range.{IsRangeOf}
use Rattle.std.specs.declared.ops.Bound.TheVariants.{Unbounded}

before : (q n : ℕ) → q < n → nat_cmp q n ≡ Less
before q n below = rw (lt-ltb q n below) refl

pub below_when_before : (q n : ℕ) → nat_cmp q n ≡ Less → q < n
below_when_before q n is = subst (λ (o : Ordering). MatchOrdering o (q < n) (q ≡ n) (n < q)) is (ranked q n (nat_cmp q n) refl)

-- or none after it
pub none_between : (m : BTreeMap ℕ Rectangle) (n : ℕ) (r t : List (ℕ × Rectangle)) (e : ℕ × Rectangle) → IsRangeOf nat_cmp Unbounded (Excluded n) m r → r ≡ t ++ e ∷ [] → (q : ℕ) → e.0 < q → q < n → get nat_cmp m q ≡ None
none_between m n r t e h ends q above below = never_some (get nat_cmp m q) refl
  where
    never_some : (o : Option Rectangle) → get nat_cmp m q ≡ o → get nat_cmp m q ≡ None
    never_some None is = is
    never_some (Some f) is = absurd (false≢true (sym (h.4 e t ends q (tt, before q n below) (ap is_some is)) ∙ ap is_lt (before e.0 q above)))
