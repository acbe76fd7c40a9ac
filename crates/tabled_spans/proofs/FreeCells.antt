-- Tests of the cells that a span goes over, one after another.
use Rattle.tabled_spans.proofs.Common.{◌+◌, ◌-◌, ◌<◌, ◌∙◌, ◌≡◌, ◌≤◌, Axis, Bool, Position, and_parts, arith, cases_eq, common_steps, false, false_from_ne_true, false≢true, in_line, inl, inr, list_all, stretch, subst, suc, sym, true, zero, ℕ}

-- where all pass a test, each does
pub all_pass : (test : Position → Bool) (axis : Axis) (p : Position) (first many : ℕ) → list_all test (stretch axis p first many) ≡ true → (k : ℕ) → first ≤ k → k < first + many → test (in_line axis p k) ≡ true
all_pass test axis p first zero all k low high = absurd (omega arith)
all_pass test axis p first (suc many) all k low high =
    let parts = and_parts (test (in_line axis p first)) (list_all test (stretch axis p (first + 1) many)) all in
    elim (cases_eq first k) [ inl e ↦ subst (λ (j : ℕ). test (in_line axis p j) ≡ true) e parts.0 | inr n ↦ all_pass test axis p (first + 1) many parts.1 k (omega arith) (omega arith) ]

-- where one does not pass, not all do
pub one_fails : (test : Position → Bool) (axis : Axis) (p : Position) (first many k : ℕ) → first ≤ k → k < first + many → test (in_line axis p k) ≡ false → list_all test (stretch axis p first many) ≡ false
one_fails test axis p first many k low high fails = false_from_ne_true (list_all test (stretch axis p first many)) (λ all. false≢true (sym fails ∙ all_pass test axis p first many all k low high))

-- after one that passes, the others decide
pub one_passes : (test : Position → Bool) (axis : Axis) (p : Position) (k end : ℕ) → k < end → test (in_line axis p k) ≡ true → list_all test (stretch axis p k (end - k)) ≡ list_all test (stretch axis p (k + 1) (end - (k + 1)))
one_passes test axis p k end h passes = grind (arith, common_steps)
