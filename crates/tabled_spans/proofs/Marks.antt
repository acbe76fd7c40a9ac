-- Marks, one more at a time.
use Rattle.std.proofs.Common.{◌||◌}
use Rattle.tabled_spans.proofs.Common.{◌<◌, ◌==◌, ◌∙◌, ◌≡◌, Bool, List, cases_eq, eq-eqb, false, get_or, get_or-set_other, get_or-set_same, inl, inr, length, ne_eqb, refl, slice_set, subst, sym, true, ℕ}

or_true : (b : Bool) → (b || true) ≡ true
or_true true = refl
or_true false = refl

pub or_false : (b : Bool) → (b || false) ≡ b
or_false true = refl
or_false false = refl

pub or_or : (a b c : Bool) → ((a || b) || c) ≡ (a || (b || c))
or_or true b c = refl
or_or false b c = refl

-- with one more, a line is marked that was marked before or is that one
pub mark_set : (marks : List Bool) (line k : ℕ) → k < length marks → get_or (slice_set marks line true) k false ≡ (get_or marks k false || (k == line))
mark_set marks line k within = elim (cases_eq k line) [
  | inl e ↦ subst (λ (i : ℕ). get_or (slice_set marks i true) k false ≡ (get_or marks k false || (k == i))) e (get_or-set_same marks k true false within ∙ sym (rw (eq-eqb k k refl) (or_true (get_or marks k false))))
  | inr other ↦ get_or-set_other marks line k true false other ∙ sym (rw (ne_eqb k line other) (or_false (get_or marks k false)))
]

-- a line without a mark stays so
pub mark_past : (marks : List Bool) (line k : ℕ) → k < length marks → (line < length marks → ⊥) → get_or marks k false ≡ (get_or marks k false || (k == line))
mark_past marks line k within past = sym (rw (ne_eqb k line (λ e. past (subst (λ (i : ℕ). i < length marks) e within))) (or_false (get_or marks k false)))
