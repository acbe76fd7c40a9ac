-- A letter may join those before it: where a cluster before takes as many columns with it as apart, it does not.
use Rattle.std.proofs.Common.{◌+◌, ◌-◌, ◌<◌, ◌==◌, ◌∙◌, ◌≡◌, ◌≢◌, ◌≤◌, ◌⊎◌, Bool, None, Option, Some, ap, arith, cond, eqb-true, false, inl, inr, refl, sym, true, ℕ}
use Rattle.std.proofs.lemmas.Bool.{cases_lt, false≢true}
use Rattle.std.proofs.lemmas.Bool.Decides.{eqb_tells, nat_tests}
use Rattle.std.specs.Int.{is_in_range}
use Rattle.tabled_width.proofs.Alone.{IsNoSelector, attaches-not, high-width, zero-alone}
use Rattle.tabled_width.proofs.Untouched.{no-more}
use Rattle.tabled_width.specs.Pieces.{attaches}
use Rattle.unicode_width.proofs.Computing.{unicode_width}
use Rattle.unicode_width.specs.Width.{Reading, added, alone, before, changed, is_lam, joined_or, plain}
use Rattle.unicode_width.specs.declared.state.After.{After}
use Rattle.unicode_width.specs.declared.state.After.TheVariants.{Nothing, Alef, Lamed, ZwjLamed, Ya, ZwjYa, VowelZwjYa, Tifinagh, ZwjTifinagh, JoinerTifinagh, LisuTone, OrkhonI, ZwjOrkhonI, KhmerLetter}
use Rattle.unicode_width.specs.declared.state.Change.{Change}
use Rattle.unicode_width.specs.declared.state.Change.TheVariants.{Less, Same}
use Rattle.unicode_width.specs.declared.state.State.{State}

abbrev pub is_ligature : After → Bool
is_ligature Alef = true
is_ligature Lamed = true
is_ligature ZwjLamed = true
is_ligature Ya = true
is_ligature ZwjYa = true
is_ligature VowelZwjYa = true
is_ligature Tifinagh = true
is_ligature ZwjTifinagh = true
is_ligature JoinerTifinagh = true
is_ligature LisuTone = true
is_ligature OrkhonI = true
is_ligature ZwjOrkhonI = true
is_ligature KhmerLetter = true
is_ligature a = false

-- a state before a ligature, and the one that would be without it
pub record IsJoining (s p : State) : Type 0 where
  pub ligature : is_ligature s.after ≡ true
  pub nothing : p.after ≡ Nothing
  pub emoji : s.emoji ≡ p.emoji
  pub text : p.text ≡ true → s.text ≡ true
  pub quote : p.quote ≡ true → s.quote ≡ true

-- two ways of reading a character, by the columns behind it

pub record Agrees (f g : ℕ → Reading) : Type 0 where
  pub same : (t : ℕ) → f t ≡ g t

pub record Goes (y : ℕ) (f g : ℕ → Reading) : Type 0 where
  pub attached : attaches y ≡ true
  pub columns : ℕ
  pub joined : State
  pub unjoined : State
  pub joining : IsJoining joined unjoined
  pub with_it : (t : ℕ) → f t ≡ (t + columns, joined)
  pub without : (t : ℕ) → g t ≡ (t + columns, unjoined)

pub record Drops (f g : ℕ → Reading) : Type 0 where
  pub with_it : (t : ℕ) → f t ≡ (t - 1, plain)
  pub without : (t : ℕ) → g t ≡ (t, plain)

pub record Differs (y : ℕ) (f g : ℕ → Reading) : Type 0 where
  pub apart : attaches y ≡ false
  pub differ : (t : ℕ) → 1 ≤ t → (f t).0 ≢ (g t).0

abbrev pub Outcome : ℕ → (ℕ → Reading) → (ℕ → Reading) → Type 0
Outcome y f g = Agrees f g ⊎ (Goes y f g ⊎ (Drops f g ⊎ Differs y f g))

-- the same readings, said in another way
pub along : (y : ℕ) (f g h k : ℕ → Reading) → ((t : ℕ) → f t ≡ h t) → ((t : ℕ) → g t ≡ k t) → Outcome y h k → Outcome y f g
along y f g h k p q (inl o) = inl (record { same = λ t. p t ∙ o.same t ∙ sym (q t) })
along y f g h k p q (inr (inl o)) = inr (inl (record { attached = o.attached; columns = o.columns; joined = o.joined; unjoined = o.unjoined; joining = o.joining; with_it = λ t. p t ∙ o.with_it t; without = λ t. q t ∙ o.without t }))
along y f g h k p q (inr (inr (inl o))) = inr (inr (inl (record { with_it = λ t. p t ∙ o.with_it t; without = λ t. q t ∙ o.without t })))
along y f g h k p q (inr (inr (inr o))) = inr (inr (inr (record { apart = o.apart; differ = λ t some e. o.differ t some (ap (λ (r : Reading). r.0) (sym (p t)) ∙ e ∙ ap (λ (r : Reading). r.0) (q t)) })))

pub joining-before : (a : After) → is_ligature a ≡ true → IsJoining (before a) plain
joining-before a h = record { ligature = h; nothing = refl; emoji = refl; text = λ e. e; quote = λ e. e }

module _ (y : ℕ) (high : 0xA0 < y) (free : IsNoSelector y) where
  own : ℕ × State
  own = alone false y

  -- by itself it takes no column, or it takes one and begins a piece
  zero_or_apart : y ≢ 0x2D7F → is_in_range 0x1F3FB 0x1F3FF y ≡ false → (alone false y ≡ (0, plain)) ⊎ ((1 ≤ (alone false y).0) × (attaches y ≡ false))
  zero_or_apart joiner tone = elim (eqb_tells (alone false y).0 0) [
    | inl none ↦ inl (zero-alone y free none.1)
    | inr some ↦
        let one : 1 ≤ (alone false y).0 = omega (arith, some.1) in
        inr (one, attaches-not y (record { some = omega (arith, one, high-width y high); no_joiner = joiner; no_tone = tone }))
  ]

  abbrev pub Ends : Option (Change × After) → Type 0
  Ends j = Outcome y (λ t. joined_or t j (alone false y)) (λ t. added t (alone false y))

  pub ends-none : Ends None
  ends-none = inl (record { same = λ t. refl })

  pub ends-same : y ≢ 0x2D7F → is_in_range 0x1F3FB 0x1F3FF y ≡ false → Ends (Some (Same, Nothing))
  ends-same joiner tone = elim (zero_or_apart joiner tone) [
    | inl e ↦ inl (record { same = λ t. ap (λ k. (k, plain)) (no-more t) ∙ ap (added t) (sym e) })
    | inr more ↦ inr (inr (inr (record { apart = more.1; differ = λ t some e. omega (arith, e, more.0) })))
  ]

  pub ends-less : y ≢ 0x2D7F → is_in_range 0x1F3FB 0x1F3FF y ≡ false → Ends (Some (Less, Nothing))
  ends-less joiner tone = elim (zero_or_apart joiner tone) [
    | inl e ↦ inr (inr (inl (record { with_it = λ t. refl; without = λ t. ap (added t) e ∙ ap (λ k. (k, plain)) (sym (no-more t)) })))
    | inr more ↦ inr (inr (inr (record { apart = more.1; differ = λ t some e. omega (arith, e, more.0, some) })))
  ]

  pub ends-goes : (c : Change) (a : After) (k : ℕ) → attaches y ≡ true → is_ligature a ≡ true → alone false y ≡ (k, plain) → ((t : ℕ) → changed t c ≡ t + k) → Ends (Some (c, a))
  ends-goes c a k attached ligature is change = inr (inl (record {
    attached = attached;
    columns = k;
    joined = before a;
    unjoined = plain;
    joining = joining-before a ligature;
    with_it = λ t. ap (λ n. (n, before a)) (change t);
    without = λ t. ap (added t) is;
  }))

  pub ends-if : (b : Bool) (j rest : Option (Change × After)) → (b ≡ true → Ends j) → (b ≡ false → Ends rest) → Ends (cond b j rest)
  ends-if true j rest then other = then refl
  ends-if false j rest then other = other refl

  -- one character
  at : (k : ℕ) → (y == k) ≡ true → y ≡ k
  at k h = eqb-true y k h

  other-than : (k : ℕ) → k ≢ 0x2D7F → (y == k) ≡ true → y ≢ 0x2D7F
  other-than k apart h e = apart (sym (at k h) ∙ e)

  no-tone : (k : ℕ) → is_in_range 0x1F3FB 0x1F3FF k ≡ false → (y == k) ≡ true → is_in_range 0x1F3FB 0x1F3FF y ≡ false
  no-tone k apart h = ap (is_in_range 0x1F3FB 0x1F3FF) (at k h) ∙ apart

pub tifinagh_joiner : (alone false 0x2D7F ≡ (1, plain)) × (attaches 0x2D7F ≡ true)
unfolding unicode_width
tifinagh_joiner = (refl, refl)

pub buginese_vowel : (alone false 0x1A17 ≡ (0, plain)) × (attaches 0x1A17 ≡ true)
unfolding unicode_width
buginese_vowel = (refl, refl)

pub zero_joiner : (alone false 0x200D ≡ (0, plain)) × (attaches 0x200D ≡ true)
unfolding unicode_width
zero_joiner = (refl, refl)

pub not_lams : (is_lam 0x2D7F ≡ false) × ((is_lam 0x1F3FB ≡ false) × ((is_lam 0x1F3FC ≡ false) × ((is_lam 0x1F3FD ≡ false) × ((is_lam 0x1F3FE ≡ false) × (is_lam 0x1F3FF ≡ false)))))
unfolding unicode_width
not_lams = (refl, (refl, (refl, (refl, (refl, refl)))))

pub lam-apart : (y k : ℕ) → is_lam y ≡ true → is_lam k ≡ false → y ≢ k
lam-apart y k is untrue e = false≢true (sym untrue ∙ ap is_lam (sym e) ∙ is)

pub lam-no_tone : (y : ℕ) → is_lam y ≡ true → is_in_range 0x1F3FB 0x1F3FF y ≡ false
lam-no_tone y is =
    let a = lam-apart y 0x1F3FB is not_lams.1.0 in
    let b = lam-apart y 0x1F3FC is not_lams.1.1.0 in
    let c = lam-apart y 0x1F3FD is not_lams.1.1.1.0 in
    let d = lam-apart y 0x1F3FE is not_lams.1.1.1.1.0 in
    let e = lam-apart y 0x1F3FF is not_lams.1.1.1.1.1 in
    no_tone (cases_lt y 0x1F3FB) (cases_lt 0x1F3FF y) a b c d e
  where
    no_tone : (y < 0x1F3FB) ⊎ (0x1F3FB ≤ y) → (0x1F3FF < y) ⊎ (y ≤ 0x1F3FF) → y ≢ 0x1F3FB → y ≢ 0x1F3FC → y ≢ 0x1F3FD → y ≢ 0x1F3FE → y ≢ 0x1F3FF → is_in_range 0x1F3FB 0x1F3FF y ≡ false
    no_tone (inl low) h a b c d e = grind (arith, nat_tests)
    no_tone (inr low) (inl h) a b c d e = grind (arith, nat_tests)
    no_tone (inr low) (inr h) a b c d e = absurd (omega arith)
