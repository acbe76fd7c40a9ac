-- A cluster before a ligature's letter: it takes other columns with it than apart, or is read as at the end of a line.
use Rattle.std.proofs.Common.{[], ◌&&◌, ◌++◌, ◌+◌, ◌-◌, ◌<◌, ◌==◌, ◌∙◌, ◌∷◌, ◌≡◌, ◌≢◌, ◌≤◌, ◌⊎◌, Bool, List, ap, ap₂, arith, cond, false, inl, inr, nat_le, ne_eqb, refl, subst, sym, true, ℕ}
use Rattle.std.proofs.lemmas.Bool.{cases_Bool, cases_lt, false≢true, lt-leb}
use Rattle.std.specs.List.{AllByRecursion}
use Rattle.tabled_width.proofs.Clusters.{IsKept, context-outcome, kept, state, without}
use Rattle.tabled_width.proofs.Ligatures.{IsJoining, Outcome, along, is_ligature}
use Rattle.tabled_width.proofs.Reading.{read-append, read-shifted}
use Rattle.tabled_width.specs.Pieces.{attaches}
use Rattle.unicode_width.specs.Width.{Reading, before, if_kept, in_context, is_emoji_variation_base, is_joined_emoji, past_emoji, plain, read_before, step}
use Rattle.unicode_width.specs.declared.state.After.{After}
use Rattle.unicode_width.specs.declared.state.After.TheVariants.{Emoji, LineFeed, Nothing}
use Rattle.unicode_width.specs.declared.state.State.{State}
use borrow.Author.Tests.{le-leb}

module _ (a : After) (lig : is_ligature a ≡ true) (y : ℕ) where
  keeps : IsKept a
  keeps = kept a lig

  -- ---- where U+FE0F doesn't apply

  low-outcome : (t q u v : Bool) → y ≤ 0xA0 → Outcome y (λ n. past_emoji false y n (state a false t q)) (λ n. past_emoji false y n (state Nothing false u v))
  unfolding past_emoji
  low-outcome t q u v low = inl (record { same = λ n. rw (keeps.no_feed, le-leb y 0xA0 low) (same-reading n (y == 0x0A) (y == 0x0D)) })
    where
      same-reading : (n : ℕ) (b d : Bool) → ◌≡◌ {A = Reading} (cond b (n + 1, before LineFeed) (cond (d && false) (n, plain) (n + 1, plain))) (cond b (n + 1, before LineFeed) (cond (d && false) (n, plain) (n + 1, plain)))
      same-reading n b d = refl

  high-outcome : (t q u v : Bool) → (u ≡ true → t ≡ true) → (v ≡ true → q ≡ true) → 0xA0 < y → Outcome y (λ n. past_emoji false y n (state a false t q)) (λ n. past_emoji false y n (state Nothing false u v))
  unfolding past_emoji
  high-outcome t q u v texts quotes high =
      let feed : (y == 0x0A) ≡ false = ne_eqb y 0x0A (λ e. omega (arith, e, high)) in
      let back : (y == 0x0D) ≡ false = ne_eqb y 0x0D (λ e. omega (arith, e, high)) in
      let above : nat_le y 0xA0 ≡ false = lt-leb y 0xA0 high in
      along y _ _ (λ n. in_context false y n (state a false t q)) (without y u v)
      (λ n. rw (feed, back, above, keeps.something) refl)
      (λ n. rw (feed, back, above) refl)
      (context-outcome a lig y high t q u v texts quotes)

  past-outcome : (t q u v : Bool) → (u ≡ true → t ≡ true) → (v ≡ true → q ≡ true) → Outcome y (λ n. past_emoji false y n (state a false t q)) (λ n. past_emoji false y n (state Nothing false u v))
  past-outcome t q u v texts quotes = elim (cases_lt 0xA0 y) [
    | inl high ↦ high-outcome t q u v texts quotes high
    | inr low ↦ low-outcome t q u v low
  ]

  state-outcome : (e t q u v : Bool) → (u ≡ true → t ≡ true) → (v ≡ true → q ≡ true) → Outcome y (λ n. step false y (n, state a e t q)) (λ n. step false y (n, state Nothing e u v))
  unfolding step
  state-outcome false t q u v texts quotes = past-outcome t q u v texts quotes
  state-outcome true t q u v texts quotes = base-outcome (cases_Bool (is_emoji_variation_base y))
    where
      keep : if_kept (state a true t q) ≡ state a true t q
      keep = rw keeps.kept refl

      base-outcome : (is_emoji_variation_base y ≡ true) ⊎ (is_emoji_variation_base y ≡ false) → Outcome y (λ n. cond (is_emoji_variation_base y) (n + cond (is_joined_emoji a) 0 2, before Emoji) (past_emoji false y n (record (if_kept (state a true t q)) { emoji = false }))) (λ n. cond (is_emoji_variation_base y) (n + 2, before Emoji) (past_emoji false y n (state Nothing false false false)))
      base-outcome (inl is) = inl (record { same = λ n. rw (is, keeps.no_joined) refl })
      base-outcome (inr other) = along y _ _ (λ n. past_emoji false y n (state a false t q)) (λ n. past_emoji false y n (state Nothing false false false)) (λ n. rw (other, keep) refl) (λ n. rw other refl) (past-outcome t q false false (λ e. absurd (false≢true e)) (λ e. absurd (false≢true e)))

-- any character, by the two states behind it
pub step-outcome : (y : ℕ) (s p : State) → IsJoining s p → Outcome y (λ n. step false y (n, s)) (λ n. step false y (n, p))
step-outcome y s p h =
    let same : p ≡ state Nothing s.emoji p.text p.quote = ap₂ (λ x e. state x e p.text p.quote) h.nothing (sym h.emoji) in
    subst (λ (x : State). Outcome y (λ n. step false y (n, s)) (λ n. step false y (n, x))) (sym same) (state-outcome s.after h.ligature y s.emoji s.text s.quote p.text p.quote h.text h.quote)

-- ---- characters that attach

pub AreAttached : List ℕ → Type 0
AreAttached zs = AllByRecursion (λ z. attaches z ≡ true) zs

abbrev read : List ℕ → ℕ → State → Reading
read zs n s = read_before false zs (n, s)

record Same (zs : List ℕ) (s p : State) : Type 0 where
  same : (n : ℕ) → 1 ≤ n → read zs n s ≡ read zs n p

record Apart (zs : List ℕ) (s p : State) : Type 0 where
  apart : (n : ℕ) → 1 ≤ n → (xs : List ℕ) → (read_before false xs (read zs n s)).0 ≢ (read_before false xs (read zs n p)).0

record Still (zs : List ℕ) (s p : State) : Type 0 where
  columns : ℕ
  joined : State
  unjoined : State
  joining : IsJoining joined unjoined
  with_it : (n : ℕ) → read zs n s ≡ (n + columns, joined)
  without_it : (n : ℕ) → read zs n p ≡ (n + columns, unjoined)

abbrev Attached : List ℕ → State → State → Type 0
Attached zs s p = Same zs s p ⊎ (Apart zs s p ⊎ Still zs s p)

attached : (zs : List ℕ) (s p : State) → IsJoining s p → AllByRecursion (λ z. attaches z ≡ true) zs → Attached zs s p
attached [] s p h all = inr (inr (record { columns = 0; joined = s; unjoined = p; joining = h; with_it = λ n. ap (λ k. (k, s)) (let e : n ≡ n + 0 = omega arith in e); without_it = λ n. ap (λ k. (k, p)) (let e : n ≡ n + 0 = omega arith in e) }))
attached (z ∷ zs) s p h all = one-attached (attached zs s p h all.1)
  where
    one-attached : Attached zs s p → Attached (z ∷ zs) s p
    one-attached (inl same) = inl (record { same = λ n some. ap (step false z) (same.same n some) })
    one-attached (inr (inl apart)) = inr (inl (record { apart = λ n some xs e. apart.apart n some (xs ++ z ∷ []) (ap (λ (r : Reading). r.0) (read-append xs (z ∷ []) (read zs n s)) ∙ e ∙ ap (λ (r : Reading). r.0) (sym (read-append xs (z ∷ []) (read zs n p)))) }))
    one-attached (inr (inr still)) = next (step-outcome z still.joined still.unjoined still.joining)
      where
        next : Outcome z (λ n. step false z (n, still.joined)) (λ n. step false z (n, still.unjoined)) → Attached (z ∷ zs) s p
        next (inl o) = inl (record { same = λ n some. ap (step false z) (still.with_it n) ∙ o.same (n + still.columns) ∙ ap (step false z) (sym (still.without_it n)) })
        next (inr (inl o)) = inr (inr (record {
          columns = still.columns + o.columns;
          joined = o.joined;
          unjoined = o.unjoined;
          joining = o.joining;
          with_it = λ n. ap (step false z) (still.with_it n) ∙ o.with_it (n + still.columns) ∙ ap (λ k. (k, o.joined)) (let e : n + still.columns + o.columns ≡ n + (still.columns + o.columns) = omega arith in e);
          without_it = λ n. ap (step false z) (still.without_it n) ∙ o.without (n + still.columns) ∙ ap (λ k. (k, o.unjoined)) (let e : n + still.columns + o.columns ≡ n + (still.columns + o.columns) = omega arith in e);
        }))
        next (inr (inr (inl o))) = inr (inl (record {
          apart = λ n some xs e.
              let less = ap (λ (r : Reading). (read_before false xs r).0) (ap (step false z) (still.with_it n) ∙ o.with_it (n + still.columns)) ∙ read-shifted xs (n + still.columns - 1) in
              let more = ap (λ (r : Reading). (read_before false xs r).0) (ap (step false z) (still.without_it n) ∙ o.without (n + still.columns)) ∙ read-shifted xs (n + still.columns) in
              omega (arith, sym less ∙ e ∙ more, some);
        }))
        next (inr (inr (inr o))) = absurd (false≢true (sym o.apart ∙ all.0))

-- a cluster whose columns add up is read as at the end of a line
pub cluster-same : (x : ℕ) (zs : List ℕ) (s p : State) → IsJoining s p → attaches x ≡ false → AllByRecursion (λ z. attaches z ≡ true) zs → (n : ℕ) → 1 ≤ n → (read_before false (x ∷ zs) (n, s)).0 ≡ (read_before false (x ∷ zs) (n, p)).0 → (m : ℕ) → 1 ≤ m → read_before false (x ∷ zs) (m, s) ≡ read_before false (x ∷ zs) (m, p)
cluster-same x zs s p h begins all n some e m more = first-same (attached zs s p h all)
  where
    first-same : Attached zs s p → read_before false (x ∷ zs) (m, s) ≡ read_before false (x ∷ zs) (m, p)
    first-same (inl same) = ap (step false x) (same.same m more)
    first-same (inr (inl apart)) = absurd (apart.apart n some (x ∷ []) e)
    first-same (inr (inr still)) = next (step-outcome x still.joined still.unjoined still.joining)
      where
        next : Outcome x (λ k. step false x (k, still.joined)) (λ k. step false x (k, still.unjoined)) → read_before false (x ∷ zs) (m, s) ≡ read_before false (x ∷ zs) (m, p)
        next (inl o) = ap (step false x) (still.with_it m) ∙ o.same (m + still.columns) ∙ ap (step false x) (sym (still.without_it m))
        next (inr (inl o)) = absurd (false≢true (sym begins ∙ o.attached))
        next (inr (inr (inl o))) =
            let less = ap (λ (r : Reading). r.0) (ap (step false x) (still.with_it n) ∙ o.with_it (n + still.columns)) in
            let whole = ap (λ (r : Reading). r.0) (ap (step false x) (still.without_it n) ∙ o.without (n + still.columns)) in
            absurd (omega (arith, sym less ∙ e ∙ whole, some))
        next (inr (inr (inr o))) = absurd (o.differ (n + still.columns) (omega (arith, some)) (ap (λ (r : Reading). (step false x r).0) (sym (still.with_it n)) ∙ e ∙ ap (λ (r : Reading). (step false x r).0) (still.without_it n)))

-- so are characters that attach, where there are no others
pub attached-same : (zs : List ℕ) (s p : State) → IsJoining s p → AllByRecursion (λ z. attaches z ≡ true) zs → (n : ℕ) → 1 ≤ n → (read_before false zs (n, s)).0 ≡ (read_before false zs (n, p)).0 → (m : ℕ) → 1 ≤ m → (read_before false zs (m, s)).0 ≡ (read_before false zs (m, p)).0
attached-same zs s p h all n some e m more = columns-same (attached zs s p h all)
  where
    columns-same : Attached zs s p → (read_before false zs (m, s)).0 ≡ (read_before false zs (m, p)).0
    columns-same (inl same) = ap (λ (r : Reading). r.0) (same.same m more)
    columns-same (inr (inl apart)) = absurd (apart.apart n some [] e)
    columns-same (inr (inr still)) = ap (λ (r : Reading). r.0) (still.with_it m) ∙ ap (λ (r : Reading). r.0) (sym (still.without_it m))
