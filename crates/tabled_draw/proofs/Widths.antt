-- How wide a text is beside others: what unicode_width reads from its end.
use Rattle.tabled_draw.proofs.Common.{AllByRecursion, ArePlain, IsFineMark, List, [], add-one, add-zero, ap, arith, cases_lt, false, inl, inr, length, length-replicate, nat_tests, refl, replicate, subst, suc, sym, text_width, zero, ℕ, ◌++◌, ◌+◌, ◌<◌, ◌∙◌, ◌∷◌, ◌≡◌, ◌≤◌, ◌⊎◌}
use Rattle.std.proofs.lemmas.List.Elements.{All-head, All-tail}
pub use Rattle.tabled_width.proofs.Reading.{columns-blanks, cond-alike}
use Rattle.tabled_width.proofs.Reading.{read-append, read-blank, read-shifted}
use Rattle.unicode_width.specs.Width.{Reading, alone, past_emoji, plain, read_before, step, str_width}

pub columns-nil : text_width [] ≡ 0
unfolding str_width
columns-nil = refl

-- ---- texts before which others are read as at the end of a line

pub IsPlain : List ℕ → Type 0
IsPlain xs = (t : ℕ) → (read_before false xs (t, plain)).1 ≡ plain

pub columns-append : (xs ys : List ℕ) → IsPlain ys → text_width (xs ++ ys) ≡ text_width xs + text_width ys
unfolding str_width IsPlain
columns-append xs ys p =
    let n = (read_before false ys (0, plain)).0 in
    ap (λ r. r.0) (read-append xs ys (0, plain)) ∙ ap (λ s. (read_before false xs (n, s)).0) (p 0) ∙ read-shifted xs n

pub plain-nil : IsPlain []
unfolding IsPlain
plain-nil t = refl

pub plain-append : (xs ys : List ℕ) → IsPlain xs → IsPlain ys → IsPlain (xs ++ ys)
unfolding IsPlain
plain-append xs ys p q t =
    let n = (read_before false ys (t, plain)).0 in
    ap (λ r. r.1) (read-append xs ys (t, plain)) ∙ ap (λ s. (read_before false xs (n, s)).1) (q t) ∙ p n

plain-blank : (xs : List ℕ) → IsPlain (32 ∷ xs)
unfolding IsPlain
plain-blank xs t = ap (λ r. r.1) (read-blank (read_before false xs (t, plain)))

pub plain-blanks : (n : ℕ) → IsPlain (replicate n 32)
plain-blanks zero = plain-nil
plain-blanks (suc n) = plain-blank (replicate n 32)

-- blanks before a text
pub plain-after_blanks : (n : ℕ) (xs : List ℕ) → IsPlain (replicate (n + 1) 32 ++ xs)
plain-after_blanks n xs = subst (λ k. IsPlain (replicate k 32 ++ xs)) (sym (add-one n)) (plain-blank (replicate n 32 ++ xs))

pub columns-after_blanks : (n : ℕ) (xs : List ℕ) → text_width (replicate n 32 ++ xs) ≡ n + text_width xs
unfolding str_width
columns-after_blanks zero xs = let e : text_width xs ≡ 0 + text_width xs = omega arith in e
columns-after_blanks (suc n) xs =
    let go : text_width (replicate n 32 ++ xs) ≡ n + text_width xs = columns-after_blanks n xs in
    ap (λ r. r.0) (read-blank (read_before false (replicate n 32 ++ xs) (0, plain))) ∙ ap (λ k. k + 1) go ∙ (let e : n + text_width xs + 1 ≡ suc n + text_width xs = omega arith in e)

-- ---- characters that count one, and join nothing

step-low : (c t : ℕ) → 31 < c → c < 161 → step false c (t, plain) ≡ (t + 1, plain)
unfolding step past_emoji
step-low c t low high = grind (arith, nat_tests)

step-high : (c t : ℕ) → 160 < c → step false c (t, plain) ≡ (t + (alone false c).0, (alone false c).1)
unfolding step past_emoji
step-high c t high = grind (arith, nat_tests)

step-mark : (c t : ℕ) → IsFineMark c → step false c (t, plain) ≡ (t + 1, plain)
step-mark c t fine = plain-step (cases_lt 160 c)
  where
    plain-step : (160 < c) ⊎ (c ≤ 160) → step false c (t, plain) ≡ (t + 1, plain)
    plain-step (inl high) = step-high c t high ∙ ap (λ (r : Reading). (t + r.0, r.1)) fine.wide
    plain-step (inr low) = step-low c t (omega (arith, fine.plain.above)) (omega arith)

read-marks : (cs : List ℕ) → AllByRecursion IsFineMark cs → (t : ℕ) → read_before false cs (t, plain) ≡ (t + length cs, plain)
read-marks [] all t = ap (λ k. (k, plain)) (sym (add-zero t))
read-marks (c ∷ cs) all t = ap (step false c) (read-marks cs all.1 t) ∙ step-mark c (t + length cs) all.0 ∙ ap (λ k. (k, plain)) (let e : t + length cs + 1 ≡ t + suc (length cs) = omega arith in e)

pub marks-wide : (cs : List ℕ) → AllByRecursion IsFineMark cs → text_width cs ≡ length cs
unfolding str_width
marks-wide cs all = ap (λ r. r.0) (read-marks cs all 0) ∙ (let e : 0 + length cs ≡ length cs = omega arith in e)

pub plain-marks : (cs : List ℕ) → AllByRecursion IsFineMark cs → IsPlain cs
unfolding IsPlain
plain-marks cs all t = ap (λ r. r.1) (read-marks cs all t)

pub all-marks : (n c : ℕ) → IsFineMark c → AllByRecursion IsFineMark (replicate n c)
all-marks zero c fine = tt
all-marks (suc n) c fine = (fine, all-marks n c fine)

pub columns-replicate : (n c : ℕ) → IsFineMark c → text_width (replicate n c) ≡ n
columns-replicate n c fine = marks-wide (replicate n c) (all-marks n c fine) ∙ length-replicate n c

abbrev Plain : ℕ → Type 0
Plain b = (31 < b) × (b < 127)

read-plain : (bs : List ℕ) → ArePlain bs → (t : ℕ) → read_before false bs (t, plain) ≡ (t + length bs, plain)
read-plain [] all t = ap (λ k. (k, plain)) (sym (add-zero t))
read-plain (b ∷ bs) all t =
    let h = All-head Plain b bs all in
    ap (step false b) (read-plain bs (All-tail Plain b bs all) t) ∙ step-low b (t + length bs) h.0 (omega (arith, h.1)) ∙ ap (λ k. (k, plain)) (let e : t + length bs + 1 ≡ t + suc (length bs) = omega arith in e)

-- characters of one byte that can be seen
pub plain-columns : (bs : List ℕ) → ArePlain bs → text_width bs ≡ length bs
unfolding str_width
plain-columns bs all = ap (λ r. r.0) (read-plain bs all 0) ∙ (let e : 0 + length bs ≡ length bs = omega arith in e)
