-- How a text is read before others: unicode_width reads it from its end.
use Rattle.std.proofs.Common.{[], ◌++◌, ◌+◌, ◌∙◌, ◌∷◌, ◌≡◌, Bool, List, add-zero, ap, arith, cond, false, not, refl, suc, sym, true, zero, ℕ}
use Rattle.std.specs.List.{list_all}
use Rattle.std.specs.Prelude.{replicate}
use Rattle.tabled_width.specs.Columns.{text_width}
use Rattle.unicode_width.proofs.Computing.{unicode_width}
use Rattle.unicode_width.proofs.Rules.{is_simple, str_width-append_simple}
use Rattle.unicode_width.specs.Width.{Reading, plain, read_before, step, str_width}

pub read-append : (xs ys : List ℕ) (r : Reading) → read_before false (xs ++ ys) r ≡ read_before false xs (read_before false ys r)
read-append [] ys r = refl
read-append (x ∷ xs) ys r = ap (step false x) (read-append xs ys r)

-- whatever is tested, where both ways come to one
pub cond-alike : {A : Type 0} (b : Bool) (x y z : A) → x ≡ z → y ≡ z → cond b x y ≡ z
cond-alike true x y z p q = p
cond-alike false x y z p q = q

-- a blank counts one, whatever stands behind it
pub read-blank : (r : Reading) → step false 32 r ≡ (r.0 + 1, plain)
unfolding unicode_width
read-blank (t, s) = cond-alike (not s.emoji) (t + 1, plain) (t + 1, plain) (t + 1, plain) refl refl

read-blanks : (n t : ℕ) → read_before false (replicate n 32) (t, plain) ≡ (t + n, plain)
read-blanks zero t = ap (λ k. (k, plain)) (sym (add-zero t))
read-blanks (suc n) t = ap (step false 32) (read-blanks n t) ∙ read-blank (t + n, plain) ∙ ap (λ k. (k, plain)) (let e : t + n + 1 ≡ t + suc n = omega arith in e)

blanks-simple : (n : ℕ) → list_all is_simple (replicate n 32) ≡ true
blanks-simple zero = refl
blanks-simple (suc n) = blanks-simple n

pub columns-blanks : (n : ℕ) → text_width (replicate n 32) ≡ n
unfolding str_width
columns-blanks n = ap (λ (r : Reading). r.0) (read-blanks n 0) ∙ (let e : 0 + n ≡ n = omega arith in e)

-- what is added behind a text is added to its width
pub read-shifted : (xs : List ℕ) (t : ℕ) → (read_before false xs (t, plain)).0 ≡ text_width xs + t
unfolding str_width
read-shifted xs t =
    let none : 0 + t ≡ t = omega arith in
    ap (λ k. (read_before false xs (k, plain)).0) (sym none) ∙ ap (λ (r : Reading). (read_before false xs r).0) (sym (read-blanks t 0)) ∙ ap (λ (r : Reading). r.0) (sym (read-append xs (replicate t 32) (0, plain)))
    ∙ str_width-append_simple false xs (replicate t 32) (blanks-simple t) ∙ ap (λ n. str_width false xs + n) (columns-blanks t)

-- the width of a text before another
pub read-width : (xs ys : List ℕ) → text_width (xs ++ ys) ≡ (read_before false xs (read_before false ys (0, plain))).0
unfolding str_width
read-width xs ys = ap (λ (r : Reading). r.0) (read-append xs ys (0, plain))

pub width-is : (ys : List ℕ) → text_width ys ≡ (read_before false ys (0, plain)).0
unfolding str_width
width-is ys = refl
