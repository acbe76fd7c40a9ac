-- A text, written as a string: bytes of which those below w are written, and from there up to i is each one plain.
use Rattle.std.proofs.lemmas.List.{get_or-drop, length-drop, take_all, take_more, take_rest}
use Rattle.tabled_json.proofs.Common.{◌≡◌, ◌≤◌, ◌<◌, ◌+◌, ◌-◌, ◌++◌, ◌∷◌, ◌∙◌, [], ℕ, List, true, sym, ap, arith, append-nil, append_assoc, drop, get_or, length, take}
use Rattle.tabled_json.proofs.Written.{escape-plain, escaped-more}
use Rattle.tabled_json.specs.Strings.{is_plain}
use Rattle.tabled_json.specs.Writing.{escape, escaped_text, string_of}

module _ (xs : List ℕ) (w i : ℕ) (behind : w ≤ i) (inside : i < length xs) where
  next-part : take (i + 1 - w) (drop w xs) ≡ take (i - w) (drop w xs) ++ (get_or xs i 0 ∷ [])
  next-part =
      ap (λ (n : ℕ). take n (drop w xs)) (omega arith) ∙ take_more (drop w xs) (i - w) 0 (omega (arith, length-drop w xs))
      ∙ ap (λ (b : ℕ). take (i - w) (drop w xs) ++ (b ∷ [])) (get_or-drop w xs (i - w) 0 ∙ ap (λ (n : ℕ). get_or xs n 0) (omega arith))

  one-more : escaped_text (take (i + 1) xs) ≡ escaped_text (take i xs) ++ escape (get_or xs i 0)
  one-more = ap escaped_text (take_more xs i 0 inside) ∙ escaped-more (take i xs) (get_or xs i 0)

  pub plain-more : is_plain (get_or xs i 0) ≡ true → escaped_text (take i xs) ≡ escaped_text (take w xs) ++ take (i - w) (drop w xs)
      → escaped_text (take (i + 1) xs) ≡ escaped_text (take w xs) ++ take (i + 1 - w) (drop w xs)
  plain-more plain quiet =
      one-more ∙ ap (λ (l : List ℕ). escaped_text (take i xs) ++ l) (escape-plain (get_or xs i 0) plain)
      ∙ ap (λ (l : List ℕ). l ++ (get_or xs i 0 ∷ [])) quiet
      ∙ append_assoc (escaped_text (take w xs)) (take (i - w) (drop w xs)) (get_or xs i 0 ∷ []) ∙ ap (λ (l : List ℕ). escaped_text (take w xs) ++ l) (sym next-part)

  pub escape-more : escaped_text (take i xs) ≡ escaped_text (take w xs) ++ take (i - w) (drop w xs)
      → ((34 ∷ escaped_text (take w xs)) ++ take (i - w) (drop w xs)) ++ escape (get_or xs i 0) ≡ 34 ∷ escaped_text (take (i + 1) xs)
  escape-more quiet = ap (λ (l : List ℕ). 34 ∷ (l ++ escape (get_or xs i 0))) (sym quiet) ∙ ap (λ (l : List ℕ). 34 ∷ l) (sym one-more)

-- all is written below n
pub quiet-none : (xs : List ℕ) (n : ℕ) → escaped_text (take n xs) ≡ escaped_text (take n xs) ++ take (n - n) (drop n xs)
quiet-none xs n =
    let none : n - n ≡ 0 = omega arith in
    rw none (sym (append-nil (escaped_text (take n xs))))

-- all bytes up to the end, the last of them plain
pub whole-string : (text : List ℕ) (w i : ℕ) → length text ≤ i → escaped_text (take i text) ≡ escaped_text (take w text) ++ take (i - w) (drop w text)
    → ((34 ∷ escaped_text (take w text)) ++ take (length text - w) (drop w text)) ++ (34 ∷ []) ≡ string_of text
whole-string text w i end quiet =
    let rest : take (length text - w) (drop w text) ≡ take (i - w) (drop w text) = take_rest text w ∙ sym (take_all (i - w) (drop w text) (omega (arith, length-drop w text))) in
    ap (λ (l : List ℕ). 34 ∷ (l ++ (34 ∷ [])))
    (ap (λ (l : List ℕ). escaped_text (take w text) ++ l) rest ∙ sym quiet ∙ ap escaped_text (take_all i text end))
