-- The search for a closing quote.
use Rattle.tabled_csv.proofs.Common.{◌≡◌, ◌≤◌, ◌<◌, ◌+◌, ◌==◌, ◌++◌, ◌∷◌, ◌∙◌, [], ℕ, List, Option, None, Some, Bool, false, true, refl, sym, ap, arith, append_assoc, begins_with, cond, doubled, drop, drop_of_length-le, eqb-true, drop_more, get_or, length, length-drop, ne_eqb, take, take_more, take-append-drop}
use Rattle.tabled_csv.proofs.DoubledQuotes.{doubled-append}
use Rattle.tabled_csv.proofs.Unique.{onto_text, quoted-is, quoted-plain, quoted_at}
use Rattle.tabled_csv.specs.Fields.{ClosedBy, NeverCloses}

-- a place is passed: the bytes below it are those of a text, behind which a field goes on
pub record Passed (bytes : List ℕ) (place : ℕ) (has_doubled : Bool) : Type 0 where
  pub inside : place ≤ length bytes
  pub text : List ℕ
  pub inner : take place bytes ≡ doubled text
  pub goes_on : quoted_at bytes ≡ onto_text text (quoted_at (drop place bytes))
  pub same : has_doubled ≡ false → take place bytes ≡ text

onto-nothing : (q : Option (List ℕ × List ℕ)) → q ≡ onto_text [] q
onto-nothing None = refl
onto-nothing (Some q) = refl

onto-twice : (xs ys : List ℕ) (q : Option (List ℕ × List ℕ)) → onto_text xs (onto_text ys q) ≡ onto_text (xs ++ ys) q
onto-twice xs ys None = refl
onto-twice xs ys (Some q) = ap (λ (l : List ℕ). Some (l, q.1)) (sym (append_assoc xs ys q.0))

pub passed-none : (bytes : List ℕ) → Passed bytes 0 false
passed-none bytes = record { inside = omega arith; text = []; inner = refl; goes_on = onto-nothing (quoted_at bytes); same = λ e. refl }

module _ (bytes : List ℕ) (place : ℕ) (has_doubled : Bool) (p : Passed bytes place has_doubled) (inside : place < length bytes) where
  -- a byte that is no quote
  pub passed-plain : (get_or bytes place 0 ≡ 34 → ⊥) → Passed bytes (place + 1) has_doubled
  passed-plain other =
      let b = get_or bytes place 0 in
      let no_quote : (b == 34) ≡ false = ne_eqb b 34 other in
      let one : doubled (b ∷ []) ≡ b ∷ [] = rw no_quote refl in
      let more : take (place + 1) bytes ≡ take place bytes ++ (b ∷ []) = take_more bytes place 0 inside in
      record {
        inside = omega arith;
        text = p.text ++ (b ∷ []);
        inner = more ∙ ap (λ (l : List ℕ). l ++ (b ∷ [])) p.inner ∙ ap (λ (l : List ℕ). doubled p.text ++ l) (sym one) ∙ sym (doubled-append p.text (b ∷ []));
        goes_on = p.goes_on ∙ ap (λ (l : List ℕ). onto_text p.text (quoted_at l)) (drop_more bytes place 0 inside)
            ∙ ap (onto_text p.text) (quoted-plain b (drop (place + 1) bytes) no_quote) ∙ onto-twice p.text (b ∷ []) (quoted_at (drop (place + 1) bytes));
        same = λ e. more ∙ ap (λ (l : List ℕ). l ++ (b ∷ [])) (p.same e);
      }

  module _ (quote : get_or bytes place 0 ≡ 34) where
    at-quote : drop place bytes ≡ 34 ∷ drop (place + 1) bytes
    at-quote = drop_more bytes place 0 inside ∙ ap (λ (b : ℕ). b ∷ drop (place + 1) bytes) quote

    -- a quote behind it
    begins-at : (rest : List ℕ) → begins_with 34 rest ≡ true → (others : List ℕ) × (rest ≡ 34 ∷ others)
    begins-at [] e = cc
    begins-at (b ∷ rest) e = (rest, ap (λ (x : ℕ). x ∷ rest) (eqb-true b 34 e))

    pub passed-doubled : begins_with 34 (drop (place + 1) bytes) ≡ true → Passed bytes (place + 2) true
    passed-doubled second =
        let others = begins-at (drop (place + 1) bytes) second in
        let within : place + 1 < length bytes = omega (arith, length-drop (place + 1) bytes, ap length others.1) in
        let first : take (place + 1) bytes ≡ take place bytes ++ (34 ∷ []) = take_more bytes place 0 inside ∙ ap (λ (b : ℕ). take place bytes ++ (b ∷ [])) quote in
        let after = drop_more bytes (place + 1) 0 within in
        let is : get_or bytes (place + 1) 0 ≡ 34 = head-is (sym after ∙ others.1) in
        let two : take (place + 2) bytes ≡ (take place bytes ++ (34 ∷ [])) ++ (34 ∷ []) =
        ap (λ (n : ℕ). take n bytes) (omega arith) ∙ take_more bytes (place + 1) 0 within ∙ ap (λ (b : ℕ). take (place + 1) bytes ++ (b ∷ [])) is
        ∙ ap (λ (l : List ℕ). l ++ (34 ∷ [])) first in
        let behind : drop (place + 1) bytes ≡ 34 ∷ drop (place + 2) bytes =
        after ∙ ap (λ (b : ℕ). b ∷ drop (place + 1 + 1) bytes) is ∙ ap (λ (n : ℕ). 34 ∷ drop n bytes) (omega arith) in
        record {
          inside = omega arith;
          text = p.text ++ (34 ∷ []);
          inner = two ∙ append_assoc (take place bytes) (34 ∷ []) (34 ∷ []) ∙ ap (λ (l : List ℕ). l ++ (34 ∷ 34 ∷ [])) p.inner ∙ sym (doubled-append p.text (34 ∷ []));
          goes_on = p.goes_on ∙ ap (λ (l : List ℕ). onto_text p.text (quoted_at l)) (at-quote ∙ ap (λ (l : List ℕ). 34 ∷ l) behind)
              ∙ onto-twice p.text (34 ∷ []) (quoted_at (drop (place + 2) bytes));
          same = λ e. cc;
        }
      where
        head-is : {a b : ℕ} {xs ys : List ℕ} → a ∷ xs ≡ b ∷ ys → a ≡ b
        head-is e = cc

    -- none behind it
    pub closed-here : begins_with 34 (drop (place + 1) bytes) ≡ false → ClosedBy bytes (record { place = place; has_doubled = has_doubled })
    closed-here single = record {
      inside = inside;
      text = p.text;
      inner = p.inner;
      closes = record {
        parts = sym (take-append-drop place bytes) ∙ ap (λ (l : List ℕ). l ++ drop place bytes) p.inner ∙ ap (λ (l : List ℕ). doubled p.text ++ l) at-quote;
        single = single;
      };
      same = p.same;
    }

-- at the end of the bytes
pub never-closed : (bytes : List ℕ) (place : ℕ) (has_doubled : Bool) → Passed bytes place has_doubled → length bytes ≤ place → NeverCloses bytes
never-closed bytes place has_doubled p end text after c =
    let all : drop place bytes ≡ [] = drop_of_length-le bytes end in
    let none : quoted_at bytes ≡ None = p.goes_on ∙ ap (λ (l : List ℕ). onto_text p.text (quoted_at l)) all in
    let some : quoted_at bytes ≡ Some (text, after) = ap quoted_at c.parts ∙ quoted-is text after c.single in
    absurd (differ (sym none ∙ some))
  where
    differ : {q : List ℕ × List ℕ} → None ≡ Some q → ⊥
    differ e = cc

-- ---- one quote for two

abbrev pub undoubled : Bool → List ℕ → List ℕ
undoubled is_second [] = []
undoubled true (b ∷ bytes) = undoubled false bytes
undoubled false (b ∷ bytes) = b ∷ undoubled (b == 34) bytes

pub undoubled-doubled : (text : List ℕ) → undoubled false (doubled text) ≡ text
undoubled-doubled [] = refl
undoubled-doubled (b ∷ bs) = of-first (b == 34) refl (undoubled-doubled bs)
  where
    of-first : (c : Bool) → (b == 34) ≡ c → undoubled false (doubled bs) ≡ bs → undoubled false (cond c (34 ∷ 34 ∷ doubled bs) (b ∷ doubled bs)) ≡ b ∷ bs
    of-first true e h = ap (λ (l : List ℕ). 34 ∷ l) h ∙ ap (λ (x : ℕ). x ∷ bs) (sym (eqb-true b 34 e))
    of-first false e h = rw e (ap (λ (l : List ℕ). b ∷ l) h)
