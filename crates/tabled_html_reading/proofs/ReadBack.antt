-- What is read of escaped texts, and of the bytes of elements.
use Rattle.std.proofs.Common.{◌≡◌, ◌≢◌, ◌∙◌, ◌++◌, ◌+◌, ◌-◌, ◌*◌, ◌/◌, ◌%◌, ◌^◌, ◌<◌, ◌≤◌, ◌==◌, ◌||◌, ℕ, Bool, true, false, List, [], ◌∷◌, None, Option, Some, ap, append-nil, append_assoc, arith, cond, decimal, eqb, eqb-true, ne_eqb, not, refl, sym}
use Rattle.std.proofs.lemmas.Bool.{and_from, and_parts, le-leb, leb-true}
use Rattle.std.proofs.lemmas.Fmt.{decimal_by_steps}
use Rattle.std.proofs.lemmas.List.{map-append}
use Rattle.std.proofs.lemmas.List.Folds.{list_all-append}
use Rattle.std.specs.List.{AllByRecursion, flat_map, list_all}
use Rattle.std.specs.Option.{is_some}
use Rattle.std.proofs.lemmas.Bool.Decides.{nat_tests}
use Rattle.std.specs.Prelude.{codes}
use Rattle.tabled_html_reading.specs.Building.{read_text, text_in, text_of}
use Rattle.tabled_html_reading.specs.Characters.{is_digit, is_letter, is_plain, is_small, is_within, lowercase}
use Rattle.tabled_html_reading.specs.Elements.{Attribute, number, number_behind, value_of}
use Rattle.tabled_html_reading.specs.Bytes.{attribute_bytes, attributes_bytes}
use Rattle.tabled_html_reading.specs.Showing.{ArePlain, IsPlain, are_apart, are_apart_behind}
use Rattle.tabled_html_reading.specs.Escaping.{escaped, escaped_byte, shown, shown_byte}
use Rattle.tabled_html_reading.specs.Tokenizing.{Tag, Token, after, characters, emit, in_data, in_state, normalized, tag, tokens_from, with_attribute}
use Rattle.tabled_html_reading.specs.Tokenizing.State.{AfterAttributeValue, AttributeName, AttributeValue, BeforeAttributeName, Data, TagName}
use Rattle.tabled_html_reading.specs.Tokenizing.Step.{Emits, Moves}
use Rattle.tabled_html_reading.specs.Tokenizing.Token.{Character, Marked}

-- ---- newlines

abbrev pub has_no_return : List ℕ → Bool
has_no_return bs = list_all (λ b. not (b == 13)) bs

pub normal : (bs : List ℕ) → has_no_return bs ≡ true → normalized bs ≡ bs
normal [] none = refl
normal (b ∷ bs) none = of-first (eqb b 13) refl (and_parts _ _ none) (normal bs)
  where
    of-first : (r : Bool) → eqb b 13 ≡ r → (not (eqb b 13) ≡ true) × (has_no_return bs ≡ true) → (has_no_return bs ≡ true → normalized bs ≡ bs) → normalized (b ∷ bs) ≡ b ∷ bs
    of-first true e parts others = let h : false ≡ true = ap not (sym e) ∙ parts.0 in cc
    of-first false e parts others = rw e (ap (λ more. b ∷ more) (others parts.1))

pub no_return-then : (xs ys : List ℕ) → has_no_return xs ≡ true → has_no_return ys ≡ true → has_no_return (xs ++ ys) ≡ true
no_return-then xs ys first second = list_all-append (λ b. not (b == 13)) xs ys ∙ and_from _ _ first second

no_return-byte : (b : ℕ) → has_no_return (escaped_byte b) ≡ true
no_return-byte b = of-tests (eqb b 38) (eqb b 60) (eqb b 62) (eqb b 13) (eqb b 0) refl
  where
    of-tests : (a l g r z : Bool) → eqb b 13 ≡ r → has_no_return (cond a (codes "&amp;") (cond l (codes "&lt;") (cond g (codes "&gt;") (cond r (codes "&#13;") (cond z (239 ∷ 191 ∷ 189 ∷ []) (b ∷ [])))))) ≡ true
    of-tests true l g r z e = refl
    of-tests false true g r z e = refl
    of-tests false false true r z e = refl
    of-tests false false false true z e = refl
    of-tests false false false false true e = refl
    of-tests false false false false false e = rw e refl

pub no_return-escaped : (text : List ℕ) → has_no_return (escaped text) ≡ true
no_return-escaped [] = refl
no_return-escaped (b ∷ bs) = no_return-then (escaped_byte b) (escaped bs) (no_return-byte b) (no_return-escaped bs)

-- ---- tokens

pub emit-then : (xs ys : List Token) (read : Option (List Token)) → emit xs (emit ys read) ≡ emit (xs ++ ys) read
emit-then xs ys None = refl
emit-then xs ys (Some more) = ap Some (sym (append_assoc xs ys more))

read-plain : (b : ℕ) (bs : List ℕ) → eqb b 38 ≡ false → eqb b 60 ≡ false → tokens_from (b ∷ bs) Data ≡ emit (Character b ∷ []) (tokens_from bs Data)
read-plain b bs a l = ap (after (λ t. tokens_from bs t)) step
  where
    step : in_data b ≡ Emits (Character b ∷ []) Data
    step = rw (a, l) refl

read-byte : (b : ℕ) (bs : List ℕ) → tokens_from (escaped_byte b ++ bs) Data ≡ emit (characters (shown_byte b)) (tokens_from bs Data)
unfolding lib.Utf8.encode
read-byte b bs = of-tests (eqb b 38) (eqb b 60) (eqb b 62) (eqb b 13) (eqb b 0) refl refl refl refl refl
  where
    at : (n : ℕ) → eqb b n ≡ true → emit (characters (shown_byte n)) (tokens_from bs Data) ≡ emit (characters (shown_byte b)) (tokens_from bs Data)
    at n e = ap (λ c. emit (characters (shown_byte c)) (tokens_from bs Data)) (sym (eqb-true b n e))

    of-tests : (a l g r z : Bool) → eqb b 38 ≡ a → eqb b 60 ≡ l → eqb b 62 ≡ g → eqb b 13 ≡ r → eqb b 0 ≡ z → tokens_from (cond a (codes "&amp;") (cond l (codes "&lt;") (cond g (codes "&gt;") (cond r (codes "&#13;") (cond z (239 ∷ 191 ∷ 189 ∷ []) (b ∷ []))))) ++ bs) Data ≡ emit (characters (shown_byte b)) (tokens_from bs Data)
    of-tests true l g r z ea el eg er ez = at 38 ea
    of-tests false true g r z ea el eg er ez = at 60 el
    of-tests false false true r z ea el eg er ez = at 62 eg
    of-tests false false false true z ea el eg er ez = at 13 er
    of-tests false false false false true ea el eg er ez =
        ap (emit (Character 239 ∷ [])) (emit-then (Character 191 ∷ []) (Character 189 ∷ []) (tokens_from bs Data))
        ∙ emit-then (Character 239 ∷ []) (Character 191 ∷ Character 189 ∷ []) (tokens_from bs Data)
        ∙ at 0 ez
    of-tests false false false false false ea el eg er ez = (let e : b ∷ [] ≡ shown_byte b = rw ez refl in read-plain b bs ea el ∙ ap (λ out. emit (characters out) (tokens_from bs Data)) e)

-- a text, before other bytes
pub read-escaped : (text bs : List ℕ) → tokens_from (escaped text ++ bs) Data ≡ emit (characters (shown text)) (tokens_from bs Data)
read-escaped [] bs = none (tokens_from bs Data)
  where
    none : (read : Option (List Token)) → read ≡ emit [] read
    none None = refl
    none (Some more) = refl
read-escaped (b ∷ text) bs =
    ap (λ xs. tokens_from xs Data) (append_assoc (escaped_byte b) (escaped text) bs)
    ∙ read-byte b (escaped text ++ bs)
    ∙ ap (emit (characters (shown_byte b))) (read-escaped text bs)
    ∙ emit-then (characters (shown_byte b)) (characters (shown text)) (tokens_from bs Data)
    ∙ ap (λ out. emit out (tokens_from bs Data)) (sym (map-append Character (shown_byte b) (shown text)))

-- ---- a text alone

abbrev pub has_no_nul : List ℕ → Bool
has_no_nul bs = list_all (λ b. not (b == 0)) bs

no_nul-byte : (b : ℕ) → has_no_nul (shown_byte b) ≡ true
no_nul-byte b = of-test (eqb b 0) refl
  where
    of-test : (z : Bool) → eqb b 0 ≡ z → has_no_nul (cond z (239 ∷ 191 ∷ 189 ∷ []) (b ∷ [])) ≡ true
    of-test true e = refl
    of-test false e = rw e refl

pub no_nul-shown : (text : List ℕ) → has_no_nul (shown text) ≡ true
no_nul-shown [] = refl
no_nul-shown (b ∷ bs) = list_all-append (λ b. not (b == 0)) (shown_byte b) (shown bs) ∙ and_from _ _ (no_nul-byte b) (no_nul-shown bs)

text-of-characters : (bs : List ℕ) → has_no_nul bs ≡ true → text_in (characters bs) ≡ Some bs
text-of-characters [] none = refl
text-of-characters (b ∷ bs) none = of-first (eqb b 0) refl (and_parts _ _ none) (text-of-characters bs)
  where
    of-first : (z : Bool) → eqb b 0 ≡ z → (not (eqb b 0) ≡ true) × (has_no_nul bs ≡ true) → (has_no_nul bs ≡ true → text_in (characters bs) ≡ Some bs) → text_in (characters (b ∷ bs)) ≡ Some (b ∷ bs)
    of-first true e parts others = let h : false ≡ true = ap not (sym e) ∙ parts.0 in cc
    of-first false e parts others = rw (e, others parts.1) refl

pub read-alone : (text : List ℕ) → read_text (escaped text) ≡ Some (shown text)
read-alone text =
    ap (λ bs. text_of (tokens_from bs Data)) (normal (escaped text) (no_return-escaped text) ∙ sym (append-nil (escaped text)))
    ∙ ap text_of (read-escaped text [])
    ∙ ap text_in (append-nil (characters (shown text)))
    ∙ text-of-characters (shown text) (no_nul-shown text)

-- a text without U+0000 is shown as it is
pub shown-same : (text : List ℕ) → AllByRecursion (λ b. b ≢ 0) text → shown text ≡ text
shown-same [] none = refl
shown-same (b ∷ bs) none = rw (ne_eqb b 0 none.0, shown-same bs none.1) refl

-- ---- numbers

abbrev pub AreDigits : List ℕ → Type 0
AreDigits ds = AllByRecursion (λ b. is_digit b ≡ true) ds

-- the digits of a number, and what is read of them
pub record IsNumber (n : ℕ) (ds : List ℕ) : Type 0 where
  pub digits : AreDigits ds
  pub read : number ds ≡ Some n

digits-push : (ds : List ℕ) (b : ℕ) → AreDigits ds → is_digit b ≡ true → AreDigits (ds ++ (b ∷ []))
digits-push [] b all is = (is, tt)
digits-push (d ∷ ds) b all is = (all.0, digits-push ds b all.1 is)

number-push : (k : ℕ) (ds : List ℕ) (b n : ℕ) → number_behind k ds ≡ Some n → is_digit b ≡ true → number_behind k (ds ++ (b ∷ [])) ≡ Some (n * 10 + (b - 48))
number-push k [] b n was is = (let e : k ≡ n = cc in rw (is, e) refl)
number-push k (d ∷ ds) b n was is = of-digit (is_digit d) was (number-push (k * 10 + (d - 48)) ds b n)
  where
    of-digit : (c : Bool) → cond c (number_behind (k * 10 + (d - 48)) ds) None ≡ Some n → (number_behind (k * 10 + (d - 48)) ds ≡ Some n → is_digit b ≡ true → number_behind (k * 10 + (d - 48)) (ds ++ (b ∷ [])) ≡ Some (n * 10 + (b - 48))) → cond c (number_behind (k * 10 + (d - 48)) (ds ++ (b ∷ []))) None ≡ Some (n * 10 + (b - 48))
    of-digit true was more = more was is
    of-digit false was more = cc

digit-is : (d : ℕ) → d < 10 → is_digit (48 + d) ≡ true
digit-is d less = and_from _ _ (le-leb 48 (48 + d) (omega arith)) (le-leb (48 + d) 57 (omega arith))

pub decimal-number : (n : ℕ) → n < 2 ^ 64 → IsNumber n (decimal n)
decimal-number n less = decimal_by_steps IsNumber one more n less
  where
    one : (n : ℕ) → n < 10 → IsNumber n ((48 + n) ∷ [])
    one n less = record { digits = (digit-is n less, tt); read = rw (digit-is n less) (let e : 0 * 10 + (48 + n - 48) ≡ n = omega arith in ap Some e) }

    pushed : (ds : List ℕ) (b n : ℕ) → number ds ≡ Some n → is_digit b ≡ true → number (ds ++ (b ∷ [])) ≡ Some (n * 10 + (b - 48))
    pushed [] b n was is = cc
    pushed (d ∷ ds) b n was is = number-push 0 (d ∷ ds) b n was is

    more : (n : ℕ) (ds : List ℕ) → 10 ≤ n → IsNumber (n / 10) ds → IsNumber n (ds ++ ((48 + n % 10) ∷ []))
    more n ds high was = record {
      digits = digits-push ds (48 + n % 10) was.digits (digit-is (n % 10) (omega arith));
      read = pushed ds (48 + n % 10) (n / 10) was.read (digit-is (n % 10) (omega arith)) ∙ (let e : n / 10 * 10 + (48 + n % 10 - 48) ≡ n = omega arith in ap Some e);
    }

digits-plain : (ds : List ℕ) → AreDigits ds → list_all is_plain ds ≡ true
digits-plain [] all = refl
digits-plain (d ∷ ds) all =
    let low : 48 ≤ d = leb-true 48 d (and_parts _ _ all.0).0 in
    let high : d ≤ 57 = leb-true d 57 (and_parts _ _ all.0).1 in
    and_from _ _ (digit-plain low high) (digits-plain ds all.1)
  where
    digit-plain : 48 ≤ d → d ≤ 57 → is_plain d ≡ true
    digit-plain low high = rw (ne_eqb d 34 (λ e. omega (arith, e, low)), ne_eqb d 38 (λ e. omega (arith, e, low)), ne_eqb d 13 (λ e. omega (arith, e, low)), ne_eqb d 0 (λ e. omega (arith, e, low))) refl

pub decimal-plain : (n : ℕ) → n < 2 ^ 64 → list_all is_plain (decimal n) ≡ true
decimal-plain n less = digits-plain (decimal n) (decimal-number n less).digits

-- ---- attributes

-- what is_plain rules out
pub record StandsAlone (b : ℕ) : Type 0 where
  pub quote : eqb b 34 ≡ false
  pub ampersand : eqb b 38 ≡ false
  pub return : eqb b 13 ≡ false
  pub nul : eqb b 0 ≡ false

plain-alone : (b : ℕ) → is_plain b ≡ true → StandsAlone b
plain-alone b plain =
    let p = and_parts _ _ plain in
    let q = and_parts _ _ p.1 in
    let r = and_parts _ _ q.1 in
    record { quote = not-so _ p.0; ampersand = not-so _ q.0; return = not-so _ r.0; nul = not-so _ r.1 }
  where
    not-so : (c : Bool) → not c ≡ true → c ≡ false
    not-so true h = cc
    not-so false h = refl

-- bytes in the value of an attribute
read-value : (t : Tag) (name value vs bs : List ℕ) → list_all is_plain vs ≡ true → tokens_from (vs ++ bs) (AttributeValue t name value) ≡ tokens_from bs (AttributeValue t name (value ++ vs))
read-value t name value [] bs plain = ap (λ v. tokens_from bs (AttributeValue t name v)) (sym (append-nil value))
read-value t name value (v ∷ vs) bs plain =
    ap (after (λ s. tokens_from (vs ++ bs) s)) (step (plain-alone v (and_parts _ _ plain).0))
    ∙ read-value t name (value ++ (v ∷ [])) vs bs (and_parts _ _ plain).1
    ∙ ap (λ w. tokens_from bs (AttributeValue t name w)) (append_assoc value (v ∷ []) vs)
  where
    step : StandsAlone v → in_state (AttributeValue t name value) v ≡ Moves (AttributeValue t name (value ++ (v ∷ [])))
    step alone = rw (alone.quote, alone.ampersand, alone.nul) refl

-- a small letter is read as it is
pub record IsSmall (b : ℕ) : Type 0 where
  pub letter : is_letter b ≡ true
  pub same : lowercase b ≡ b
  pub equals : eqb b 61 ≡ false
  pub end : eqb b 62 ≡ false
  pub tab : eqb b 9 ≡ false
  pub feed : eqb b 10 ≡ false
  pub form : eqb b 12 ≡ false
  pub blank : eqb b 32 ≡ false
  pub return : eqb b 13 ≡ false

small-is : (b : ℕ) → is_small b ≡ true → IsSmall b
small-is b small =
    let low : 97 ≤ b = leb-true 97 b (and_parts _ _ small).0 in
    record {
      letter = rw small (or-true (is_within 65 90 b));
      same = rw (not-capital low) refl;
      equals = ne_eqb b 61 (λ e. omega (arith, e, low));
      end = ne_eqb b 62 (λ e. omega (arith, e, low));
      tab = ne_eqb b 9 (λ e. omega (arith, e, low));
      feed = ne_eqb b 10 (λ e. omega (arith, e, low));
      form = ne_eqb b 12 (λ e. omega (arith, e, low));
      blank = ne_eqb b 32 (λ e. omega (arith, e, low));
      return = ne_eqb b 13 (λ e. omega (arith, e, low));
    }
  where
    or-true : (c : Bool) → (c || true) ≡ true
    or-true true = refl
    or-true false = refl

    not-capital : 97 ≤ b → is_within 65 90 b ≡ false
    not-capital low = grind (arith, nat_tests)

-- letters in the name of an attribute
read-name : (t : Tag) (name cs bs : List ℕ) → list_all is_small cs ≡ true → tokens_from (cs ++ bs) (AttributeName t name) ≡ tokens_from bs (AttributeName t (name ++ cs))
read-name t name [] bs small = ap (λ n. tokens_from bs (AttributeName t n)) (sym (append-nil name))
read-name t name (c ∷ cs) bs small =
    ap (after (λ s. tokens_from (cs ++ bs) s)) (step (small-is c (and_parts _ _ small).0))
    ∙ read-name t (name ++ (c ∷ [])) cs bs (and_parts _ _ small).1
    ∙ ap (λ n. tokens_from bs (AttributeName t n)) (append_assoc name (c ∷ []) cs)
  where
    step : IsSmall c → in_state (AttributeName t name) c ≡ Moves (AttributeName t (name ++ (c ∷ [])))
    step is = rw (is.equals, is.letter, is.same) refl

-- an attribute behind its blank
read-attribute : (t : Tag) (a : Attribute) (bs : List ℕ) → IsPlain a → tokens_from ((a.name ++ (61 ∷ 34 ∷ (a.value ++ (34 ∷ [])))) ++ bs) (BeforeAttributeName t) ≡ tokens_from bs (AfterAttributeValue (with_attribute t a.name a.value))
read-attribute t a bs plain =
    let rest : List ℕ = 61 ∷ 34 ∷ (a.value ++ (34 ∷ [])) in
    let small : list_all is_small (plain.first ∷ plain.others) ≡ true = ap (list_all is_small) (sym plain.name) ∙ plain.letters in
    let begin = small-is plain.first (and_parts _ _ small).0 in
    ap (λ n. tokens_from ((n ++ rest) ++ bs) (BeforeAttributeName t)) plain.name
    ∙ ap (after (λ s. tokens_from ((plain.others ++ rest) ++ bs) s)) (step begin)
    ∙ ap (λ xs. tokens_from xs (AttributeName t (plain.first ∷ []))) (append_assoc plain.others rest bs)
    ∙ read-name t (plain.first ∷ []) plain.others (rest ++ bs) (and_parts _ _ small).1
    ∙ ap (λ xs. tokens_from xs (AttributeValue t (plain.first ∷ plain.others) [])) (append_assoc a.value (34 ∷ []) bs)
    ∙ read-value t (plain.first ∷ plain.others) [] a.value (34 ∷ bs) plain.value
    ∙ ap (λ n. tokens_from bs (AfterAttributeValue (with_attribute t n a.value))) (sym plain.name)
  where
    step : IsSmall plain.first → in_state (BeforeAttributeName t) plain.first ≡ Moves (AttributeName t (plain.first ∷ []))
    step is = rw (is.tab, is.feed, is.form, is.blank, is.end, is.letter, is.same) refl

-- a tag with more attributes
abbrev pub with_attributes : Tag → List Attribute → Tag
with_attributes t attributes = record t { attributes = t.attributes ++ attributes }

-- the first attribute's bytes, before those of the others
pub attribute-first : (a : Attribute) (attributes : List Attribute) (bs : List ℕ) → attributes_bytes (a ∷ attributes) ++ bs ≡ attribute_bytes a ++ (attributes_bytes attributes ++ bs)
attribute-first a attributes bs = ap (λ xs. xs ++ bs) (append_assoc (attribute_bytes a) (flat_map attribute_bytes attributes) (62 ∷ [])) ∙ append_assoc (attribute_bytes a) (attributes_bytes attributes) bs

-- an attribute of a new name
attribute-added : (t : Tag) (a : Attribute) → not (is_some (value_of a.name t.attributes)) ≡ true → with_attribute t a.name a.value ≡ with_attributes t (a ∷ [])
attribute-added t a new = of-test (is_some (value_of a.name t.attributes)) new
  where
    of-test : (b : Bool) → not b ≡ true → cond b t (with_attributes t (a ∷ [])) ≡ with_attributes t (a ∷ [])
    of-test true h = cc
    of-test false h = refl

-- attributes and the end of a tag, behind another attribute
read-others : (t : Tag) (attributes : List Attribute) (bs : List ℕ) → ArePlain attributes → are_apart_behind t.attributes attributes ≡ true → tokens_from (attributes_bytes attributes ++ bs) (AfterAttributeValue t) ≡ emit (Marked (with_attributes t attributes) ∷ []) (tokens_from bs Data)
read-others t [] bs plain apart = ap (λ xs. emit (Marked (record t { attributes = xs }) ∷ []) (tokens_from bs Data)) (sym (append-nil t.attributes))
read-others t (a ∷ attributes) bs plain apart =
    let parts = and_parts _ _ apart in
    ap (λ xs. tokens_from xs (AfterAttributeValue t)) (attribute-first a attributes bs)
    ∙ read-attribute t a (attributes_bytes attributes ++ bs) plain.0
    ∙ ap (λ more. tokens_from (attributes_bytes attributes ++ bs) (AfterAttributeValue more)) (attribute-added t a parts.0)
    ∙ read-others (with_attributes t (a ∷ [])) attributes bs plain.1 parts.1
    ∙ ap (λ xs. emit (Marked (record t { attributes = xs }) ∷ []) (tokens_from bs Data)) (append_assoc t.attributes (a ∷ []) attributes)

-- attributes and the end of a tag, behind its name
pub read-attributes : (is_end : Bool) (name : List ℕ) (attributes : List Attribute) (bs : List ℕ) → ArePlain attributes → are_apart attributes ≡ true → tokens_from (attributes_bytes attributes ++ bs) (TagName (tag is_end name)) ≡ emit (Marked (with_attributes (tag is_end name) attributes) ∷ []) (tokens_from bs Data)
read-attributes is_end name [] bs plain apart = refl
read-attributes is_end name (a ∷ attributes) bs plain apart =
    let t = tag is_end name in
    ap (λ xs. tokens_from xs (TagName t)) (attribute-first a attributes bs)
    ∙ read-attribute t a (attributes_bytes attributes ++ bs) plain.0
    ∙ read-others (with_attribute t a.name a.value) attributes bs plain.1 apart

-- ---- no carriage return is written in them

no_return-plain : (vs : List ℕ) → list_all is_plain vs ≡ true → has_no_return vs ≡ true
no_return-plain [] plain = refl
no_return-plain (v ∷ vs) plain = let p = and_parts _ _ plain in and_from _ _ (ap not (plain-alone v p.0).return) (no_return-plain vs p.1)

no_return-small : (cs : List ℕ) → list_all is_small cs ≡ true → has_no_return cs ≡ true
no_return-small [] small = refl
no_return-small (c ∷ cs) small = let p = and_parts _ _ small in and_from _ _ (ap not (small-is c p.0).return) (no_return-small cs p.1)

no_return-attribute : (a : Attribute) → IsPlain a → has_no_return (attribute_bytes a) ≡ true
no_return-attribute a plain = no_return-then a.name (61 ∷ 34 ∷ (a.value ++ (34 ∷ []))) (no_return-small a.name plain.letters) (no_return-then a.value (34 ∷ []) (no_return-plain a.value plain.value) refl)

no_return-all : (attributes : List Attribute) → ArePlain attributes → has_no_return (flat_map attribute_bytes attributes) ≡ true
no_return-all [] plain = refl
no_return-all (a ∷ attributes) plain = no_return-then (attribute_bytes a) (flat_map attribute_bytes attributes) (no_return-attribute a plain.0) (no_return-all attributes plain.1)

pub no_return-attributes : (attributes : List Attribute) → ArePlain attributes → has_no_return (attributes_bytes attributes) ≡ true
no_return-attributes attributes plain = no_return-then (flat_map attribute_bytes attributes) (62 ∷ []) (no_return-all attributes plain) refl
