-- The bytes of a table, as they are written one part after another.
use Rattle.std.proofs.lemmas.Grind.{flat_map-append}
use Rattle.std.proofs.lemmas.List.{get_or-drop, take_all, take_more, take_rest}
use Rattle.std.proofs.Common.{[], ◌++◌, ◌+◌, ◌-◌, ◌<◌, ◌∙◌, ◌∷◌, ◌≡◌, ◌≤◌, List, add-one, ap, append-nil, append_assoc, arith, drop, get_or, length, length-drop, sym, take, ℕ}
use Rattle.std.specs.List.{flat_map}
use Rattle.std.specs.Prelude.{codes}
use Rattle.tabled_html_reading.specs.Areas.{series}
use Rattle.tabled_html_reading.specs.Bytes.{attribute_bytes, attributes_bytes}
use Rattle.tabled_html_reading.specs.Elements.{Attribute}
use Rattle.tabled_html_reading.specs.Escaping.{escaped, escaped_byte}

-- ---- a text, of which the bytes below w are written, and from there up to i each stands for itself

text-more : (text : List ℕ) (i : ℕ) → i < length text → escaped (take i text) ++ escaped_byte (get_or text i 0) ≡ escaped (take (i + 1) text)
text-more text i less =
    ap (λ out. escaped (take i text) ++ out) (sym (append-nil (escaped_byte (get_or text i 0))))
    ∙ sym (flat_map-append escaped_byte (take i text) (get_or text i 0 ∷ []))
    ∙ ap escaped (sym (take_more text i 0 less))

-- the bytes up to i are those below w as they are written, and those from there on as they are
abbrev pub IsQuiet : List ℕ → ℕ → ℕ → Type 0
IsQuiet text w i = escaped (take i text) ≡ escaped (take w text) ++ take (i - w) (drop w text)

pub quiet-none : (text : List ℕ) (n : ℕ) → IsQuiet text n n
quiet-none text n =
    let none : n - n ≡ 0 = omega arith in
    rw none (sym (append-nil (escaped (take n text))))

module _ (text : List ℕ) (w i : ℕ) (behind : w ≤ i) (inside : i < length text) (quiet : IsQuiet text w i) where
  -- one more byte that stands for itself
  pub quiet-more : escaped_byte (get_or text i 0) ≡ get_or text i 0 ∷ [] → IsQuiet text w (i + 1)
  quiet-more itself =
      let part : take (i + 1 - w) (drop w text) ≡ take (i - w) (drop w text) ++ (get_or text i 0 ∷ []) =
      ap (λ (n : ℕ). take n (drop w text)) (omega arith) ∙ take_more (drop w text) (i - w) 0 (omega (arith, length-drop w text))
      ∙ ap (λ (b : ℕ). take (i - w) (drop w text) ++ (b ∷ [])) (get_or-drop w text (i - w) 0 ∙ ap (λ (n : ℕ). get_or text n 0) (omega arith)) in
      sym (text-more text i inside) ∙ ap (λ bs. escaped (take i text) ++ bs) itself ∙ ap (λ bs. bs ++ (get_or text i 0 ∷ [])) quiet
      ∙ append_assoc (escaped (take w text)) (take (i - w) (drop w text)) (get_or text i 0 ∷ []) ∙ ap (λ bs. escaped (take w text) ++ bs) (sym part)

  -- one more byte, and what stands for it
  pub written-more : (escaped (take w text) ++ take (i - w) (drop w text)) ++ escaped_byte (get_or text i 0) ≡ escaped (take (i + 1) text)
  written-more = ap (λ bs. bs ++ escaped_byte (get_or text i 0)) (sym quiet) ∙ text-more text i inside

-- all bytes
pub written-all : (text : List ℕ) (w i : ℕ) → length text ≤ i → IsQuiet text w i → escaped (take w text) ++ take (length text - w) (drop w text) ≡ escaped text
written-all text w i end quiet =
    let rest : take (length text - w) (drop w text) ≡ take (i - w) (drop w text) = take_rest text w ∙ sym (take_all (i - w) (drop w text) (omega (arith, length-drop w text))) in
    ap (λ bs. escaped (take w text) ++ bs) rest ∙ sym quiet ∙ ap escaped (take_all i text end)

-- ---- parts in a row

pub none-yet : (head : List ℕ) → head ≡ head ++ []
none-yet head = sym (append-nil head)

module _ {A : Type 0} (bytes : A → List ℕ) (head : List ℕ) where
  pub series-more : (f : ℕ → List A) (n : ℕ) → (head ++ flat_map bytes (series n f)) ++ flat_map bytes (f n) ≡ head ++ flat_map bytes (series (n + 1) f)
  series-more f n =
      append_assoc head (flat_map bytes (series n f)) (flat_map bytes (f n))
      ∙ ap (λ out. head ++ out) (sym (flat_map-append bytes (series n f) (f n)) ∙ ap (λ k. flat_map bytes (series k f)) (sym (add-one n)))

  pub series-end : (tail : List ℕ) (f : ℕ → List A) (n m : ℕ) → n ≡ m → (head ++ flat_map bytes (series n f)) ++ tail ≡ head ++ (flat_map bytes (series m f) ++ tail)
  series-end tail f n m same = append_assoc head (flat_map bytes (series n f)) tail ∙ ap (λ k. head ++ (flat_map bytes (series k f) ++ tail)) same

-- a table's bytes
pub table-parts : (attributes caption groups end : List ℕ) → ((((codes "<table" ++ attributes) ++ (62 ∷ 10 ∷ [])) ++ caption) ++ groups) ++ end ≡ codes "<table" ++ ((attributes ++ (62 ∷ [])) ++ (10 ∷ (caption ++ (groups ++ end))))
table-parts attributes caption groups end = simp append_assoc

pub four-parts : (a b c d : List ℕ) → ((a ++ b) ++ c) ++ d ≡ a ++ (b ++ (c ++ d))
four-parts a b c d = simp append_assoc

pub five-parts : (a b c d e : List ℕ) → (((a ++ b) ++ c) ++ d) ++ e ≡ a ++ (b ++ (c ++ (d ++ e)))
five-parts a b c d e = simp append_assoc

-- attributes one after another, and the end of their tag
pub four-attributes : (a b c d : List Attribute) → (((flat_map attribute_bytes a ++ flat_map attribute_bytes b) ++ flat_map attribute_bytes c) ++ flat_map attribute_bytes d) ++ (62 ∷ []) ≡ attributes_bytes (a ++ (b ++ (c ++ d)))
four-attributes a b c d =
    let f : Attribute → List ℕ = λ x. attribute_bytes x in
    ap (λ bs. bs ++ (62 ∷ []))
    (four-parts (flat_map f a) (flat_map f b) (flat_map f c) (flat_map f d)
    ∙ ap (λ bs. flat_map f a ++ (flat_map f b ++ bs)) (sym (flat_map-append f c d))
    ∙ ap (λ bs. flat_map f a ++ bs) (sym (flat_map-append f b (c ++ d)))
    ∙ sym (flat_map-append f a (b ++ (c ++ d))))
