-- The attributes of a cell are plain, and say its spans.
use Rattle.std.proofs.Common.{◌++◌, ◌^◌, decimal, min, nat_lt, le-ltb}
use Rattle.std.specs.List.{list_all}
use Rattle.std.specs.Prelude.{codes}
use Rattle.std.specs.Str.{bytes_eq}
use Rattle.tabled_grid.proofs.Common.{[], ◌<◌, ◌∙◌, ◌∷◌, ◌≡◌, ◌≤◌, ◌⊎◌, Bool, List, None, Option, Some, all-append, and_from, ap, arith, cases_lt, cond, cond-false, cond-true, false, inl, inr, lt-ltb, ne_eqb, refl, true, ℕ}
use Rattle.tabled_grid.specs.declared.config.size.Size.{Size}
use Rattle.tabled_html.specs.Elements.{cell_attributes, class_attribute, element, manner, scope_attribute, span_attribute, style_attribute, style_of}
use Rattle.tabled_html.specs.declared.alignment.Alignment.{Alignment}
use Rattle.tabled_html.specs.declared.alignment.Alignment.TheVariants.{Center, Left, Right}
use Rattle.tabled_html_reading.proofs.ReadBack.{decimal-number, decimal-plain}
use Rattle.tabled_html_reading.specs.Building.{are_spans, is_number_if}
use Rattle.tabled_html_reading.specs.Characters.{is_plain}
use Rattle.tabled_html_reading.specs.Elements.{Attribute, number_of, value_of}
use Rattle.tabled_html_reading.specs.Forming.{colspan_by, colspan_of, rowspan_by, rowspan_of}
use Rattle.tabled_html_reading.specs.Showing.{ArePlain, IsPlain, are_apart}

-- ---- values

-- a name that is not among attributes is sought behind them
value-behind : (name : List ℕ) (xs ys : List Attribute) → value_of name xs ≡ None → value_of name (xs ++ ys) ≡ value_of name ys
value-behind name [] ys none = refl
value-behind name (x ∷ xs) ys none = of-first (bytes_eq x.name name) none (value-behind name xs ys)
  where
    of-first : (b : Bool) → cond b (Some x.value) (value_of name xs) ≡ None → (value_of name xs ≡ None → value_of name (xs ++ ys) ≡ value_of name ys) → cond b (Some x.value) (value_of name (xs ++ ys)) ≡ value_of name ys
    of-first true none behind = cc
    of-first false none behind = behind none

-- the manner of a cell says no span
manner-none : (h : Bool) (a : Option Alignment) → (value_of (codes "colspan") (manner h a) ≡ None) × (value_of (codes "rowspan") (manner h a) ≡ None)
manner-none true None = (refl, refl)
manner-none true (Some a) = (refl, refl)
manner-none false None = (refl, refl)
manner-none false (Some a) = (refl, refl)

-- the digits of a number above 1
abbrev digits_above : ℕ → Option (List ℕ)
digits_above n = cond (nat_lt 1 n) (Some (decimal n)) None

colspan-value : (h : Bool) (a : Option Alignment) (size : Size) → value_of (codes "colspan") (cell_attributes h a size) ≡ digits_above size.width
colspan-value h a size = of-width (nat_lt 1 size.width)
  where
    rest : List Attribute
    rest = span_attribute (codes "rowspan") size.height ++ manner h a

    rowspan-apart : (b : Bool) → value_of (codes "colspan") (cond b (record { name = codes "rowspan"; value = decimal size.height } ∷ []) []) ≡ None
    rowspan-apart true = refl
    rowspan-apart false = refl

    of-width : (b : Bool) → value_of (codes "colspan") (cond b (record { name = codes "colspan"; value = decimal size.width } ∷ []) [] ++ rest) ≡ cond b (Some (decimal size.width)) None
    of-width true = refl
    of-width false = value-behind (codes "colspan") (span_attribute (codes "rowspan") size.height) (manner h a) (rowspan-apart (nat_lt 1 size.height)) ∙ (manner-none h a).0

rowspan-value : (h : Bool) (a : Option Alignment) (size : Size) → value_of (codes "rowspan") (cell_attributes h a size) ≡ digits_above size.height
rowspan-value h a size =
    value-behind (codes "rowspan") (span_attribute (codes "colspan") size.width) (span_attribute (codes "rowspan") size.height ++ manner h a) (colspan-apart (nat_lt 1 size.width))
    ∙ of-height (nat_lt 1 size.height)
  where
    colspan-apart : (b : Bool) → value_of (codes "rowspan") (cond b (record { name = codes "colspan"; value = decimal size.width } ∷ []) []) ≡ None
    colspan-apart true = refl
    colspan-apart false = refl

    of-height : (b : Bool) → value_of (codes "rowspan") (cond b (record { name = codes "rowspan"; value = decimal size.height } ∷ []) [] ++ manner h a) ≡ cond b (Some (decimal size.height)) None
    of-height true = refl
    of-height false = (manner-none h a).1

-- ---- numbers

number-above : (n : ℕ) → n < 2 ^ 64 → number_of (digits_above n) ≡ cond (nat_lt 1 n) (Some n) None
number-above n few = of-size (nat_lt 1 n)
  where
    of-size : (b : Bool) → number_of (cond b (Some (decimal n)) None) ≡ cond b (Some n) None
    of-size true = (decimal-number n few).read
    of-size false = refl

is-number-above : (n : ℕ) → n < 2 ^ 64 → is_number_if (digits_above n) ≡ true
is-number-above n few = of-size (nat_lt 1 n)
  where
    of-size : (b : Bool) → is_number_if (cond b (Some (decimal n)) None) ≡ true
    of-size true = ap (λ o. elim o as (λ (o : Option ℕ). Bool) [ None ↦ false | Some k ↦ true ]) (decimal-number n few).read
    of-size false = refl

module _ (h : Bool) (a : Option Alignment) (size : Size) (text : List ℕ) where
  pub colspan-is : 1 ≤ size.width → size.width ≤ 1000 → size.height ≤ 65534 → colspan_of (element h a size text) ≡ size.width
  colspan-is some most low = ap (λ v. colspan_by (number_of v)) (colspan-value h a size) ∙ ap colspan_by (number-above size.width (omega (arith, most))) ∙ of-width (cases_lt 1 size.width)
    where
      of-width : (1 < size.width) ⊎ (size.width ≤ 1) → colspan_by (cond (nat_lt 1 size.width) (Some size.width) None) ≡ size.width
      of-width (inl more) = ap colspan_by (cond-true _ _ _ (lt-ltb 1 size.width more)) ∙ cond-false _ _ _ (ne_eqb size.width 0 (λ e. omega (arith, e, some))) ∙ (let e : min size.width 1000 ≡ size.width = omega (arith, most) in e)
      of-width (inr one) = ap colspan_by (cond-false _ _ _ (le-ltb 1 size.width one)) ∙ (let e : 1 ≡ size.width = omega (arith, one, some) in e)

  pub rowspan-is : 1 ≤ size.height → size.width ≤ 1000 → size.height ≤ 65534 → rowspan_of (element h a size text) ≡ size.height
  rowspan-is some narrow most = ap (λ v. rowspan_by (number_of v)) (rowspan-value h a size) ∙ ap rowspan_by (number-above size.height (omega (arith, most))) ∙ of-height (cases_lt 1 size.height)
    where
      of-height : (1 < size.height) ⊎ (size.height ≤ 1) → rowspan_by (cond (nat_lt 1 size.height) (Some size.height) None) ≡ size.height
      of-height (inl more) = ap rowspan_by (cond-true _ _ _ (lt-ltb 1 size.height more)) ∙ (let e : min size.height 65534 ≡ size.height = omega (arith, most) in e)
      of-height (inr one) = ap rowspan_by (cond-false _ _ _ (le-ltb 1 size.height one)) ∙ (let e : 1 ≡ size.height = omega (arith, one, some) in e)

module _ (h : Bool) (a : Option Alignment) (size : Size) (narrow : size.width ≤ 1000) (low : size.height ≤ 65534) where
  pub cell-spans : are_spans (cell_attributes h a size) ≡ true
  cell-spans = and_from _ _ (ap is_number_if (colspan-value h a size) ∙ is-number-above size.width (omega (arith, narrow))) (ap is_number_if (rowspan-value h a size) ∙ is-number-above size.height (omega (arith, low)))

  colspan-plain : (b : Bool) → ArePlain (cond b (record { name = codes "colspan"; value = decimal size.width } ∷ []) [])
  colspan-plain true = (record { first = 99; others = codes "olspan"; name = refl; letters = refl; value = decimal-plain size.width (omega (arith, narrow)) }, tt)
  colspan-plain false = tt

  rowspan-plain : (b : Bool) → ArePlain (cond b (record { name = codes "rowspan"; value = decimal size.height } ∷ []) [])
  rowspan-plain true = (record { first = 114; others = codes "owspan"; name = refl; letters = refl; value = decimal-plain size.height (omega (arith, low)) }, tt)
  rowspan-plain false = tt

  scope-plain : (b : Bool) → ArePlain (scope_attribute b)
  scope-plain true = (record { first = 115; others = codes "cope"; name = refl; letters = refl; value = refl }, tt)
  scope-plain false = tt

  style-plain : (o : Option Alignment) → ArePlain (style_attribute o)
  style-plain None = tt
  style-plain (Some alignment) = (record { first = 115; others = codes "tyle"; name = refl; letters = refl; value = of-style alignment }, tt)
    where
      of-style : (alignment : Alignment) → list_all is_plain (style_of alignment) ≡ true
      of-style Left = refl
      of-style Center = refl
      of-style Right = refl

  pub cell-plain : ArePlain (cell_attributes h a size)
  cell-plain =
      all-append IsPlain _ _ (colspan-plain (nat_lt 1 size.width))
      (all-append IsPlain _ _ (rowspan-plain (nat_lt 1 size.height)) (all-append IsPlain _ _ (scope-plain h) (style-plain a)))

-- no two of them have a name
pub cell-apart : (h : Bool) (a : Option Alignment) (size : Size) → are_apart (cell_attributes h a size) ≡ true
cell-apart h a size = of-kinds (nat_lt 1 size.width) (nat_lt 1 size.height) h a
  where
    spans : Bool → Bool → List Attribute → List Attribute
    spans wide high others = cond wide (record { name = codes "colspan"; value = decimal size.width } ∷ []) [] ++ (cond high (record { name = codes "rowspan"; value = decimal size.height } ∷ []) [] ++ others)

    of-kinds : (wide high h : Bool) (a : Option Alignment) → are_apart (spans wide high (manner h a)) ≡ true
    of-kinds true true true None = refl
    of-kinds true true true (Some _) = refl
    of-kinds true true false None = refl
    of-kinds true true false (Some _) = refl
    of-kinds true false true None = refl
    of-kinds true false true (Some _) = refl
    of-kinds true false false None = refl
    of-kinds true false false (Some _) = refl
    of-kinds false true true None = refl
    of-kinds false true true (Some _) = refl
    of-kinds false true false None = refl
    of-kinds false true false (Some _) = refl
    of-kinds false false true None = refl
    of-kinds false false true (Some _) = refl
    of-kinds false false false None = refl
    of-kinds false false false (Some _) = refl

-- the class of a table is plain, and alone
pub class-plain : (class : Option (List ℕ)) → ArePlain (class_attribute class)
class-plain None = tt
class-plain (Some class) = of-class (list_all is_plain class) refl
  where
    of-class : (b : Bool) → list_all is_plain class ≡ b → ArePlain (cond b (record { name = codes "class"; value = class } ∷ []) [])
    of-class true plain = (record { first = 99; others = codes "lass"; name = refl; letters = refl; value = plain }, tt)
    of-class false plain = tt

pub class-apart : (class : Option (List ℕ)) → are_apart (class_attribute class) ≡ true
class-apart None = refl
class-apart (Some class) = of-class (list_all is_plain class)
  where
    of-class : (b : Bool) → are_apart (cond b (record { name = codes "class"; value = class } ∷ []) []) ≡ true
    of-class true = refl
    of-class false = refl
