-- The orders of texts are total, whatever they are compared as.
use Rattle.std.proofs.Common.{◌≡◌, ℕ, Bool, true, false, List, [], ◌∷◌, None, Option, Some, Ordering, Less, Equal, get_or, map, nat_cmp, option_map, refl, ap, ◌∙◌, zero, suc, Bor}
use Rattle.std.proofs.lemmas.Cmp.{back_total, nat_list_cmp_total, on_total}
use Rattle.std.specs.Cmp.{IsTotalOrder}
use Rattle.std.specs.Cmp.Lexicographic.{slice_cmp}
use Rattle.std.specs.Ordering.{ordering_reverse}
use Rattle.tabled_decimal.specs.Decimals.{number}
use Rattle.tabled_decimal.specs.Numbers.{Number, decimal, number_cmp}
use Rattle.tabled_decimal.specs.TotalOrder.{number_cmp-total}
use Rattle.tabled_decimal.specs.declared.decimal.Decimal.{Decimal}
use Rattle.tabled_settings.specs.Keys.{lent_text, number_of_key}
use Rattle.tabled_settings.specs.Sorted.{directed, numbers_first, text_order}
use Rattle.tabled_settings.specs.declared.sort.SortKeys.{SortKeys}
use Rattle.tabled_settings.specs.declared.sort.SortKeys.TheVariants.{Numbers, Texts}

directed-total : {A : Type 0} (descending : Bool) (cmp : A → A → Ordering) → IsTotalOrder cmp → IsTotalOrder (directed descending cmp)
directed-total true cmp o = back_total o
directed-total false cmp o = o

numbers-flip : (cmp : Number → Number → Ordering) → IsTotalOrder cmp → (a b : Option Number) → numbers_first cmp a b ≡ ordering_reverse (numbers_first cmp b a)
numbers-flip cmp o (Some a) (Some b) = o.antisymm a b
numbers-flip cmp o (Some a) None = refl
numbers-flip cmp o None (Some b) = refl
numbers-flip cmp o None None = refl

numbers-trans : (cmp : Number → Number → Ordering) → IsTotalOrder cmp → (a b c : Option Number) → numbers_first cmp a b ≡ Less → numbers_first cmp b c ≡ Less → numbers_first cmp a c ≡ Less
numbers-trans cmp o (Some a) (Some b) (Some c) g h = o.trans a b c g h
numbers-trans cmp o (Some a) b None g h = refl
numbers-trans cmp o (Some a) None (Some c) g h = cc
numbers-trans cmp o None (Some b) c g h = cc
numbers-trans cmp o None None c g h = cc

numbers-congr : (cmp : Number → Number → Ordering) → IsTotalOrder cmp → (a b c : Option Number) → numbers_first cmp a b ≡ Equal → numbers_first cmp a c ≡ numbers_first cmp b c
numbers-congr cmp o (Some a) (Some b) (Some c) g = o.congr a b c g
numbers-congr cmp o (Some a) (Some b) None g = refl
numbers-congr cmp o (Some a) None c g = cc
numbers-congr cmp o None (Some b) c g = cc
numbers-congr cmp o None None c g = refl

pub numbers_first-total : (descending : Bool) → IsTotalOrder (numbers_first (directed descending number_cmp))
numbers_first-total descending = let o : IsTotalOrder (directed descending number_cmp) = directed-total descending number_cmp number_cmp-total in
    record { antisymm = numbers-flip (directed descending number_cmp) o; trans = numbers-trans (directed descending number_cmp) o; congr = numbers-congr (directed descending number_cmp) o }

pub text_order-total : (keys : SortKeys) (descending : Bool) → IsTotalOrder (text_order keys descending)
text_order-total Texts descending = directed-total descending (slice_cmp nat_cmp) nat_list_cmp_total
text_order-total Numbers descending = on_total decimal (numbers_first-total descending)

-- the number at an index is that of the text there
pub number-of-text : (texts : List (Bor (List ℕ))) (numbers : List (Option Decimal)) → map (option_map number) numbers ≡ map (λ (t : Bor (List ℕ)). decimal t.now) texts
    → (i : ℕ) → number_of_key numbers i ≡ decimal (lent_text texts i)
number-of-text texts numbers e i = ap (λ (l : List (Option Number)). get_or l i None) e ∙ read texts i
  where
    read : (texts : List (Bor (List ℕ))) (i : ℕ) → get_or (map (λ (t : Bor (List ℕ)). decimal t.now) texts) i None ≡ decimal (get_or (map (λ (t : Bor (List ℕ)). t.now) texts) i [])
    read [] i = refl
    read (t ∷ texts) zero = refl
    read (t ∷ texts) (suc i) = read texts i
