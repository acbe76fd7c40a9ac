use Rattle.std.proofs.Common.{◌≡◌, ◌^◌, ℤ, pos, ◌*ℤ◌, ap, sym, ◌∙◌, int_cmp}
use Rattle.std.proofs.lemmas.Cmp.{int_cmp_total, int_ranked, tied_itself}
use Rattle.std.specs.declared.cmp.Ordering.TheVariants.{Equal}
use Rattle.tabled_decimal.proofs.laws.numbers_are_equal_where_their_values_are.Goals as goal

-- integers are equal where they compare as such
tied : (x y : ℤ) → int_cmp x y ≡ Equal → x ≡ y
tied x y e = int_ranked x y Equal (sym e)

pub returns : goal.returns
returns c a b = (tied _ _, λ e. ap (int_cmp (a.units *ℤ pos (10 ^ b.places))) (sym e) ∙ tied_itself int_cmp_total (a.units *ℤ pos (10 ^ b.places)))
