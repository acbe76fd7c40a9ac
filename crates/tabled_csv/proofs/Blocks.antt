-- The first byte that ends a plain field, sought block by block.
use Rattle.std.proofs.Math.Seq.{take-add}
use Rattle.std.proofs.lemmas.List.{get_or-take, take-take}
use Rattle.tabled_csv.proofs.Common.{◌+◌, ◌<◌, ◌∙◌, ◌≡◌, List, ap, arith, drop, false, get_or-drop, is_outside, length-drop, length-take, list_any, list_any-append, or_from, sym, take, ℕ}
use Rattle.tabled_csv.specs.Fields.{IsFirstOutside}

module _ (s : ℕ) (bytes : List ℕ) (a : ℕ) (clean : list_any (is_outside s) (take a bytes) ≡ false) where
  pub clean-behind : (n : ℕ) → list_any (is_outside s) (take n (drop a bytes)) ≡ false → list_any (is_outside s) (take (a + n) bytes) ≡ false
  clean-behind n more = ap (list_any (is_outside s)) (take-add a n bytes) ∙ list_any-append (is_outside s) (take a bytes) (take n (drop a bytes)) ∙ or_from _ _ clean more

  pub first-behind : (n place : ℕ) → IsFirstOutside s (take n (drop a bytes)) place → IsFirstOutside s bytes (a + place)
  first-behind n place f =
      let below : place < n = omega (arith, f.inside, length-take n (drop a bytes)) in
      record {
        inside = omega (arith, f.inside, length-take n (drop a bytes), length-drop a bytes);
        within = clean-behind place (ap (list_any (is_outside s)) (sym (take-take place n (drop a bytes) (omega arith))) ∙ f.within);
        outside = ap (is_outside s) (sym (get_or-take n (drop a bytes) place 0 below ∙ get_or-drop a bytes place 0)) ∙ f.outside;
      }
