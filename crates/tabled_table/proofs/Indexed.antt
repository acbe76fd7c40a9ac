-- A table with an index: its rows are equally long, and turning it twice changes nothing.
use Rattle.tabled_table.proofs.Common.{[], ◌+◌, ◌-◌, ◌<◌, ◌∙◌, ◌∷◌, ◌≡◌, AreWide, Bool, IfSome, Indexed, IsIndexed, List, None, Option, Some, ap, arith, built_rows, common_steps, decimal, even-with_items, even-without, false, get_or, length, length-map, length-map-range_with_len, length-remove, length-transposed, map, numbers, option_map, refl, remove, subst, sym, transposed_index, transposed_rows, true, wide-transposed, width_of, with_column_as_index, with_index, with_index_name, with_name_if, ℕ}
use Rattle.std.proofs.Math.Bool.{not-not}
use Rattle.tabled_table.proofs.Padded.{length-padded_to}
use Rattle.tabled_table.proofs.Tables.{even-width}
use Rattle.tabled_table.proofs.Transposed.{transposed_rows-transposed_rows}

-- the columns with those of the index
abbrev columns_with : Bool → ℕ → ℕ
columns_with true n = n + 1
columns_with false n = n

even-index : (shown : Bool) (x : Indexed) → x.shown ≡ shown → IsIndexed x → AreWide (columns_with shown (length x.header)) (with_index x)
even-index true x e h = rw e (even-with_items (length x.header) 0 (x.header ∷ x.body) ([] ∷ x.index) (omega arith) (refl, h.wide))
even-index false x e h = rw e (refl, h.wide)

even-name : (n : ℕ) (in_header : Bool) (name : List ℕ) (rows : List (List (List ℕ))) → AreWide n rows → AreWide n (with_index_name in_header name rows)
even-name n in_header name [] even = tt
even-name n in_header name ([] ∷ rows) even = even
even-name n true name ((first ∷ header) ∷ rows) even = even
even-name n false name ((first ∷ header) ∷ rows) even = (even.0, (omega (arith, length-padded_to (length header + 1) [] (name ∷ []), even.0), even.1))

-- without cells a name is left out
pub unnamed : (in_header : Bool) (name : List ℕ) (rows : List (List (List ℕ))) → width_of rows ≡ 0 → rows ≡ with_index_name in_header name rows
unnamed in_header name [] none = refl
unnamed in_header name ([] ∷ rows) none = refl
unnamed in_header name ((first ∷ header) ∷ rows) none = absurd (omega (arith, none))

even-name_if : (n : ℕ) (in_header : Bool) (name : Option (List ℕ)) (rows : List (List (List ℕ))) → AreWide n rows → AreWide n (with_name_if in_header name rows)
even-name_if n in_header None rows even = even
even-name_if n in_header (Some name) rows even = even-name n in_header name rows even

pub even-rows_of : (x : Indexed) → IsIndexed x → AreWide (width_of (built_rows x)) (built_rows x)
even-rows_of x h = grind (arith, common_steps, even-width, even-name_if, even-index)

pub IsIndexed-numbers : (x : Indexed) → x.index ≡ numbers (length x.body) → AreWide (length x.header) x.body → IsIndexed x
IsIndexed-numbers x is wide = record { tall = sym (ap length is ∙ length-map-range_with_len decimal 0 (length x.body)); wide = wide }

pub IsIndexed-transposed : (x : Indexed) → IsIndexed x → IsIndexed (transposed_index x)
IsIndexed-transposed x h = record { tall = length-transposed (length x.header) x.body h.wide; wide = subst (λ n. AreWide n (transposed_rows (length x.header) x.body)) h.tall (wide-transposed (length x.header) x.body) }

pub IsIndexed-column : (c : ℕ) (x : Indexed) → c < length x.header → IsIndexed x → IsIndexed (with_column_as_index c x)
IsIndexed-column c x within h =
    let shorter : length x.header - 1 ≡ length (remove x.header c) = omega (arith, length-remove x.header c within) in
    record {
      tall = length-map x.body (λ row. remove row c) ∙ sym (length-map x.body (λ row. get_or row c []));
      wide = subst (λ n. AreWide n (map (λ row. remove row c) x.body)) shorter (even-without (length x.header) c x.body within h.wide);
    }

pub transposed_twice : (x : Option Indexed) → IfSome x IsIndexed → option_map transposed_index (option_map transposed_index x) ≡ x
transposed_twice None h = refl
transposed_twice (Some x) h = grind (arith, common_steps, transposed_rows-transposed_rows, not-not)
