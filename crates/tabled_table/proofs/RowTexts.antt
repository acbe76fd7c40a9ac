-- The texts of rows that vectors hold, and the lengths of these.
use Rattle.std.proofs.lemmas.Grind.{common_steps}
use Rattle.std.proofs.Common.{arith}
use Rattle.std.proofs.Common.{◌≡◌, ℕ, List, [], ◌∷◌, String, ap, sym, subst, ◌∙◌, map, length, refl, take, vec_len}
use Rattle.std.specs.Global.{Global, Vec}
use Rattle.std.specs.List.{All, remove, take-map}
use Rattle.std.specs.String.{string_bytes}
use Rattle.std.specs.Vec.{with_items}
use Rattle.std.proofs.lemmas.List.{length-map, with_items_is}
use Rattle.std.proofs.lemmas.Simd.{map-map}
use Rattle.tabled_grid.specs.Evenness.{AreWide}
use Rattle.tabled_grid.specs.Grid.{map_items, width_of}
use Rattle.tabled_grid.proofs.Lists.{map-remove}
use Rattle.tabled_grid.proofs.Mapped.{maps_agree}
use Rattle.tabled_grid.proofs.NestedRows.{each_long}
use Rattle.tabled_table.specs.Builder.{row_texts}

-- the texts of a row
abbrev pub texts_of : Vec (String Global) → List (List ℕ)
texts_of row = map string_bytes row.items

-- the texts of rows are those of their cells
pub row_texts-items : (rows : List (Vec (String Global))) → row_texts rows ≡ map (map string_bytes) (map_items rows)
row_texts-items rows = sym (map-map (map string_bytes) (λ (row : Vec (String Global)). row.items) rows)

pub texts_kept : (old new : List (Vec (String Global))) → map_items new ≡ map_items old → row_texts new ≡ row_texts old
texts_kept old new e = row_texts-items new ∙ ap (map (map string_bytes)) e ∙ sym (row_texts-items old)

-- rows of which each is changed, whatever its cells are
module _ (old new : List (Vec (String Global))) (cells : List (String Global) → List (String Global)) (texts : List (List ℕ) → List (List ℕ)) where
  pub texts_changed : ((row : List (String Global)) → map string_bytes (cells row) ≡ texts (map string_bytes row)) → map_items new ≡ map cells (map_items old) → row_texts new ≡ map texts (row_texts old)
  texts_changed each changed = grind (arith, common_steps, row_texts-items, maps_agree)

pub texts_removed : (old new : List (Vec (String Global))) (j : ℕ) → map_items new ≡ map (λ (row : List (String Global)). remove row j) (map_items old) → row_texts new ≡ map (λ (row : List (List ℕ)). remove row j) (row_texts old)
texts_removed old new j = texts_changed old new (λ row. remove row j) (λ row. remove row j) (λ row. map-remove string_bytes row j)

pub texts_taken : (old new : List (Vec (String Global))) (n : ℕ) → map_items new ≡ map (take n) (map_items old) → row_texts new ≡ map (take n) (row_texts old)
texts_taken old new n = texts_changed old new (take n) (take n) (λ row. sym (take-map string_bytes n row))

-- the first row is as long as its texts are many
pub width-texts : (rows : List (Vec (String Global))) → width_of (row_texts rows) ≡ width_of (map_items rows)
width-texts [] = refl
width-texts (row ∷ rows) = length-map row.items string_bytes

-- rows are as long as those of what a function gives of each member
pub wide-map : {A B : Type 0} (f : A → B) (n : ℕ) (rows : List (List A)) → AreWide n (map (map f) rows) → AreWide n rows
wide-map f n [] wide = tt
wide-map f n (row ∷ rows) wide = (sym (length-map row f) ∙ wide.0, wide-map f n rows wide.1)

pub wide-cells : (n : ℕ) (rows : List (Vec (String Global))) → AreWide n (row_texts rows) → AreWide n (map_items rows)
wide-cells n rows wide = wide-map string_bytes n (map_items rows) (subst (λ (texts : List (List (List ℕ))). AreWide n texts) (row_texts-items rows) wide)

-- what holds of the one length of the rows
pub All-lens : (P : ℕ → Type 0) (n : ℕ) (rows : List (Vec (String Global))) → P n → AreWide n (row_texts rows) → All (λ (row : Vec (String Global)). P (vec_len row)) rows
All-lens P n rows p even = each_long P n rows (wide-cells n rows even) p

pub vec_len-texts : (row : Vec (String Global)) → vec_len row ≡ length (map string_bytes row.items)
vec_len-texts row = row.ok.0 ∙ sym (length-map row.items string_bytes)

-- rows written back into a vector
pub rows_written : (lines : Vec (Vec (String Global))) (rows : List (Vec (String Global))) → length rows ≡ vec_len lines → row_texts (with_items lines rows).items ≡ row_texts rows
rows_written lines rows long = ap row_texts (with_items_is lines rows long)

pub vec_len-rows : (rows : Vec (Vec (String Global))) → vec_len rows ≡ length (row_texts rows.items)
vec_len-rows rows = rows.ok.0 ∙ sym (length-map rows.items texts_of)
