-- Rows padded to one length, as the cells of a table.
use Rattle.tabled_language.proofs.Common.{[], ◌++◌, ◌∙◌, ◌∷◌, ◌≡◌, AreWide, IsEven, List, Vec, ap, append-nil, arith, drop, drop_all, even-longest, even-width, grid_of, length, length-map, longest, map, map-map, map_grid, map_items, padded_to, refl, same_grid, sym, table_from, take, take_all, wide-map, ℕ}
use Rattle.tabled_language.proofs.ScriptChecks.{longest-map}

-- a list that was written over whole
pub all_written : {A : Type 0} (old new : List A) (len : ℕ) → len ≡ length old → length new ≡ length old → take len (new ++ drop (length new) old) ≡ new
all_written old new len is same = rw (drop_all (length new) old (omega (arith, same)), append-nil new) (take_all len new (omega (arith, is, same)))

module _ {A : Type 0} (f : A → List ℕ) where
  -- cells whose texts are records, each padded to the longest
  pub record HasCells (cells : List (List A)) (records : List (List (List ℕ))) : Type 0 where
    pub padded : map (map f) cells ≡ map (padded_to (longest records) []) records

  are_records : (cells : List (List A)) (records : List (List (List ℕ))) → HasCells cells records → AreWide (longest records) (map (map f) cells)
  are_records cells records has = rw has.padded (even-longest (longest records) [] records (omega arith))

  pub even_cells : (cells : List (List A)) (records : List (List (List ℕ))) → HasCells cells records → IsEven (grid_of cells)
  even_cells cells records has = record { tall = refl; wide = even-width (longest records) cells (wide-map f (longest records) cells (are_records cells records has)) }

  pub table_cells : (cells : List (List A)) (records : List (List (List ℕ))) → HasCells cells records → map_grid f (grid_of cells) ≡ table_from records
  table_cells [] [] has = refl
  table_cells [] (record₁ ∷ records) has = absurd (omega (arith, ap length has.padded))
  table_cells (row ∷ cells) [] has = absurd (omega (arith, ap length has.padded))
  table_cells (row ∷ cells) (record₁ ∷ records) has =
      let all = record₁ ∷ records in
      let wide = are_records (row ∷ cells) all has in
      same_grid _ _ _ _ _ _ (sym (length-map (row ∷ cells) (map f)) ∙ ap length has.padded) (sym (length-map row f) ∙ wide.0) has.padded

  -- vectors of cells, padded one by one
  pub has_cells : (old new : List (Vec A)) (columns : ℕ) → columns ≡ longest (map_items old) → map (λ (v : Vec A). map f v.items) new ≡ map (padded_to columns []) (map (λ (v : Vec A). map f v.items) old) → HasCells (map_items new) (map (map f) (map_items old))
  has_cells old new columns is padded =
      let texts = map-map (map f) (λ (v : Vec A). v.items) old in
      let broad : longest (map (map f) (map_items old)) ≡ columns = longest-map f (map_items old) ∙ sym is in
      record { padded = map-map (map f) (λ (v : Vec A). v.items) new ∙ padded ∙ rw (broad, texts) refl }
