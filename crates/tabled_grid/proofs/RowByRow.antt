-- Rows of vectors that a loop changes one after another.
use Rattle.std.proofs.lemmas.Grind.{common_steps}
use Rattle.std.specs.Global.{Vec}
use Rattle.std.proofs.Common.{◌≡◌, ℕ, ◌+◌, ◌<◌, ◌≤◌, List, sym, ap, ◌∙◌, length, take, drop, get_or, set, arith}
use Rattle.std.specs.Prelude.{vec_len}
use Rattle.std.specs.List.{AllZip}
use Rattle.std.proofs.lemmas.List.{map_push, map-set, set-get_or, take_more, take_more_set, drop-set-lt, take_all, length-set, get_or-drop, drop-drop}
use Rattle.std.proofs.Math.ListN.{get_or-map}
use Rattle.std.proofs.lemmas.Slice.Zip.{all_zipped_more}
use Rattle.tabled_grid.specs.Grid.{map_items}

-- the first i rows were changed, each as R says, and the others are as they were
pub record Changed {A : Type 0} (R : List A → List A → Type 0) (old new : List (Vec A)) (i : ℕ) : Type 0 where
  pub done : AllZip R (map_items (take i old)) (map_items (take i new))
  pub rest : drop i new ≡ drop i old
  pub same : length new ≡ length old

-- the first of what is left from i on
pub first_left : {X : Type 0} (xs : List X) (i : ℕ) (d : X) → get_or (drop i xs) 0 d ≡ get_or xs i d
first_left xs i d = let same : i + 0 ≡ i = omega arith in get_or-drop i xs 0 d ∙ ap (λ n. get_or xs n d) same

module _ {A : Type 0} (R : List A → List A → Type 0) where
  -- the next row is still as it was
  pub changed_next : (old new : List (Vec A)) (i : ℕ) (d : Vec A) → Changed R old new i → get_or new i d ≡ get_or old i d
  changed_next old new i d h = sym (first_left new i d) ∙ ap (λ rows. get_or rows 0 d) h.rest ∙ first_left old i d

  pub changed_more : (old new : List (Vec A)) (i : ℕ) (d row : Vec A) → i < length old → Changed R old new i → R (get_or old i d).items row.items → Changed R old (set new i row) (i + 1)
  changed_more old new i d row h c r = grind (arith, common_steps, take_more, take_more_set, map_push, all_zipped_more, drop-set-lt, drop-drop, length-set)

  pub changed_all : (old new : List (Vec A)) (i : ℕ) → length old ≤ i → Changed R old new i → AllZip R (map_items old) (map_items new)
  changed_all old new i h c = rw (take_all i old h, take_all i new (omega arith)) at c.done

-- a row with the same cells changes no cell
pub same_cells : {A : Type 0} (rows : List (Vec A)) (i : ℕ) (d row : Vec A) → row.items ≡ (get_or rows i d).items → map_items (set rows i row) ≡ map_items rows
same_cells {A} rows i d row e = map-set (λ (v : Vec A). v.items) rows i row ∙ ap (set (map_items rows) i) (e ∙ sym (get_or-map (λ (v : Vec A). v.items) rows i d)) ∙ set-get_or (map_items rows) i d.items

-- where the cells are the same, so are the lengths
pub same_lens : {A : Type 0} (old new : List (Vec A)) (i : ℕ) (d : Vec A) → map_items new ≡ map_items old → vec_len (get_or new i d) ≡ vec_len (get_or old i d)
same_lens {A} old new i d e =
    (get_or new i d).ok.0 ∙ ap length (sym (get_or-map (λ (v : Vec A). v.items) new i d) ∙ ap (λ (rows : List (List A)). get_or rows i d.items) e ∙ get_or-map (λ (v : Vec A). v.items) old i d) ∙ sym (get_or old i d).ok.0
