-- Rows in one list of cells, cut into pieces that fill them.
use Rattle.tabled_grid.proofs.Common.{◌*◌, ◌+◌, ◌/◌, ◌<◌, ◌∙◌, ◌≡◌, ◌≤◌, FillsThrough, IsFull, List, Rows, Zip, ap, arith, cell_at, common_steps, cut_places, div-add-mod', div_below, div_ceil, flat_grid, is_even, mod_below, place, refl, row_fits, slice_get, sym, ℕ}
use Rattle.std.proofs.Common.{◌%◌}
use Rattle.tabled_grid.proofs.FlatCells.{cell-joined}
use Rattle.tabled_grid.proofs.FlatStore.{cells_are}
use Rattle.tabled_grid.proofs.PiecePlaces.{cut_fills}
use Rattle.tabled_grid.proofs.PiecesCut.{IsCut, more_lines, some_pieces}

flat_cell : {A : Type 0} (r c : ℕ) (xs : List A) (h : IsFull r c xs) (i j n : ℕ) → i < r → j < c → n ≡ i * c + j → cell_at (flat_grid r c xs) (place i j) ≡ slice_get xs n
flat_cell r c xs h i j n row col e = sym (cell-joined (flat_grid r c xs) (is_even r c xs h) (place i j) n (record { row = row; col = col }) e) ∙ ap (λ ys. slice_get ys n) (sym (cells_are r c xs h))

module _ {A : Type 0} (r c n : ℕ) (xs : List A) (h : IsFull r c xs) (some : 0 < r) (some_n : 0 < n) (narrow : n < c) (whole : c % n ≡ 0) where
  fills : c / n * n ≡ c
  fills = omega (arith, div-add-mod' c n, whole)

  count : div_ceil c n ≡ c / n
  count = grind (arith, common_steps)

  any : 0 < c / n
  any = some_pieces (c / n) n c (omega (arith, narrow)) (omega (arith, fills))

  pub divided_full : (m : ℕ) → m ≡ r * (c / n) → IsFull m n xs
  divided_full m e = record { full = h.full ∙ ap (λ (w : ℕ). r * w) (sym fills) ∙ split ∙ ap (λ (w : ℕ). w * n) (sym e); rowless = λ none. absurd (omega (arith, none, e, more_lines r (c / n) any, some)) }
    where
      split : r * (c / n * n) ≡ r * (c / n) * n
      split = omega arith

  module _ (is_blank : A → Type 0) where
    cut : IsCut is_blank Rows Zip n r c (flat_grid r c xs) (flat_grid (r * (c / n)) n xs)
    cut = record {
      even = is_even (r * (c / n)) n xs (divided_full (r * (c / n)) refl);
      count = ap (λ (w : ℕ). r * w) (sym count);
      wide = refl;
      cells = λ t b t_in b_in. rw count (record { cell = λ below. moved t b (rw (← count) t_in) b_in; blank = λ past. none t b (rw (← count) t_in) b_in past });
    }
      where
        at : (q m w t b : ℕ) → q * w + m ≡ t → w * n ≡ c → t * n + b ≡ q * c + (m * n + b)
        at q m w t b e f = ap (λ (u : ℕ). u * n + b) (sym e) ∙ spread ∙ ap (λ (u : ℕ). q * u + (m * n + b)) f
          where
            spread : (q * w + m) * n + b ≡ q * (w * n) + (m * n + b)
            spread = omega arith

        moved : (t b : ℕ) → t < r * (c / n) → b < n → cell_at (flat_grid (r * (c / n)) n xs) (place t b) ≡ cell_at (flat_grid r c xs) (place (t / (c / n)) (t % (c / n) * n + b))
        moved t b t_in b_in =
            let row_in : t / (c / n) < r = div_below t (c / n) r any t_in in
            let col_in : t % (c / n) * n + b < c = omega (arith, fills, b_in, row_fits (t % (c / n)) n (c / n) n (mod_below t (c / n) any) (omega arith)) in
            flat_cell (r * (c / n)) n xs (divided_full (r * (c / n)) refl) t b (t * n + b) t_in b_in refl
            ∙ sym (flat_cell r c xs h (t / (c / n)) (t % (c / n) * n + b) (t * n + b) row_in col_in (at (t / (c / n)) (t % (c / n)) (c / n) t b (div-add-mod' t (c / n)) fills))

        none : {X : Type 0} (t b : ℕ) → t < r * (c / n) → b < n → c ≤ t % (c / n) * n + b → X
        none t b t_in b_in past = absurd (omega (arith, past, fills, b_in, row_fits (t % (c / n)) n (c / n) n (mod_below t (c / n) any) (omega arith)))

    pub rows_divided : (m : ℕ) → m ≡ r * (c / n) → FillsThrough is_blank (cut_places Rows Zip n r c) (flat_grid r c xs) (flat_grid m n xs)
    rows_divided m e = rw e (cut_fills is_blank Rows Zip n r c (flat_grid r c xs) (flat_grid (r * (c / n)) n xs) cut)
