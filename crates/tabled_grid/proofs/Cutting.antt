-- Lines cut in a store that grows to all new lines.
use Rattle.tabled_grid.proofs.Common.{◌*◌, ◌+◌, ◌-◌, ◌<◌, ◌≡◌, ◌≤◌, AddsLines, Axis, FillsThrough, Grid, IsEven, IsInside, PieceOrder, across, arith, common_steps, count_along, cut_places, div_ceil, first_along, nth_piece, place_in, refl, row_fits, with_cells_swapped, ℕ}
use Rattle.tabled_grid.proofs.PiecePlaces.{cut_fills}
use Rattle.tabled_grid.proofs.PiecesCut.{cut_done, enough_pieces, more_lines, some_pieces, tall_even, tall_lines, tall_width}
use Rattle.tabled_grid.proofs.PiecesPut.{MovesPieces, piece_number, place_is_in, puts_all, puts_more, puts_none, puts_piece, same_across, same_count, source, source_in}

-- the sizes of lines that are cut
pub record Sizes {A : Type 0} (axis : Axis) (index lines width pieces all broad : ℕ) (g : Grid A) : Type 0 where
  pub even : IsEven g
  pub lines_are : lines ≡ count_along axis g
  pub width_is : width ≡ count_along (across axis) g
  pub some : 0 < lines
  pub some_index : 0 < index
  pub narrow : index < width
  pub pieces_are : pieces ≡ div_ceil width index
  pub all_is : all ≡ lines * pieces
  pub broad_is : broad ≡ pieces * index

-- cells on their way in a store that was grown to all new lines
pub record MovesGrown {A : Type 0} (is_blank : A → Type 0) (axis : Axis) (order : PieceOrder) (index lines pieces more many t b : ℕ) (old new : Grid A) : Type 0 where
  pub wide : Grid A
  pub tall : Grid A
  pub widened : AddsLines is_blank (across axis) more old wide
  pub grown : AddsLines is_blank axis many wide tall
  pub moves : MovesPieces axis order index lines pieces t b tall new

module _ {A : Type 0} (is_blank : A → Type 0) (axis : Axis) (order : PieceOrder) (index lines width pieces all broad : ℕ) (g : Grid A) (z : Sizes axis index lines width pieces all broad g) where
  enough : width ≤ pieces * index
  enough = enough_pieces pieces index width z.some_index z.pieces_are

  pub any : 0 < pieces
  any = some_pieces pieces index width (omega (arith, z.narrow)) enough

  more_is : width + (broad - width) ≡ pieces * index
  more_is = omega (arith, enough, z.broad_is)

  many_is : lines + (all - lines) ≡ lines * pieces
  many_is = omega (arith, more_lines lines pieces any, z.all_is)

  abbrev Moved : ℕ → ℕ → Grid A → Type 0
  Moved t b new = MovesGrown is_blank axis order index lines pieces (broad - width) (all - lines) t b g new

  pub number_fits : (t b : ℕ) → t < all → b < index → (nth_piece order lines pieces t).1 * index + b < pieces * index
  number_fits t b h k = grind (arith, common_steps, row_fits, piece_number, any)

  pub none_moved : (wide tall : Grid A) → AddsLines is_blank (across axis) (broad - width) g wide → AddsLines is_blank axis (all - lines) wide tall → Moved all 0 tall
  none_moved wide tall widened grown = record {
    wide = wide;
    tall = tall;
    widened = widened;
    grown = grown;
    moves = puts_none axis order index lines pieces z.some any all tall
        (tall_even is_blank axis order index lines width pieces (broad - width) (all - lines) g wide tall z.even z.lines_are z.width_is z.some (omega (arith, z.narrow)) more_is many_is widened grown)
        (omega (arith, z.all_is));
  }

  pub piece_moved : (t n b : ℕ) (cur : Grid A) → n ≡ t + 1 → index ≤ b → Moved n b cur → Moved t 0 cur
  piece_moved t n b cur e whole m = record { wide = m.wide; tall = m.tall; widened = m.widened; grown = m.grown; moves = puts_piece axis order index lines pieces z.some any t n b m.tall cur e whole m.moves }

  module _ (t n b : ℕ) (cur : Grid A) (e : n ≡ t + 1) (t_in : t < all) (b_in : b < index) (m : Moved n b cur) where
    count : count_along axis cur ≡ lines * pieces
    count = grind (arith, common_steps, same_count, tall_lines, more_is, many_is)

    wide : count_along (across axis) cur ≡ pieces * index
    wide = grind (arith, common_steps, same_across, tall_width, more_is, many_is)

    pub from_inside : IsInside cur (source axis order index lines pieces t b)
    from_inside = source_in axis order index lines pieces z.some any t n b (b + 1) m.tall cur _ e refl (omega (arith, t_in, z.all_is)) b_in m.moves count wide refl

    pub to_inside : IsInside cur (place_in axis t b)
    to_inside = place_is_in axis order index lines pieces z.some any t n b (b + 1) m.tall cur _ e refl (omega (arith, t_in, z.all_is)) b_in m.moves count wide refl

    pub cell_moved : (next : ℕ) (new : Grid A) → next ≡ b + 1 → new ≡ with_cells_swapped cur (source axis order index lines pieces t b) (place_in axis t b) → Moved n next new
    cell_moved next new step is = record {
      wide = m.wide;
      tall = m.tall;
      widened = m.widened;
      grown = m.grown;
      moves = puts_more axis order index lines pieces z.some any t n b next m.tall cur new e step (omega (arith, t_in, z.all_is)) b_in m.moves count wide is;
    }

  pub all_moved : (t : ℕ) (cur new : Grid A) → t ≤ 0 → Moved t 0 cur → new ≡ first_along (across axis) index cur → FillsThrough is_blank (cut_places axis order index (count_along axis g) (count_along (across axis) g)) g new
  all_moved t cur new none m is =
      rw (← z.lines_are, ← z.width_is)
      (cut_fills is_blank axis order index lines width g new
      (cut_done is_blank axis order index lines width pieces (broad - width) (all - lines) g m.wide m.tall z.even z.lines_are z.width_is z.some (omega (arith, z.narrow)) more_is many_is m.widened m.grown cur new any z.some_index
      (puts_all axis order index lines pieces z.some any t m.tall cur none m.moves) is z.pieces_are))
