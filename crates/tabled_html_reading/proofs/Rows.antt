-- The algorithm for forming a table, run over the rows of a tiled table.
use Rattle.std.proofs.Common.{◌≡◌, ◌+◌, ◌<◌, ◌≤◌, ◌++◌, ◌∙◌, ℕ, List, [], ◌∷◌, ap, append-nil, arith, cond, eqb, fold, map, refl, subst, suc, sym, zero}
use Rattle.std.proofs.lemmas.Bool.{cond-false, false≢true}
use Rattle.std.proofs.lemmas.Bool.Decides.{nat_tests}
use Rattle.tabled_html_reading.specs.Areas.{Area, Between, InRow, Tiles, begun, cell_in, row_in, rows_between}
use Rattle.tabled_html_reading.specs.Forming.{Forming, begin_row, begin_table, extended, end_row, grow, process_row}
use Rattle.tabled_html_reading.specs.Elements.{Element}
use Rattle.tabled_html_reading.proofs.Columns.{columns-done, first-in}
use Rattle.tabled_html_reading.proofs.Slots.{before-none, before-row, fold-then, raised-le}

module _ (columns rows : ℕ) (own : ℕ → ℕ → Area) (element : Area → Element) (tiles : Tiles columns rows own element) where
  grow-none : (f : Forming) → f.growing ≡ [] → grow f ≡ f
  grow-none f none = ap (λ cs. let g : Forming = record f { covered = cs } in g) (ap (λ gs. f.covered ++ map (extended f.ycurrent) gs) none ∙ append-nil f.covered)

  row-begins : (i : ℕ) (f : Forming) → i < rows → Between columns rows own element i f → InRow columns rows own element i 0 (begin_row f)
  row-begins i f less s =
      let P : Forming → Type 0 = λ g. InRow columns rows own element i 0 g in
      let at = s.at in
      let lower = s.low in
      let most = raised-le f.ycurrent f.ywidth rows (omega (arith, at, less)) s.high in
      subst P (sym (grow-none (record f { ywidth = cond (eqb f.ywidth f.ycurrent) (f.ywidth + 1) f.ywidth; xcurrent = 0 }) s.growing)) (record {
        slots = s.slots;
        outside = s.outside;
        growing = s.growing;
        apart = s.apart;
        at = s.at;
        low = begun-width i f.ycurrent f.ywidth at lower;
        high = high-width f.ycurrent f.ywidth rows (omega (arith, at, less)) s.high;
        wide = s.wide;
        reach = s.reach;
        behind = λ k more none. absurd (omega (arith, none));
        ahead = λ k more none. absurd (omega (arith, none));
        reached = omega arith;
      })
    where
      begun-width : (i y w : ℕ) → y ≡ i → i ≤ w → i < cond (eqb w y) (w + 1) w
      begun-width i y w at lower = grind (arith, nat_tests)

      high-width : (y w n : ℕ) → y < n → w ≤ n → cond (eqb w y) (w + 1) w ≤ n
      high-width y w n less most = grind (arith, nat_tests)

  row-ends : (i : ℕ) (f : Forming) → InRow columns rows own element i columns f → Between columns rows own element (i + 1) (end_row f)
  row-ends i f s =
      let lower = s.low in
      record {
        slots = λ x y h k. s.slots x y h k ∙ ap (λ b. cond b (cell_in element (own x y) ∷ []) []) (ends x y h k);
        outside = s.outside;
        growing = s.growing;
        apart = s.apart;
        at = ap (λ n. n + 1) s.at;
        low = omega (arith, lower);
        high = s.high;
        wide = s.wide;
        reach = λ x y h k b. s.reach x y h k (ends x y h k ∙ b);
      }
    where
      ends : (x y : ℕ) → x < columns → y < rows → begun own i columns x y ≡ begun own (i + 1) 0 x y
      ends x y h k = let f = first-in columns rows own element tiles x y h k in before-row i columns (own x y).x (own x y).y (omega (arith, f.right, tiles.across x y h k))

  row-done : (i : ℕ) (f : Forming) → i < rows → Between columns rows own element i f → Between columns rows own element (i + 1) (process_row f (row_in columns own element i))
  row-done i f less s = row-ends i _ (columns-done columns rows own element tiles columns i (begin_row f) (omega arith) less (row-begins i f less s))

  pub table-begins : Between columns rows own element 0 begin_table
  table-begins = record {
    slots = λ x y h k. sym (cond-false _ _ _ (before-none (own x y).x (own x y).y));
    outside = λ x y out. refl;
    growing = refl;
    apart = refl;
    at = refl;
    low = omega arith;
    high = omega arith;
    wide = omega arith;
    reach = λ x y h k b. absurd (false≢true (sym (before-none (own x y).x (own x y).y) ∙ b));
  }

  -- the table is formed row after row
  pub rows-done : (first count : ℕ) (f : Forming) → first + count ≤ rows → Between columns rows own element first f → Between columns rows own element (first + count) (fold process_row f (rows_between columns own element first count))
  rows-done first zero f most s = let Q : ℕ → Type 0 = λ k. Between columns rows own element k f in let same : first ≡ first + zero = omega arith in subst Q same s
  rows-done first (suc n) f most s =
      let trs : List (List Element) = rows_between columns own element first n in
      let P : Forming → Type 0 = λ g. Between columns rows own element (first + suc n) g in
      let Q : ℕ → Type 0 = λ k. Between columns rows own element k (process_row (fold process_row f trs) (row_in columns own element (first + n))) in
      let next : first + n + 1 ≡ first + suc n = omega arith in
      subst P (sym (fold-then process_row f trs (row_in columns own element (first + n) ∷ [])))
      (subst Q next (row-done (first + n) (fold process_row f trs) (omega (arith, most)) (rows-done first n f (omega (arith, most)) s)))
