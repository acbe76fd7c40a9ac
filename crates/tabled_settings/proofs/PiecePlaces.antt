-- Where the cells of pieces come from, and where they go.
use Rattle.std.proofs.lemmas.Grind.{common_steps}
use Rattle.tabled_settings.proofs.Common.{[], ◌<◌, ◌∙◌, ◌≡◌, Axis, Bool, Clean, Columns, Display, FillsThrough, Grid, IfSome, IsCut, IsEven, IsInside, IsTakenOnce, KeepsLines, List, Option, Places, Position, ReadsThrough, Retain, Rows, SpanMap, Split, Splits, across, ap, ap₂, arith, carried, carried_if, cell_at, cond, count_along, count_of, cut_places, false, fills_cut, get_or, has_pieces, in_line, staying_pieces, length, line_cells, line_of, lines_from, map_grid, oriented, refl, same_places, shown_lines, split_places, subst, sym, thinned, true, true≢false, unwrap_or, ℕ}
use Rattle.tabled_grid.proofs.PiecePlaces.{goes_once}
use Rattle.tabled_settings.proofs.LineReads.{counted, lines_read}
use Rattle.tabled_settings.proofs.PiecesDone.{CanBeCut, clean_counts, clean_done, clean_lines, has, pieces_need, retained_done}

-- with pieces
with_pieces : (b : Bool) (ps qs : Places) → b ≡ true → cond b ps qs ≡ ps
with_pieces b ps qs e = rw e refl

all_shown : (d : Display) (axis : Axis) (kept : List ℕ) (places : Places) → d ≡ Retain → shown_lines d axis kept places ≡ places
all_shown d axis kept places e = rw e refl

some_shown : (d : Display) (axis : Axis) (kept : List ℕ) (places : Places) → d ≡ Clean → shown_lines d axis kept places ≡ thinned axis kept places
some_shown d axis kept places e = rw e refl

-- some lines of a grid that is read through places
module _ {A : Type 0} (is_blank : A → Type 0) (axis : Axis) (kept : List ℕ) (places : Places) (g mid new : Grid A) (fills : FillsThrough is_blank places g mid) (even : IsEven new) (count : count_along axis new ≡ length kept) (wide : count_along (across axis) new ≡ count_along (across axis) mid)
    (each : (a : ℕ) → a < length kept → (line_cells axis new a ≡ line_cells axis mid (get_or kept a 0)) × (get_or kept a 0 < count_along axis mid)) where
  abbrev from : ℕ → ℕ
  from i = get_or kept i 0

  reads : ReadsThrough (lines_from axis from new.rows new.columns) mid new
  reads = lines_read axis from new.rows new.columns mid new even refl refl (λ a h. (each a (omega (arith, h, count))).0)

  shape_of : (axis : Axis) → count_along axis new ≡ length kept → count_along (across axis) new ≡ count_along (across axis) mid → (new.rows ≡ (thinned axis kept places).size.height) × (new.columns ≡ (thinned axis kept places).size.width)
  shape_of Rows n m = (n, m ∙ fills.reads.columns)
  shape_of Columns n m = (m ∙ fills.reads.rows, n)

  inside_of : (axis : Axis) (p : Position) → IsInside new p → count_along axis new ≡ length kept → count_along (across axis) new ≡ count_along (across axis) mid → ((a : ℕ) → a < length kept → get_or kept a 0 < count_along axis mid) → IsInside mid (in_line axis p (from (line_of axis p)))
  inside_of Rows p inside n m below = record { row = below p.row (omega (arith, inside.row, n)); col = omega (arith, inside.col, m) }
  inside_of Columns p inside n m below = record { row = omega (arith, inside.row, m); col = below p.col (omega (arith, inside.col, n)) }

  inside_mid : (p : Position) → IsInside new p → IsInside mid (in_line axis p (from (line_of axis p)))
  inside_mid p inside = inside_of axis p inside count wide (λ a h. (each a h).1)

  pub thinned_fills : FillsThrough is_blank (thinned axis kept places) g new
  thinned_fills = record {
    reads = record {
      even = even;
      rows = (shape_of axis count wide).0;
      columns = (shape_of axis count wide).1;
      moved = λ p inside. subst (λ (cell : Option A). IfSome (places.old_place (in_line axis p (from (line_of axis p)))) (λ (q : Position). cell ≡ cell_at g q)) (sym (reads.moved p inside)) (fills.reads.moved (in_line axis p (from (line_of axis p))) (inside_mid p inside));
    };
    blanks = λ p inside none. let b = fills.blanks (in_line axis p (from (line_of axis p))) (inside_mid p inside) none in (b.0, b.1, reads.moved p inside ∙ b.2);
  }

module _ {A : Type 0} (text_of : A → List ℕ) (s : Split) (lines width : ℕ) (g : Grid A) (can : CanBeCut s lines width g) where
  is_cut : has_pieces s g.rows g.columns ≡ true
  is_cut = has text_of s lines width g can

  all_places : cut_places s.lines s.behavior s.index lines width ≡ cut_places s.lines s.behavior s.index (count_of s.lines g.rows g.columns) (count_of (across s.lines) g.rows g.columns)
  all_places = ap₂ (λ (m n : ℕ). cut_places s.lines s.behavior s.index m n) (can.count ∙ sym (counted s.lines g)) (can.wide ∙ sym (counted (across s.lines) g))

  pub retained_places : s.display ≡ Retain → cut_places s.lines s.behavior s.index lines width ≡ split_places s (map_grid text_of g)
  retained_places e = all_places ∙ sym (with_pieces (has_pieces s g.rows g.columns) _ (same_places g.rows g.columns) is_cut ∙ all_shown s.display s.lines _ _ e)

  pub clean_places : (kept : List ℕ) → s.display ≡ Clean → kept ≡ staying_pieces s (oriented s.lines (map_grid text_of g)) → thinned s.lines kept (cut_places s.lines s.behavior s.index lines width) ≡ split_places s (map_grid text_of g)
  clean_places kept e are = grind (arith, common_steps, all_places, with_pieces, is_cut, some_shown)

  -- merged cells go along
  pub spans_carried : (places : Places) (rows columns : ℕ) (c d : SpanMap) → places ≡ split_places s (map_grid text_of g) → rows ≡ g.rows → columns ≡ g.columns → d ≡ carried places rows columns c →
      d ≡ carried_if (has_pieces s g.rows g.columns) (split_places s (map_grid text_of g)) g.rows g.columns c
  spans_carried places rows columns c d same tall wide is = grind (arith, common_steps, is_cut)

  module _ (is_blank : A → Type 0) (blank_empty : (c : A) → is_blank c → text_of c ≡ []) (mid : Grid A) (fills : FillsThrough is_blank (cut_places s.lines s.behavior s.index lines width) g mid) where
    cut : IsCut is_blank s.lines s.behavior s.index lines width g mid
    cut = fills_cut is_blank s.lines s.behavior s.index lines width g mid fills

    pub retained_splits : s.display ≡ Retain → Splits is_blank text_of s g mid
    retained_splits e = record {
      texts = retained_done text_of s lines width g can is_blank blank_empty mid cut e;
      cells = subst (λ (places : Places). FillsThrough is_blank places g mid) (retained_places e) fills;
      unsplit = λ none. absurd (true≢false (sym is_cut ∙ none));
    }

    module _ (new : Grid A) (kept : List ℕ) (e : s.display ≡ Clean) (are : kept ≡ staying_pieces s (oriented s.lines (map_grid text_of g))) (k : KeepsLines s.lines kept mid new) where
      counts : (count_along s.lines new ≡ length kept) × (count_along (across s.lines) new ≡ count_along (across s.lines) mid)
      counts = clean_counts text_of s lines width g can is_blank blank_empty mid cut new kept are e k

      pub clean_splits : Splits is_blank text_of s g new
      clean_splits = record {
        texts = clean_done text_of s lines width g can is_blank blank_empty mid cut new kept are e k;
        cells = subst (λ (places : Places). FillsThrough is_blank places g new) (clean_places kept e are)
            (thinned_fills is_blank s.lines kept (cut_places s.lines s.behavior s.index lines width) g mid new fills k.shape.even counts.0 counts.1 (clean_lines text_of s lines width g can is_blank blank_empty mid cut new kept are e k));
        unsplit = λ none. absurd (true≢false (sym is_cut ∙ none));
      }

pub split_once : (s : Split) (g : Grid (List ℕ)) (q : Position) → s.display ≡ Retain → q.row < g.rows → q.col < g.columns → IsTakenOnce (split_places s g) q
split_once s g q retained h k = taken_once (has_pieces s g.rows g.columns) refl
  where
    all : Places
    all = cut_places s.lines s.behavior s.index (count_of s.lines g.rows g.columns) (count_of (across s.lines) g.rows g.columns)

    lines_of : (axis : Axis) → (line_of axis q < count_of axis g.rows g.columns) × (line_of (across axis) q < count_of (across axis) g.rows g.columns)
    lines_of Rows = (h, k)
    lines_of Columns = (k, h)

    taken_once : (b : Bool) → has_pieces s g.rows g.columns ≡ b → IsTakenOnce (cond b (shown_lines s.display s.lines (staying_pieces s (oriented s.lines g)) all) (same_places g.rows g.columns)) q
    taken_once true e =
        let need = pieces_need s g e in
        let some : 0 < count_of s.lines g.rows g.columns = omega (arith, (lines_of s.lines).0) in
        let narrow = rw (← counted (across s.lines) g) at need.2 in
        let goes = goes_once s.lines s.behavior s.index _ _ some need.1 narrow q (lines_of s.lines).0 (lines_of s.lines).1 in
        subst (λ (places : Places). IsTakenOnce places q) (sym (all_shown s.display s.lines (staying_pieces s (oriented s.lines g)) all retained))
        (record { to = _; row = goes.0.row; col = goes.0.col; takes = goes.1; alone = λ p row col. goes.2 p (record { row = row; col = col }) })
    taken_once false e = record { to = q; row = h; col = k; takes = refl; alone = λ p at_row at_col is. ap (λ (o : Option Position). unwrap_or o p) is }
