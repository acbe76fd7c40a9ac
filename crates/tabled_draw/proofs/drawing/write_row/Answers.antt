use Rattle.tabled_draw.proofs.Common.{AreLeft, AreUnmerged, IsOwnerRow, None, Rows, [], add-zero, add_assoc, ap, ap₂, arith, begun, bytes_in, cond, get_or, heights, is_drawn, left_of, length, line_height, map_grid, place, plan_on, rectangles, refl, size_if, subst, sym, top, true, ◌+◌, ◌-◌, ◌<◌, ◌∙◌, ◌≡◌, ◌≤◌}
use Rattle.tabled_draw.proofs.Sizes.{start-next}
use Rattle.tabled_grid.proofs.Owners.{anchors-fit}
use Rattle.tabled_draw.proofs.Rows.{all-below, border-text, end-inside, first-below, in-row, left-in_row, left-next_row, more-below}
use Rattle.tabled_held.proofs.Pens.{draws-as, draws-then}
use Rattle.tabled_draw.specs.Lines.{drawn_line}
use Rattle.tabled_draw.proofs.drawing.write_row.Goals as goal

pub write_border-requires-clause-inside : goal.write_border-requires-clause-inside
write_border-requires-clause-inside g c = rw (c.requires.band.long, c.deref-3.ensures.value) (end-inside c.args.cfg.now _ _ c.args.i c.args.band.now.above.items c.requires.sheet.fits c.requires.band.above)

pub write_border-requires-clause-unmerged : goal.write_border-requires-clause-unmerged
write_border-requires-clause-unmerged g c =
    let t = map_grid g.R.Cell.CellText.text_of (g.R.GridStore.grid c.args.records.now) in
    λ unmerged. subst (λ a. AreUnmerged c.args.sheet.now.rows (length c.args.band.now.rests.items) c.args.i a c.deref-4.result.now) (c.deref.ensures.value ∙ sym c.deref-3.ensures.value)
    (subst (λ b. AreUnmerged c.args.sheet.now.rows (length c.args.band.now.rests.items) c.args.i c.deref.result.now b) (c.deref-2.ensures.value ∙ sym c.deref-4.ensures.value)
    (subst (λ n. AreUnmerged n (length c.args.band.now.rests.items) c.args.i c.deref.result.now c.deref-2.result.now) (sym c.requires.sheet.rows)
    (subst (λ n. AreUnmerged t.rows n c.args.i c.deref.result.now c.deref-2.result.now) (sym c.requires.band.long)
    (c.are_unmerged-is_unmerged.ensures unmerged t c.requires.row c.requires.wide c.requires.sheet.fits (rw c.deref.ensures.value c.requires.band.above) (rw c.deref-2.ensures.value c.write_owners-band.ensures.here)))))

pub write_row_line-requires-clause-inside : goal.write_row_line-requires-clause-inside
write_row_line-requires-clause-inside g c = rw (c.loop-y.invariant.long, c.deref-in-loop-y.ensures.value) (end-inside c.args.cfg.now _ _ (c.args.i + 1) c.loop-y.band.here.items c.requires.sheet.fits (rw c.loop-y.invariant.here c.write_owners-band.ensures.here))

pub loop-y-init : goal.loop-y-init
loop-y-init g c =
    let sheet = c.args.sheet.now in
    let t = map_grid g.R.Cell.CellText.text_of (g.R.GridStore.grid c.args.records.now) in
    let m = c.args.cfg.now in
    let i = c.args.i in
    let style = sheet.look.style in
    let aligns = sheet.look.alignments.now in
    let plan = plan_on sheet t c.args.cfg.now in
    let old = bytes_in c.args.band.now.rests.items in
    let cut = bytes_in c.write_border.new.rests.items in
    let new = bytes_in c.begin.new.rests.items in
    let drawn = is_drawn style.rows sheet.rows i in
    let size : line_height plan i ≡ size_if drawn = ap (λ n. size_if (is_drawn style.rows n i)) (sym c.requires.sheet.rows) in
    let over : IsOwnerRow t.rows t.columns (rectangles m) i c.deref-3.result.now = rw c.deref-3.ensures.value c.requires.band.above in
    let under : IsOwnerRow t.rows t.columns (rectangles m) (i + 1) c.deref-4.result.now = rw c.deref-4.ensures.value c.write_owners-band.ensures.here in
    let again : IsOwnerRow t.rows t.columns (rectangles m) (i + 1) c.deref-5.result.now = rw c.deref-5.ensures.value c.write_owners-band.ensures.here in
    record {
      above = refl;
      here = refl;
      next = refl;
      long = c.begin.ensures.long;
      left = subst (λ n. AreLeft plan (i + 1) n new) (ap (λ k. top plan i + k) (sym size) ∙ sym (add-zero (top plan i + line_height plan i))) (left-next_row plan (anchors-fit m _ _ c.requires.sheet.fits) drawn i (top plan i) old cut new c.requires.row refl size c.requires.band.left
          (λ j less. c.write_border.ensures.rests j (omega (arith, less, c.requires.band.long)) ∙ ap₂ (λ a b. cond drawn (left_of j a b (get_or old j [])) (get_or old j [])) (over.each (j + 1) (omega (arith, less))) (under.each (j + 1) (omega (arith, less))))
          (λ j less. c.begin.ensures.begun j less ∙ ap (λ a. begun t a (place i j) (get_or cut j [])) (again.each (j + 1) (omega (arith, less)))));
      drawn = draws-as
          (border-text sheet t m c.requires.sheet.fits c.requires.sheet.edges i (top plan i) c.deref-3.result.now c.deref-4.result.now c.args.band.now.rests.items c.requires.sheet.rows refl over under c.requires.band.left c.requires.band.long ∙ first-below plan aligns i)
          c.write_border.ensures.draws;
    }

pub loop-y-preserved : goal.loop-y-preserved
loop-y-preserved g c =
    let sheet = c.args.sheet.now in
    let t = map_grid g.R.Cell.CellText.text_of (g.R.GridStore.grid c.args.records.now) in
    let m = c.args.cfg.now in
    let i = c.args.i in
    let y = c.loop-y._y in
    let style = sheet.look.style in
    let aligns = sheet.look.alignments.now in
    let plan = plan_on sheet t c.args.cfg.now in
    let n = top plan i + line_height plan i + y in
    let old = bytes_in c.loop-y.band.rests.items in
    let new = bytes_in c.write_row_line.new.rests.items in
    let here = c.loop-y.band.here.items in
    let own : IsOwnerRow t.rows t.columns (rectangles m) (i + 1) here = rw c.loop-y.invariant.here c.write_owners-band.ensures.here in
    let within : i < t.rows = c.requires.row in
    let low : top plan (i + 1 - 1) + line_height plan (i + 1 - 1) ≤ n = (let same : top plan (i + 1 - 1) + line_height plan (i + 1 - 1) ≡ top plan i + line_height plan i = ap (λ k. top plan k + line_height plan k) (omega arith) in omega (arith, same)) in
    record {
      above = c.loop-y.invariant.above;
      here = c.loop-y.invariant.here;
      next = c.loop-y.invariant.next;
      long = c.write_row_line.ensures.long ∙ c.loop-y.invariant.long;
      left = subst (λ k. AreLeft plan (i + 1) k new) (add_assoc (top plan i + line_height plan i) y 1) (left-in_row plan (anchors-fit m _ _ c.requires.sheet.fits) (i + 1) n old new (omega arith) (omega (arith, within)) low c.loop-y.invariant.left
          (λ j less. c.write_row_line.ensures.rests j (omega (arith, less, c.loop-y.invariant.long)) ∙ ap₂ (λ a b. left_of j a b (get_or old j [])) (ap (λ row. get_or row (j + 1) None) c.deref-in-loop-y.ensures.value ∙ own.each (j + 1) (omega (arith, less))) (ap (λ row. get_or row (j + 1) None) c.deref-in-loop-y.ensures.value ∙ own.each (j + 1) (omega (arith, less)))));
      drawn = draws-as (more-below plan aligns i y) (draws-then c.loop-y.invariant.drawn (draws-as
          (ap (λ a. drawn_line sheet true a a (length c.loop-y.band.rests.items) old) c.deref-in-loop-y.ensures.value ∙ in-row sheet t m c.requires.sheet.fits c.requires.sheet.edges i n here old (length c.loop-y.band.rests.items) own c.loop-y.invariant.left c.loop-y.invariant.long)
          c.write_row_line.ensures.draws));
    }

pub returns : goal.returns
returns g c =
    let sheet = c.args.sheet.now in
    let t = map_grid g.R.Cell.CellText.text_of (g.R.GridStore.grid c.args.records.now) in
    let m = c.args.cfg.now in
    let i = c.args.i in
    let style = sheet.look.style in
    let aligns = sheet.look.alignments.now in
    let plan = plan_on sheet t c.args.cfg.now in
    let e : c.loop-y._y ≡ get_or sheet.heights.now i 0 = omega (arith, c.loop-y-test.false, c.loop-y.auto._y-end) in
    let y : c.loop-y._y ≡ get_or (heights plan) i 0 = e ∙ ap (λ hs. get_or hs i 0) c.requires.sheet.high in
    let next : top plan (i + 1) ≡ top plan i + (line_height plan i + get_or (heights plan) i 0 + 0) = start-next Rows style t (rectangles m) i in
    record {
      band = record {
        above = rw (c.swap.ensures.x_after, c.loop-y.invariant.here) c.write_owners-band.ensures.here;
        here = rw (c.swap.ensures.y_after, c.loop-y.invariant.above) c.requires.band.above.long;
        next = c.loop-y.invariant.next ∙ c.write_owners-band.ensures.next;
        long = c.loop-y.invariant.long;
        left = subst (λ k. AreLeft plan (i + 1) k (bytes_in c.loop-y.band.rests.items)) (omega (arith, y, next)) c.loop-y.invariant.left;
      };
      draws = draws-as (all-below plan aligns i c.loop-y._y y) c.loop-y.invariant.drawn;
    }
