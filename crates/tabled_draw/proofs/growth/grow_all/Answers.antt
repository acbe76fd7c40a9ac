use Rattle.tabled_draw.proofs.Common.{ap, ap₂, arith, border, fold, get_or, get_or_default, grown_for, grown_sizes, length, line_of, line_size, lines_in, map_grid, rectangle, sized, sym, take_all, ◌∙◌, ◌≡◌}
use Rattle.tabled_draw.proofs.Shares.{length-grown}
use Rattle.tabled_draw.proofs.Sizes.{both-asked, lies-along, count-map, grown-more, order-is, ordered-at}
use Rattle.tabled_draw.proofs.growth.grow_all.Goals as goal

pub get_text-requires-clause-inside : goal.get_text-requires-clause-inside
get_text-requires-clause-inside g c =
    let t = map_grid g.R.Cell.CellText.text_of (g.R.GridStore.grid c.args.records.now) in
    let ordered = order-is c.args.axis t c.args.cfg.now _ c.as_slice-order.result.now c.requires.fits c.rectangles.ensures.rectangles (λ k n below. c.as_slice-order.ensures.value ∙ c.in_ok-rectangles.ensures k n below) in
    let e = ordered-at c.args.axis t c.args.cfg.now _ _ c.requires.fits c.as_slice-order.result.now ordered c.loop-k.k (get_or c.as_slice-order.result.now c.loop-k.k (rectangle (record { row = 0; col = 0 }) (sized 0 0))) c.loop-k-test.true (get_or_default c.as_slice-order.result.now c.loop-k.k _ _ c.loop-k-test.true) in
    record { row = omega (arith, e.0.height, e.1.bottom); col = omega (arith, e.0.width, e.1.right) }

pub grow-requires : goal.grow-requires
grow-requires g c =
    let t = map_grid g.R.Cell.CellText.text_of (g.R.GridStore.grid c.args.records.now) in
    let ordered = order-is c.args.axis t c.args.cfg.now _ c.as_slice-order.result.now c.requires.fits c.rectangles.ensures.rectangles (λ k n below. c.as_slice-order.ensures.value ∙ c.in_ok-rectangles.ensures k n below) in
    let e = ordered-at c.args.axis t c.args.cfg.now _ _ c.requires.fits c.as_slice-order.result.now ordered c.loop-k.k (get_or c.as_slice-order.result.now c.loop-k.k (rectangle (record { row = 0; col = 0 }) (sized 0 0))) c.loop-k-test.true (get_or_default c.as_slice-order.result.now c.loop-k.k _ _ c.loop-k-test.true) in
    let along = lies-along c.args.axis (g.R.GridStore.grid c.args.records.now) _ e.0 e.1 in
    record { some = rw c.lines_in.ensures along.0; end = rw (c.lines_in.ensures, c.line_of-line.ensures, c.loop-k.invariant.long) along.1 }

pub loop-k-preserved : goal.loop-k-preserved
loop-k-preserved g c =
    let t = map_grid g.R.Cell.CellText.text_of (g.R.GridStore.grid c.args.records.now) in
    let e = (get_or c.as_slice-order.result.now c.loop-k.k (rectangle (record { row = 0; col = 0 }) (sized 0 0))) in
    let s = c.loop-k.sizes.items in
    let lines : line_size c.lines_around-lines.result (length s) ≡ border c.args.axis c.args.style.now t = ap₂ line_size c.lines_around-lines.ensures (c.loop-k.invariant.long ∙ sym (count-map c.args.axis g.R.Cell.CellText.text_of (g.R.GridStore.grid c.args.records.now))) in
    let grew : c.grow.new.sizes.items ≡ grown_sizes c.args.axis (border c.args.axis c.args.style.now t) s (line_of c.args.axis e.first) (lines_in c.args.axis e.size) c.lines_in-need.result =
    c.in_ok-grow.ensures.grown ∙ ap₂ (λ a n. grown_sizes c.args.axis (line_size c.lines_around-lines.result (length s)) s a n c.lines_in-need.result) c.line_of-line.ensures c.lines_in.ensures
    ∙ ap (λ f. grown_sizes c.args.axis f s (line_of c.args.axis e.first) (lines_in c.args.axis e.size) c.lines_in-need.result) lines in
    record {
      long = ap length grew ∙ length-grown c.args.axis (border c.args.axis c.args.style.now t) s (line_of c.args.axis e.first) (lines_in c.args.axis e.size) c.lines_in-need.result ∙ c.loop-k.invariant.long;
      grown = grown-more c.args.axis c.args.style.now t c.args.sizes.now.items c.loop-k.k e c.as_slice-order.result.now c.loop-k-test.true (get_or_default c.as_slice-order.result.now c.loop-k.k _ _ c.loop-k-test.true) s _ c.get_text.ensures c.lines_in-need.result _ c.loop-k.invariant.grown (c.lines_in-need.ensures ∙ both-asked c.args.axis c.asked.result _ c.asked.ensures.height c.asked.ensures.width) grew;
    }

pub returns-clause-grown : goal.returns-clause-grown
returns-clause-grown g c =
    let t = map_grid g.R.Cell.CellText.text_of (g.R.GridStore.grid c.args.records.now) in
    let ordered = order-is c.args.axis t c.args.cfg.now _ c.as_slice-order.result.now c.requires.fits c.rectangles.ensures.rectangles (λ k n below. c.as_slice-order.ensures.value ∙ c.in_ok-rectangles.ensures k n below) in
    c.loop-k.invariant.grown ∙ ap (fold (grown_for c.args.axis c.args.style.now t) c.args.sizes.now.items) (take_all c.loop-k.k c.as_slice-order.result.now c.loop-k-test.false ∙ ordered)
