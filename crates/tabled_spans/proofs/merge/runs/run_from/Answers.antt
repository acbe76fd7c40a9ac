use Rattle.tabled_spans.proofs.Common.{◌+◌, ◌-◌, ◌<◌, ◌^◌, ◌∙◌, ◌≡◌, In, Joins, arith, further, line_of, ltb-true, map_grid, refl, rules, slice_index, subst, sym}
use Rattle.tabled_spans.proofs.Runs.{continues, run_at, same_last}
use Rattle.tabled_spans.proofs.Tails.{in_front, tail_alone, tail_fits, tail_here, tail_joins, tail_more, tails_first, tails_set}
use Rattle.tabled_spans.proofs.merge.runs.run_from.Goals as goal

pub returns-in_default-clause-run : goal.returns-in_default-clause-run
returns-in_default-clause-run g c = λ e is.
    let texts = map_grid g.R.Cell.CellText.text_of (g.R.GridStore.grid c.args.records.now) in
    let axis = c.args.axis in
    let block = c.args.block in
    let p = c.args.pos in
    let many = slice_index c.args.lengths.now (p.col - block.first.col) in
    let first : line_of axis p ≡ line_of axis block.first = search (rules, c.in_default.ensures.none) in
    let tail = tail_here axis e texts c.args.cfg.now block is p c.requires.inside c.args.lengths.now (c.requires.lengths e is) in
    run_at axis e texts c.args.cfg.now p many (further axis (many - 1) p) tail.some refl tail.joins tail.ends (λ q next j. in_front axis e texts c.args.cfg.now block is axis p q first next (is.back q (subst (In block) (sym next) c.requires.inside) j.here))

pub returns-in_default-clause-lengths : goal.returns-in_default-clause-lengths
returns-in_default-clause-lengths g c = λ e is.
    let texts = map_grid g.R.Cell.CellText.text_of (g.R.GridStore.grid c.args.records.now) in
    let first : line_of c.args.axis c.args.pos ≡ line_of c.args.axis c.args.block.first = search (rules, c.in_default.ensures.none) in
    tails_first c.args.axis e texts c.args.cfg.now c.args.block is c.args.pos c.requires.inside c.args.lengths.now (c.requires.lengths e is) first

pub joins-requires-clause-inside : goal.joins-requires-clause-inside
joins-requires-clause-inside g c = let at = (c.requires.block.1.named c.args.pos c.requires.inside).inside in record { row = at.row; col = at.col }

pub joins-requires-clause-free : goal.joins-requires-clause-free
joins-requires-clause-free g c = λ some.
    let texts = map_grid g.R.Cell.CellText.text_of (g.R.GridStore.grid c.args.records.now) in
    let block = c.args.block in
    let e = c.requires.block.0 in
    let is = c.requires.block.1 in
    let tail = tail_here c.args.axis e texts c.args.cfg.now block is c.args.pos c.requires.inside c.args.lengths.now (c.requires.lengths e is) in
    let many = slice_index c.args.lengths.now (c.args.pos.col - block.first.col) in
    (tail_joins c.args.axis e texts c.args.cfg.now c.args.pos many tail (ltb-true 1 many some)).free

pub overflow_add-lengths : goal.overflow_add-lengths
overflow_add-lengths g c =
    let texts = map_grid g.R.Cell.CellText.text_of (g.R.GridStore.grid c.args.records.now) in
    let block = c.args.block in
    let e = c.requires.block.0 in
    let is = c.requires.block.1 in
    let tail = tail_here c.args.axis e texts c.args.cfg.now block is c.args.pos c.requires.inside c.args.lengths.now (c.requires.lengths e is) in
    let many = slice_index c.args.lengths.now (c.args.pos.col - block.first.col) in
    let few : many + 1 < 2 ^ 64 = tail_fits c.args.axis e texts c.args.cfg.now block is c.in-Some.last c.args.pos many (2 ^ 64) c.in-Some.ensures.some.0 c.requires.inside tail c.requires.bottom c.requires.right in
    omega (arith, few)

pub returns-then-joins-clause-run : goal.returns-then-joins-clause-run
returns-then-joins-clause-run g c = λ e is.
    let texts = map_grid g.R.Cell.CellText.text_of (g.R.GridStore.grid c.args.records.now) in
    let last = c.in-Some.last in
    let some = c.in-Some.ensures.some in
    continues c.args.axis e texts c.args.cfg.now c.args.pos last some.0 ((c.joins.ensures e (is.named last some.1) (is.named c.args.pos c.requires.inside)).0 c.if-joins.true)

pub returns-then-joins-clause-lengths : goal.returns-then-joins-clause-lengths
returns-then-joins-clause-lengths g c = λ e is.
    let texts = map_grid g.R.Cell.CellText.text_of (g.R.GridStore.grid c.args.records.now) in
    let block = c.args.block in
    let lengths = c.args.lengths.now in
    let last = c.in-Some.last in
    let some = c.in-Some.ensures.some in
    let many = slice_index lengths (c.args.pos.col - block.first.col) in
    let tail = tail_here c.args.axis e texts c.args.cfg.now block is c.args.pos c.requires.inside lengths (c.requires.lengths e is) in
    let joined = (c.joins.ensures e (is.named last some.1) (is.named c.args.pos c.requires.inside)).0 c.if-joins.true in
    let longer = tail_more c.args.axis e texts c.args.cfg.now last c.args.pos many some.0 joined tail in
    tails_set c.args.axis e texts c.args.cfg.now block is c.args.pos c.requires.inside lengths (c.requires.lengths e is) last (many + 1) some.0 some.1 longer

pub returns-clause-run : goal.returns-clause-run
returns-clause-run g c = λ e is.
    let texts = map_grid g.R.Cell.CellText.text_of (g.R.GridStore.grid c.args.records.now) in
    let axis = c.args.axis in
    let block = c.args.block in
    let p = c.args.pos in
    let last = c.in-Some.last in
    let some = c.in-Some.ensures.some in
    let many = slice_index c.args.lengths.now (p.col - block.first.col) in
    let tail = tail_here axis e texts c.args.cfg.now block is p c.requires.inside c.args.lengths.now (c.requires.lengths e is) in
    let joined = c.joins.ensures e (is.named last some.1) (is.named p c.requires.inside) in
    run_at axis e texts c.args.cfg.now p many (further axis (many - 1) p) tail.some refl tail.joins tail.ends (λ q next j. let t = joined.1 (subst (Joins axis e texts c.args.cfg.now) (same_last axis q last (next ∙ sym some.0)) j) in let f = c.if-joins.false in cc)

pub returns-clause-lengths : goal.returns-clause-lengths
returns-clause-lengths g c = λ e is.
    let texts = map_grid g.R.Cell.CellText.text_of (g.R.GridStore.grid c.args.records.now) in
    let last = c.in-Some.last in
    let some = c.in-Some.ensures.some in
    let joined = c.joins.ensures e (is.named last some.1) (is.named c.args.pos c.requires.inside) in
    let alone = tail_alone c.args.axis e texts c.args.cfg.now last (λ j. let t = joined.1 j in let f = c.if-joins.false in cc) in
    tails_set c.args.axis e texts c.args.cfg.now c.args.block is c.args.pos c.requires.inside c.args.lengths.now (c.requires.lengths e is) last 1 some.0 some.1 alone
