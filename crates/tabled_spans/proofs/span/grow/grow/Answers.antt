use Rattle.tabled_spans.proofs.Common.{◌∙◌, ◌∷◌, ◌≡◌, arith, inside, inside-within, sym}
use Rattle.tabled_spans.proofs.SpanChanges.{index_within}
use Rattle.tabled_spans.proofs.span.grow.grow.Goals as goal

pub overflow_sub-left : goal.overflow_sub-left
overflow_sub-left c =
    let all : inside c.args.entity c.args.rows c.args.columns ≡ c.in-Some.pos ∷ c.next.new.self = sym c.iter-places.ensures ∙ c.in-Some.ensures.steps in
    let here = (rw all at (inside-within c.args.entity c.args.rows c.args.columns)).0 in
    omega (arith, index_within c.args.axis c.in-Some.pos c.args.rows c.args.columns here.0 here.1, c.line_of.ensures, c.count_of.ensures)

pub grow_one-requires-clause-some : goal.grow_one-requires-clause-some
grow_one-requires-clause-some c =
    let all : inside c.args.entity c.args.rows c.args.columns ≡ c.in-Some.pos ∷ c.next.new.self = sym c.iter-places.ensures ∙ c.in-Some.ensures.steps in
    let here = (rw all at (inside-within c.args.entity c.args.rows c.args.columns)).0 in
    omega (arith, index_within c.args.axis c.in-Some.pos c.args.rows c.args.columns here.0 here.1, c.line_of.ensures, c.count_of.ensures, c.min.ensures, c.requires)

pub grow_one-requires-clause-row : goal.grow_one-requires-clause-row
grow_one-requires-clause-row c =
    let all : inside c.args.entity c.args.rows c.args.columns ≡ c.in-Some.pos ∷ c.next.new.self = sym c.iter-places.ensures ∙ c.in-Some.ensures.steps in
    let here = (rw all at (inside-within c.args.entity c.args.rows c.args.columns)).0 in
    omega (arith, here.0, c.ranges.rows.fits)

pub grow_one-requires-clause-col : goal.grow_one-requires-clause-col
grow_one-requires-clause-col c =
    let all : inside c.args.entity c.args.rows c.args.columns ≡ c.in-Some.pos ∷ c.next.new.self = sym c.iter-places.ensures ∙ c.in-Some.ensures.steps in
    let here = (rw all at (inside-within c.args.entity c.args.rows c.args.columns)).0 in
    omega (arith, here.1, c.ranges.columns.fits)
