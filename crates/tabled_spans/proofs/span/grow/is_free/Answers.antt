use Rattle.tabled_spans.proofs.Common.{◌+◌, ◌-◌, ◌∙◌, ◌≡◌, ap, arith, false, in_line, is_hidden, is_visible, line_of, not, sym, true}
use Rattle.tabled_spans.proofs.FreeCells.{one_fails, one_passes}
use Rattle.tabled_spans.proofs.span.grow.is_free.Goals as goal

pub returns-then-is_hidden : goal.returns-then-is_hidden
returns-then-is_hidden c = λ m is.
    let axis = c.args.axis in
    let p = c.args.pos in
    let known = c.args.hint.now in
    let hidden : is_visible m (in_line axis p known) ≡ false = ap not (ap (is_hidden m) (sym c.in_line.ensures) ∙ sym (c.is_hidden.ensures.hidden m is) ∙ c.if-is_hidden.true) in
    sym (one_fails (is_visible m) axis p (line_of axis p) c.args.many known (omega arith) (omega arith) hidden)

pub returns-then-is_hidden-2 : goal.returns-then-is_hidden-2
returns-then-is_hidden-2 c = λ m is.
    let axis = c.args.axis in
    let p = c.args.pos in
    let k = c.loop-k.k in
    let hidden : is_visible m (in_line axis p k) ≡ false = ap not (ap (is_hidden m) (sym c.in_line-in-loop-k.ensures) ∙ sym (c.is_hidden-in-loop-k.ensures.hidden m is) ∙ c.if-is_hidden-2.true) in
    sym (c.loop-k.invariant m is ∙ one_fails (is_visible m) axis p k ((c.line_of-first.result + c.args.many) - k) k (omega arith) (omega arith) hidden)

pub loop-k-preserved : goal.loop-k-preserved
loop-k-preserved c = λ m is.
    let axis = c.args.axis in
    let p = c.args.pos in
    let k = c.loop-k.k in
    let shown : is_visible m (in_line axis p k) ≡ true = ap not (ap (is_hidden m) (sym c.in_line-in-loop-k.ensures) ∙ sym (c.is_hidden-in-loop-k.ensures.hidden m is) ∙ c.if-is_hidden-2.false) in
    c.loop-k.invariant m is ∙ one_passes (is_visible m) axis p k (c.line_of-first.result + c.args.many) c.loop-k-test.true shown
