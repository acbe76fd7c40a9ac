use Rattle.tabled_draw.proofs.Common.{Columns, [], ap, arith, get_or, length, length-append, line_size, start_of, ◌++◌, ◌+◌, ◌∙◌, ◌∷◌, ◌≡◌}
use Rattle.tabled_draw.proofs.Each.{pushed}
use Rattle.tabled_draw.proofs.Shares.{start-more}
use Rattle.tabled_draw.proofs.layout.edges.Goals as goal

pub loop-k-preserved : goal.loop-k-preserved
loop-k-preserved c =
    let ws = c.args.widths.now in
    let k = c.loop-k.k in
    let lines = line_size c.args.lines (length c.args.widths.now) in
    let next : start_of Columns lines ws (k + 1) ≡ start_of Columns lines ws k + (lines k + get_or ws k 0 + 2) = start-more Columns lines ws k in
    let edge : c.in_ok-edge.edge ≡ start_of Columns lines ws (k + 1) = omega (arith, c.in_ok-plus.ensures, c.in_ok-plus-2.ensures, c.in_ok-edge.ensures, c.line_size.ensures, c.loop-k.invariant.edge, next) in
    let items : c.push-in-loop-k.new.self.items ≡ c.loop-k.edges.items ++ (c.in_ok-edge.edge ∷ []) = c.in_ok-push-2.ensures.items in
    record {
      edge = edge;
      long = ap length items ∙ length-append c.loop-k.edges.items (c.in_ok-edge.edge ∷ []) ∙ ap (λ n. n + 1) c.loop-k.invariant.long;
      each = λ n h. ap (λ xs. get_or xs n 0) items ∙ pushed (start_of Columns lines ws) c.loop-k.edges.items c.in_ok-edge.edge (k + 1) c.loop-k.invariant.long c.loop-k.invariant.each edge n h;
    }
