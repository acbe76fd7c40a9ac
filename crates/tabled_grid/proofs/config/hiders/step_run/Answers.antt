use Rattle.tabled_grid.proofs.Common.{◌*◌, ◌+◌, ◌<◌, ◌∙◌, ◌≡◌, ap, arith, get_or, get_or-map, length, map, map-set, mul-add-lt, refl, rules, subst, sym}
use Rattle.std.specs.Prelude.{◌%◌}
use Rattle.tabled_grid.proofs.Stepping.{RunTo, run_done, run_more, run_starts}
use Rattle.tabled_grid.proofs.config.hiders.step_run.Goals as goal

pub loop-j-init : goal.loop-j-init
loop-j-init g c = run_starts (map g.N.Count.value c.args.hiders.now) c.args.i c.args.run (g.N.Count.value c.args.step) g.N.Count.limit c.args.size

pub loop-j-preserved : goal.loop-j-preserved
loop-j-preserved g c =
    let value = g.N.Count.value in
    let k = c.args.i * c.args.size.width + c.loop-j.j in
    let v = c.index-hiders-k.result in
    let read : value (get_or c.loop-j.hiders k v) ≡ get_or (map value c.loop-j.hiders) k (value v) = sym (get_or-map value c.loop-j.hiders k v) in
    let sum : value c.plus.result ≡ (get_or (map value c.loop-j.hiders) k (value v) + value c.args.step) % g.N.Count.limit = c.plus.ensures ∙ ap (λ n. (n + value c.args.step) % g.N.Count.limit) read in
    subst (λ xs. RunTo (map value c.args.hiders.now) xs c.args.i c.args.run (c.loop-j.j + 1) (value c.args.step) g.N.Count.limit c.args.size)
    (sym (map-set value c.loop-j.hiders k c.plus.result))
    (run_more (map value c.args.hiders.now) (map value c.loop-j.hiders) c.args.i c.loop-j.j k (value c.index-hiders-k.result) (value c.plus.result) c.args.run (value c.args.step) g.N.Count.limit c.args.size c.loop-j.invariant c.loop-j.auto.j c.loop-j-test.true c.requires.row c.requires.end refl sum)

pub returns-clause-steps : goal.returns-clause-steps
returns-clause-steps g c = run_done (map g.N.Count.value c.args.hiders.now) (map g.N.Count.value c.loop-j.hiders) c.args.i c.loop-j.j c.args.run (g.N.Count.value c.args.step) g.N.Count.limit c.args.size c.loop-j.invariant c.loop-j-test.false c.loop-j.auto.j-end

pub offset_bounds-hiders-k : goal.offset_bounds-hiders-k
offset_bounds-hiders-k g c =
    let size = c.args.size in
    let within : c.args.i * size.width + c.loop-j.j < size.width * size.height = mul-add-lt c.args.i size.width c.loop-j.j size.height (omega arith) (omega arith) in
    let here : c.args.i * size.width + c.loop-j.j < length c.loop-j.hiders = omega (arith, within, c.loop-j.auto.hiders, c.requires.size) in
    search rules
