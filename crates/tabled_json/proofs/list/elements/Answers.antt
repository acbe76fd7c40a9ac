use Rattle.tabled_json.proofs.Common.{◌≡◌, ◌∷◌, ◌++◌, ◌∙◌, ◌<◌, ◌≤◌, [], arith, length, map, map-append, ap, err_from_is_err_and, shows-from}
use Rattle.tabled_json.specs.Space.{behind_space}
use Rattle.tabled_json.specs.Faults.{ElementsFault, TailFault}
use Rattle.tabled_json.specs.Grammar.{closing}
use Rattle.tabled_json.specs.Lists.{IsFurther}
use Rattle.tabled_json.proofs.Lists.{element-fault, element-read, elements-done, tail-fault}
use Rattle.tabled_json.proofs.list.elements.Goals as goal

pub returns-in_err-found-clause-read : goal.returns-in_err-found-clause-read
returns-in_err-found-clause-read g c =
    let p = err_from_is_err_and c.from_residual.result c.from_residual.ensures.1 in
    let e = g.E.Element in
    let b = c.args.bytes.now in
    let close = closing c.args.kind in
    let rest = c.elements.rest.now in
    rw (p.1, p.2)
    (shows-from (e.is_fault rest) (ElementsFault e.is_at e.is_fault close b) c.in_err-found.field-0.0
    (element-fault e.is_at e.is_fault close b rest (map e.shown c.elements.elements.items) c.elements.invariant.read) c.in_err-found.ensures.read)

pub returns-in_err-tail-clause-read : goal.returns-in_err-tail-clause-read
returns-in_err-tail-clause-read g c =
    let p = err_from_is_err_and c.from_residual-in_err-tail.result c.from_residual-in_err-tail.ensures.1 in
    let e = g.E.Element in
    let b = c.args.bytes.now in
    let close = closing c.args.kind in
    let behind = c.in_ok-found.behind.now in
    rw (p.1, p.2)
    (shows-from (TailFault close behind) (ElementsFault e.is_at e.is_fault close b) c.in_err-tail.field-0.0
    (tail-fault e.is_at e.is_fault close b c.elements.rest.now (map e.shown c.elements.elements.items) c.elements.invariant.read (e.shown c.in_ok-found.found) behind c.in_ok-found.ensures.read)
    c.in_err-tail.ensures.read)

pub returns-in-Closed-clause-read : goal.returns-in-Closed-clause-read
returns-in-Closed-clause-read g c =
    let e = g.E.Element in
    let close = closing c.args.kind in
    let xs = map e.shown c.elements.elements.items in
    let x = e.shown c.in_ok-found.found in
    let behind = c.in_ok-found.behind.now in
    let after = c.in-Closed.after.now in
    let all : map e.shown c.in_ok-all-in-Closed.all.items ≡ xs ++ (x ∷ []) =
    ap (map e.shown) (c.in_ok-all-in-Closed.ensures ∙ c.in_ok-push.ensures.items) ∙ map-append e.shown c.elements.elements.items (c.in_ok-found.found ∷ []) in
    let f : behind_space behind ≡ close ∷ after = rw c.in-Closed.is at c.in_ok-tail.ensures.read in
    rw all (elements-done e.is_at e.is_fault close c.args.bytes.now c.elements.rest.now xs c.elements.invariant.read x behind after c.in_ok-found.ensures.read f)

pub elements-preserved : goal.elements-preserved
elements-preserved g c =
    let e = g.E.Element in
    let close = closing c.args.kind in
    let rest = c.elements.rest.now in
    let xs = map e.shown c.elements.elements.items in
    let x = e.shown c.in_ok-found.found in
    let behind = c.in_ok-found.behind.now in
    let next = c.in-Next.next.now in
    let all : map e.shown c.push.new.self.items ≡ xs ++ (x ∷ []) = ap (map e.shown) c.in_ok-push.ensures.items ∙ map-append e.shown c.elements.elements.items (c.in_ok-found.found ∷ []) in
    let n : IsFurther behind next = rw c.in-Next.is at c.in_ok-tail.ensures.read in
    let less : length next < length behind = rw c.in-Next.is at c.in_ok-tail.ensures.shorter in
    let less_found : length behind ≤ length rest = c.in_ok-found.ensures.shorter in
    record {
      read = rw (all, n.is) (element-read e.is_at e.is_fault close c.args.bytes.now rest xs c.elements.invariant.read x behind n.next c.in_ok-found.ensures.read n.comma);
      shorter = omega arith;
    }
