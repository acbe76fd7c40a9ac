use Rattle.tabled_json.proofs.Common.{ℕ, subst, err_from_is_err_and, shows-from, List}
use Rattle.tabled_json.specs.Faults.{EndFault, ItemFault, TailFault}
use Rattle.tabled_json.specs.Grammar.{closing}
use Rattle.tabled_json.specs.Lists.{IsFurther}
use Rattle.tabled_json.proofs.value.end.Goals as goal

pub returns-in_err-tail-clause-read : goal.returns-in_err-tail-clause-read
returns-in_err-tail-clause-read c =
    let p = err_from_is_err_and c.from_residual.result c.from_residual.ensures.1 in
    let behind = c.args.behind.now in
    rw (p.1, p.2) (shows-from (TailFault (closing c.args.kind) behind) (EndFault c.args.kind behind) c.in_err-tail.field-0.0 (λ fault left f. EndFault.tail f) c.in_err-tail.ensures.read)

pub returns-in_err-value-in-Next-clause-read : goal.returns-in_err-value-in-Next-clause-read
returns-in_err-value-in-Next-clause-read c =
    let p = err_from_is_err_and c.from_residual-in_err-value-in-Next.result c.from_residual-in_err-value-in-Next.ensures.1 in
    let kind = c.args.kind in
    let next = c.in-Next.next.now in
    let n : IsFurther c.args.behind.now next = rw c.in-Next.is at c.in_ok-tail.ensures.read in
    rw (p.1, p.2)
    (shows-from (ItemFault kind next) (EndFault kind c.args.behind.now) c.in_err-value-in-Next.field-0.0
    (λ fault left f. EndFault.item n.next n.comma (subst (λ (l : List ℕ). ItemFault kind l fault left) n.is f)) c.in_err-value-in-Next.ensures.read)
