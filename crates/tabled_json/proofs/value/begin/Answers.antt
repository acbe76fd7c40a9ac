use Rattle.tabled_json.proofs.Common.{◌≡◌, ◌∷◌, ◌∙◌, ℕ, sym, ap, subst, err_from_is_err_and, shows-from, List}
use Rattle.tabled_json.specs.Space.{NotBefore, behind_space}
use Rattle.tabled_json.specs.Grammar.{ValueAt, closing}
use Rattle.tabled_json.specs.Faults.{ItemFault, ScalarFault, ValueFault}
use Rattle.tabled_json.proofs.value.begin.Goals as goal

pub returns-in_err-after-clause-read : goal.returns-in_err-after-clause-read
returns-in_err-after-clause-read c =
    let p = err_from_is_err_and c.from_residual.result c.from_residual.ensures.1 in
    let b = c.args.bytes.now in
    rw (p.1, p.2) (shows-from (ScalarFault b) (ValueFault b) c.in_err-after.field-0.0 (λ fault left f. ValueFault.scalar c.in_default.ensures.is f) c.in_err-after.ensures.read)

pub returns-in_default-clause-read : goal.returns-in_default-clause-read
returns-in_default-clause-read c = ValueAt.scalar c.scalar.new.text.items c.in_ok-after.ensures.read

pub returns-in-Some-behind_byte-clause-read : goal.returns-in-Some-behind_byte-clause-read
returns-in-Some-behind_byte-clause-read c =
    let kind = c.in-Some.kind in
    let inner = c.in-Some.inner.now in
    let after = c.in-Some-behind_byte.after.now in
    let f : behind_space inner ≡ closing kind ∷ after = sym c.behind_space-first.ensures.value ∙ (c.in-Some-behind_byte.ensures.is ∙ ap (λ (n : ℕ). n ∷ after) c.closing.ensures) in
    ValueAt.empty kind inner c.in-Some.ensures.is f

pub returns-in_err-value-clause-read : goal.returns-in_err-value-clause-read
returns-in_err-value-clause-read c =
    let p = err_from_is_err_and c.from_residual-in_err-value.result c.from_residual-in_err-value.ensures.1 in
    let kind = c.in-Some.kind in
    let inner = c.in-Some.inner.now in
    let first = c.behind_space-first.result.now in
    let b = c.args.bytes.now in
    let same : first ≡ behind_space inner = c.behind_space-first.ensures.value in
    let not : NotBefore (closing kind) (behind_space inner) =
    subst (NotBefore (closing kind)) same (subst (λ (n : ℕ). NotBefore n first) c.closing.ensures c.in_default-behind_byte.ensures.is) in
    rw (p.1, p.2)
    (shows-from (ItemFault kind first) (ValueFault b) c.in_err-value.field-0.0
    (λ fault left f. ValueFault.first kind inner c.in-Some.ensures.is not (subst (λ (l : List ℕ). ItemFault kind l fault left) same f)) c.in_err-value.ensures.read)
