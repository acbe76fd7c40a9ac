use Rattle.tabled_json.proofs.Common.{List, ℕ, err_from_is_err_and, shows-from, subst}
use Rattle.tabled_json.specs.Faults.{ContentFault, IsWanted, KeyFault}
use Rattle.tabled_json.specs.Space.{NotBefore}
use Rattle.tabled_json.specs.declared.fault.Fault.TheVariants.{Unexpected}
use Rattle.tabled_json.proofs.value.key.Goals as goal

pub returns-in_default-clause-read : goal.returns-in_default-clause-read
returns-in_default-clause-read c =
    let b = c.args.bytes.now in
    shows-from (IsWanted Unexpected b) (KeyFault b) c.unexpected.result (λ fault left f. KeyFault.quote c.in_default.ensures.is f) c.unexpected.ensures

pub returns-in_err-ended-clause-read : goal.returns-in_err-ended-clause-read
returns-in_err-ended-clause-read c =
    let p = err_from_is_err_and c.from_residual.result c.from_residual.ensures.1 in
    let b = c.args.bytes.now in
    let behind = c.in-Some.behind.now in
    rw (p.1, p.2) (shows-from (ContentFault behind) (KeyFault b) c.in_err-ended.field-0.0 (λ fault left f. KeyFault.name behind c.in-Some.ensures.is f) c.in_err-ended.ensures.read)

pub returns-in-None-clause-read : goal.returns-in-None-clause-read
returns-in-None-clause-read c =
    let b = c.args.bytes.now in
    let after = c.behind_space-after.result.now in
    let same = c.behind_space-after.ensures.value in
    shows-from (IsWanted Unexpected after) (KeyFault b) c.unexpected-in-None.result
    (λ fault left f. KeyFault.colon c.content.new.text.items c.in_ok-ended.ended.now (c.in-Some.behind.now, c.in-Some.ensures.is, c.in_ok-ended.ensures.read)
    (subst (NotBefore 58) same c.in-None.ensures.is) (subst (λ (l : List ℕ). IsWanted Unexpected l fault left) same f))
    c.unexpected-in-None.ensures
