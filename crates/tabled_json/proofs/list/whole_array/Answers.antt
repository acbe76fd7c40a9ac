use Rattle.tabled_json.proofs.Common.{◌∙◌, ℕ, List, err_from_is_err_and, shows-from, map, subst, sym}
use Rattle.tabled_json.proofs.Lines.{empty-is, some-is}
use Rattle.tabled_json.specs.Faults.{ArrayFault, IsWanted, ListFault}
use Rattle.tabled_json.specs.Grammar.{ListAt}
use Rattle.tabled_json.specs.declared.fault.Fault.TheVariants.{Unexpected}
use Rattle.tabled_json.proofs.list.whole_array.Goals as goal

pub returns-in_err-all : goal.returns-in_err-all
returns-in_err-all g c =
    let p = err_from_is_err_and c.from_residual.result c.from_residual.ensures.1 in
    let e = g.E.Element in
    rw (p.1, p.2)
    (shows-from (ListFault e.is_at e.is_fault Unexpected 91 93 c.behind_space-first.result.now) (ArrayFault e.is_at e.is_fault c.args.bytes.now) c.in_err-all.field-0.0
    (λ fault left f. ArrayFault.array (subst (λ (l : List ℕ). ListFault e.is_at e.is_fault Unexpected 91 93 l fault left) c.behind_space-first.ensures.value f)) c.in_err-all.ensures.read)

pub returns-then-is_empty : goal.returns-then-is_empty
returns-then-is_empty g c =
    let e = g.E.Element in
    let after = c.in_ok-all.after.now in
    record {
      after = after;
      is = subst (λ (l : List ℕ). ListAt e.is_at 91 93 l (map e.shown c.in_ok-all.all.items) after) c.behind_space-first.ensures.value c.in_ok-all.ensures.read;
      ended = sym c.behind_space-rest.ensures.value ∙ empty-is c.behind_space-rest.result.now (sym c.if-is_empty.true ∙ c.is_empty.ensures);
    }

pub returns : goal.returns
returns g c =
    let e = g.E.Element in
    let after = c.in_ok-all.after.now in
    let all = map e.shown c.in_ok-all.all.items in
    let rest = c.behind_space-rest.result.now in
    let behind = c.behind_space-rest.ensures.value in
    shows-from (IsWanted Unexpected rest) (ArrayFault e.is_at e.is_fault c.args.bytes.now) c.unexpected.result
    (λ fault left f. ArrayFault.behind all after (subst (λ (l : List ℕ). ListAt e.is_at 91 93 l all after) c.behind_space-first.ensures.value c.in_ok-all.ensures.read)
    (λ e. some-is rest (sym c.if-is_empty.false ∙ c.is_empty.ensures) (behind ∙ e)) (subst (λ (l : List ℕ). IsWanted Unexpected l fault left) behind f))
    c.unexpected.ensures
