use Rattle.tabled_json.proofs.Common.{◌∙◌, ℕ, List, IsUtf8, length, refl, sym, subst, err_from_is_err_and, shows-from}
use Rattle.tabled_json.specs.Faults.{CellFault, IsNoText, ScalarFault, ValueFault}
use Rattle.tabled_json.specs.Grammar.{CellTextAt, ScalarAt, before}
use Rattle.tabled_json.proofs.cell.cell.Goals as goal

pub returns-in_err-after-clause-read : goal.returns-in_err-after-clause-read
returns-in_err-after-clause-read c =
    let p = err_from_is_err_and c.from_residual.result c.from_residual.ensures.1 in
    let b = c.args.bytes.now in
    rw (p.1, p.2) (shows-from (ValueFault b) (CellFault b) c.in_err-after.field-0.0 (λ fault left f. CellFault.value f) c.in_err-after.ensures.read)

pub returns-in_err-text-clause-read : goal.returns-in_err-text-clause-read
returns-in_err-text-clause-read c =
    let p = err_from_is_err_and c.from_residual-in_err-text.result c.from_residual-in_err-text.ensures.1 in
    let b = c.args.bytes.now in
    let after = c.in_ok-after.after.now in
    rw (p.1, p.2)
    (shows-from (IsNoText (length b) (before b after)) (CellFault b) c.in_err-text.field-0.0
    (λ fault left f. CellFault.text (before b after) after (CellTextAt.nested c.in-Some._kind c.in-Some._inner.now c.in-Some.ensures.is c.in_ok-after.ensures.read refl) f) c.in_err-text.ensures)

pub returns-in-Some-clause-read : goal.returns-in-Some-clause-read
returns-in-Some-clause-read c =
    let b = c.args.bytes.now in
    let after = c.in_ok-after.after.now in
    let held = c.in_ok-text.ensures in
    record {
      utf8 = subst IsUtf8 (sym held.is) held.utf8;
      is = CellTextAt.nested c.in-Some._kind c.in-Some._inner.now c.in-Some.ensures.is c.in_ok-after.ensures.read held.is;
    }

pub returns-in_err-after-2-clause-read : goal.returns-in_err-after-2-clause-read
returns-in_err-after-2-clause-read c =
    let p = err_from_is_err_and c.from_residual-in_err-after-2.result c.from_residual-in_err-after-2.ensures.1 in
    let b = c.args.bytes.now in
    rw (p.1, p.2)
    (shows-from (ScalarFault b) (CellFault b) c.in_err-after-2.field-0.0 (λ fault left f. CellFault.value (ValueFault.scalar c.in_default.ensures.is f)) c.in_err-after-2.ensures.read)

pub returns-in_err-text-2-clause-read : goal.returns-in_err-text-2-clause-read
returns-in_err-text-2-clause-read c =
    let p = err_from_is_err_and c.from_residual-in_err-text-2.result c.from_residual-in_err-text-2.ensures.1 in
    let b = c.args.bytes.now in
    let text = c.scalar.new.text.items in
    let slice = c.as_slice.result.now in
    rw (p.1, p.2)
    (shows-from (IsNoText (length b) slice) (CellFault b) c.in_err-text-2.field-0.0
    (λ fault left f. CellFault.text text c.in_ok-after-2.after.now (CellTextAt.scalar c.in_ok-after-2.ensures.read) (subst (λ (l : List ℕ). IsNoText (length b) l fault left) c.as_slice.ensures.value f))
    c.in_err-text-2.ensures)

pub returns-clause-read : goal.returns-clause-read
returns-clause-read c =
    let b = c.args.bytes.now in
    let after = c.in_ok-after-2.after.now in
    let held = c.in_ok-text-2.ensures in
    let same = held.is ∙ c.as_slice.ensures.value in
    record {
      utf8 = subst IsUtf8 (sym held.is) held.utf8;
      is = CellTextAt.scalar (subst (λ (l : List ℕ). ScalarAt b l after) (sym same) c.in_ok-after-2.ensures.read);
    }
