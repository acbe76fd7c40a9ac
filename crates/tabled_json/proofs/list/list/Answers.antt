use Rattle.tabled_json.proofs.Common.{◌≡◌, ◌∷◌, ◌∙◌, ℕ, List, map, sym, ap, subst, err_from_is_err_and, shows-from}
use Rattle.tabled_json.specs.Faults.{ElementsFault, IsWanted, ListFault}
use Rattle.tabled_json.specs.Space.{NotBefore, behind_space}
use Rattle.tabled_json.specs.Grammar.{ElementsAt, ListAt, closing, opening}
use Rattle.tabled_json.proofs.list.list.Goals as goal

pub returns-in-Some-behind_byte-clause-read : goal.returns-in-Some-behind_byte-clause-read
returns-in-Some-behind_byte-clause-read g c =
    let inner = c.in-Some.inner.now in
    let after = c.in-Some-behind_byte.after.now in
    let opened = c.in-Some.ensures.is ∙ ap (λ (n : ℕ). n ∷ inner) c.opening.ensures in
    let closed : behind_space inner ≡ closing c.args.kind ∷ after = sym c.behind_space-first.ensures.value ∙ (c.in-Some-behind_byte.ensures.is ∙ ap (λ (n : ℕ). n ∷ after) c.closing.ensures) in
    ListAt.none inner opened closed (ap (map g.E.Element.shown) c.new-none.ensures.items)

pub returns-clause-read : goal.returns-clause-read
returns-clause-read g c =
    let e = g.E.Element in
    let inner = c.in-Some.inner.now in
    let after = c.in_ok-all.after.now in
    ListAt.some inner (c.in-Some.ensures.is ∙ ap (λ (n : ℕ). n ∷ inner) c.opening.ensures)
    (subst (λ (l : List ℕ). ElementsAt e.is_at (closing c.args.kind) l (map e.shown c.in_ok-all.all.items) after) c.behind_space-first.ensures.value c.in_ok-all.ensures.read)

pub returns-in_default-clause-read : goal.returns-in_default-clause-read
returns-in_default-clause-read g c =
    let e = g.E.Element in
    let b = c.args.bytes.now in
    let kind = c.args.kind in
    shows-from (IsWanted c.args.missing b) (ListFault e.is_at e.is_fault c.args.missing (opening kind) (closing kind) b) c.wanted.result
    (λ fault left f. ListFault.opener (subst (λ (n : ℕ). NotBefore n b) c.opening.ensures c.in_default.ensures.is) f) c.wanted.ensures

pub returns-in_err-all-clause-read : goal.returns-in_err-all-clause-read
returns-in_err-all-clause-read g c =
    let p = err_from_is_err_and c.from_residual.result c.from_residual.ensures.1 in
    let e = g.E.Element in
    let b = c.args.bytes.now in
    let kind = c.args.kind in
    let inner = c.in-Some.inner.now in
    let first = c.behind_space-first.result.now in
    let same = c.behind_space-first.ensures.value in
    let opened = c.in-Some.ensures.is ∙ ap (λ (n : ℕ). n ∷ inner) c.opening.ensures in
    let filled = subst (NotBefore (closing kind)) same (subst (λ (n : ℕ). NotBefore n first) c.closing.ensures c.in_default-behind_byte.ensures.is) in
    rw (p.1, p.2)
    (shows-from (ElementsFault e.is_at e.is_fault (closing kind) first) (ListFault e.is_at e.is_fault c.args.missing (opening kind) (closing kind) b) c.in_err-all.field-0.0
    (λ fault left f. ListFault.inside inner opened filled (subst (λ (l : List ℕ). ElementsFault e.is_at e.is_fault (closing kind) l fault left) same f))
    c.in_err-all.ensures.read)
