use Rattle.tabled_json.proofs.Common.{◌≡◌, ◌∷◌, ◌<◌, Bool, true, false, List, arith, length, reverse, reversed-top, sym, subst, err_from_is_err_and, shows-from}
use Rattle.tabled_json.proofs.Nesting.{ValueRead, nest-fault, nest-no-end, nest-next, nest-whole, nest-inside}
use Rattle.tabled_json.specs.Faults.{EndFault, ValueFault}
use Rattle.tabled_json.specs.Grammar.{ValueAt}
use Rattle.tabled_json.specs.WholeValues.{IsNext, IsInside}
use Rattle.tabled_json.specs.declared.kind.Kind.{Kind}
use Rattle.tabled_json.proofs.value.behind_value.Goals as goal

pub returns-in_err-after-clause-read : goal.returns-in_err-after-clause-read
returns-in_err-after-clause-read c =
    let p = err_from_is_err_and c.from_residual.result c.from_residual.ensures.1 in
    let b = c.args.bytes.now in
    let rest = c.values.rest.now in
    let kind = c.in-Some.kind in
    let left = reverse c.pop.new.self.items in
    let top : reverse c.values.within.items ≡ kind ∷ left = reversed-top c.values.within.items c.pop.new.self.items kind c.in-Some.ensures.items in
    let read : ValueRead b true (kind ∷ left) rest =
    subst (λ (s : List Kind). ValueRead b true s rest) top (subst (λ (t : Bool). ValueRead b t (reverse c.values.within.items) rest) c.if-is_behind.true c.values.invariant.read) in
    rw (p.1, p.2) (shows-from (EndFault kind rest) (ValueFault b) c.in_err-after.field-0.0 (nest-no-end b left rest kind read) c.in_err-after.ensures.read)

pub returns-in_err-after-2-clause-read : goal.returns-in_err-after-2-clause-read
returns-in_err-after-2-clause-read c =
    let p = err_from_is_err_and c.from_residual-in_err-after-2.result c.from_residual-in_err-after-2.ensures.1 in
    let b = c.args.bytes.now in
    let rest = c.values.rest.now in
    let within = reverse c.values.within.items in
    let read : ValueRead b false within rest = subst (λ (t : Bool). ValueRead b t within rest) c.if-is_behind.false c.values.invariant.read in
    rw (p.1, p.2) (shows-from (ValueFault rest) (ValueFault b) c.in_err-after-2.field-0.0 (nest-fault b within rest read) c.in_err-after-2.ensures.read)

pub values-preserved-in-Next : goal.values-preserved-in-Next
values-preserved-in-Next c =
    let b = c.args.bytes.now in
    let rest = c.values.rest.now in
    let kind = c.in-Some.kind in
    let value = c.in-Next.value.now in
    let left = reverse c.pop.new.self.items in
    let top : reverse c.values.within.items ≡ kind ∷ left = reversed-top c.values.within.items c.pop.new.self.items kind c.in-Some.ensures.items in
    let read : ValueRead b true (kind ∷ left) rest =
    subst (λ (s : List Kind). ValueRead b true s rest) top (subst (λ (t : Bool). ValueRead b t (reverse c.values.within.items) rest) c.if-is_behind.true c.values.invariant.read) in
    let next : IsNext kind rest value = rw c.in-Next.is at c.in_ok-after.ensures.read in
    let less : length value < length rest = rw c.in-Next.is at c.in_ok-after.ensures.shorter in
    let now : reverse c.push.new.self.items ≡ kind ∷ left = reversed-top c.push.new.self.items c.pop.new.self.items kind c.in_ok-push-in-Next.ensures.items in
    record {
      read = subst (λ (s : List Kind). ValueRead b false s value) (sym now) (nest-next b left rest kind read value next);
      shorter = omega arith;
    }

pub values-preserved-in-Whole : goal.values-preserved-in-Whole
values-preserved-in-Whole c =
    let b = c.args.bytes.now in
    let rest = c.values.rest.now in
    let after = c.in-Whole.after.now in
    let within = reverse c.values.within.items in
    let read : ValueRead b false within rest = subst (λ (t : Bool). ValueRead b t within rest) c.if-is_behind.false c.values.invariant.read in
    let value : ValueAt rest after = rw c.in-Whole.is at c.in_ok-after-2.ensures.read in
    let less : length after < length rest = rw c.in-Whole.is at c.in_ok-after-2.ensures.shorter in
    record {
      read = nest-whole b within rest read after value;
      shorter = omega arith;
    }

pub values-preserved : goal.values-preserved
values-preserved c =
    let b = c.args.bytes.now in
    let rest = c.values.rest.now in
    let kind = c.in-Inside.kind in
    let value = c.in-Inside.value.now in
    let within = reverse c.values.within.items in
    let read : ValueRead b false within rest = subst (λ (t : Bool). ValueRead b t within rest) c.if-is_behind.false c.values.invariant.read in
    let inside : IsInside kind rest value = rw c.in-Inside.is at c.in_ok-after-2.ensures.read in
    let less : length value < length rest = rw c.in-Inside.is at c.in_ok-after-2.ensures.shorter in
    let now : reverse c.push-in-Inside.new.self.items ≡ kind ∷ within = reversed-top c.push-in-Inside.new.self.items c.values.within.items kind c.in_ok-push-in-Inside.ensures.items in
    record {
      read = subst (λ (t : Bool). ValueRead b t (reverse c.push-in-Inside.new.self.items) value) (sym c.if-is_behind.false)
          (subst (λ (s : List Kind). ValueRead b false s value) (sym now) (nest-inside b within rest read kind value inside));
      shorter = omega arith;
    }
