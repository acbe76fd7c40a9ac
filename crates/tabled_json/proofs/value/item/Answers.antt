use Rattle.tabled_json.proofs.Common.{Bor, Fault, List, ℕ, Shows, match-from}
use Rattle.tabled_json.specs.Grammar.{KeyAt, ItemAt}
use Rattle.tabled_json.specs.Faults.{ItemFault, KeyFault}
use Rattle.tabled_texts.specs.declared.part_error.PartError.{PartError}
use Rattle.tabled_json.specs.declared.kind.Kind.TheVariants.{Object}
use Rattle.tabled_json.proofs.value.item.Goals as goal

pub returns-in-Object-clause-read : goal.returns-in-Object-clause-read
returns-in-Object-clause-read c =
    let b = c.args.bytes.now in
    let t = c.key.new.text.items in
    rw c.in-Object.is
    (match-from c.key.result (λ (value : Bor (List ℕ)). KeyAt b t value.now) (λ (value : Bor (List ℕ)). ItemAt Object b value.now) (Shows (KeyFault b)) (Shows (ItemFault Object b))
    (λ (value : Bor (List ℕ)) (p : KeyAt b t value.now). (t, p))
    (λ (e : PartError Fault) (f : Shows (KeyFault b) e). f)
    c.key.ensures.read)
