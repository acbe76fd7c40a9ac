-- What is told of a fault.
use Rattle.tabled_json.proofs.Common.{◌≡◌, ◌∙◌, ℕ, List, Fault, Shows, ap, subst, sym}
use Rattle.tabled_json.specs.Faults.{ShowsAt}
use Rattle.tabled_json.specs.Laws.{HasOneFault}
use Rattle.tabled_json.specs.Places.{AtFault, IsTold, column_at}
use Rattle.tabled_texts.specs.declared.part_error.PartError.{PartError}
use Rattle.tabled_texts.specs.declared.part_error.PartError.TheVariants.{Faulty, OutOfMemory}
use Rattle.tabled_json.specs.declared.fault.ReadError.{ReadError}
use Rattle.tabled_json.specs.declared.fault.ReadError.TheVariants as told
use Rattle.tabled_texts.specs.Lines.{line_at}
use Rattle.tabled_texts.specs.Marks.{behind_mark}

pub told-shows : (FaultAt : List ℕ → Fault → ℕ → Type 0) (bytes text : List ℕ) (error : PartError Fault) (e : ReadError) → text ≡ behind_mark bytes → IsTold text error e → Shows (FaultAt text) error
    → AtFault (ShowsAt FaultAt bytes) e
told-shows FaultAt bytes text (Faulty fault left) e is t f =
    subst (AtFault (ShowsAt FaultAt bytes)) (sym t)
    (left, subst (λ (l : List ℕ). FaultAt l fault left) is f, ap (λ (l : List ℕ). line_at l left) is, ap (λ (l : List ℕ). column_at l left) is)
told-shows FaultAt bytes text OutOfMemory e is t f = subst (AtFault (ShowsAt FaultAt bytes)) (sym t) tt

-- what holds of a fault, from what else does
pub at-fault-from : (P Q : ℕ → ℕ → Fault → Type 0) (e : ReadError) → ((line column : ℕ) (fault : Fault) → P line column fault → Q line column fault) → AtFault P e → AtFault Q e
at-fault-from P Q (told.Faulty line column fault) f p = f line column fault p
at-fault-from P Q told.OutOfMemory f p = p

-- where a fault shows in one place only, it does so in one line and column
pub one-place : (FaultAt : List ℕ → Fault → ℕ → Type 0) (bytes : List ℕ)
    → ((text : List ℕ) (fault other : Fault) (left more : ℕ) → FaultAt text fault left → FaultAt text other more → (fault ≡ other) × (left ≡ more)) → HasOneFault (ShowsAt FaultAt bytes)
one-place FaultAt bytes once line other_line column other_column fault other f g =
    let text = behind_mark bytes in
    let same = once text fault other f.0 g.0 f.1 g.1 in
    (f.2 ∙ (ap (line_at text) same.1 ∙ sym g.2), f.3 ∙ (ap (column_at text) same.1 ∙ sym g.3), same.0)
