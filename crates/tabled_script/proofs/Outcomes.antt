-- What outcomes say.
use Rattle.std.specs.Io.KnownBytes.{Appends}
use Rattle.std.specs.Prelude.{Bool, String, false, true}
use Rattle.tabled_language.proofs.EndedLines.{parse_between-alone}
use Rattle.std.specs.Borrow.{Bor}
use Rattle.tabled_texts.specs.Texts.{rows_of}
use Rattle.tabled_language.specs.Parsing.{cell_texts}
use Rattle.tabled_language.specs.Script.{parse, parse_between}
use Rattle.tabled_language.specs.declared.fault.Fault.{Fault}
use Rattle.tabled_script.proofs.Common.{[], ◌∙◌, ◌≡◌, ◌⊎◌, Err, Global, List, Ok, Option, Result, Script, Vec, arith, ended, inl, inr, refl, subst, sym, ℕ}
use Rattle.tabled_script.specs.Answer.{IsUnwritable, ShowsState, fault_line, memory_line}
use Rattle.tabled_script.specs.Outcome.{Comes, ComesOfState, Ends, GivesNoTable, ShowsNoTable, ShowsTable, status_with_notes}
use Rattle.tabled_script.specs.Status.{IsAnswer, IsDone, IsStatus, done, faulty, out_of_memory}
use Rattle.tabled_script.specs.declared.form.Form.{Form}
use Rattle.tabled_script.specs.declared.outcome.Unwritten.{Unwritten}
use Rattle.tabled_script.specs.declared.outcome.Unwritten.TheVariants.{EqualKeys, Failed, Faulty, OutOfMemory, TooNarrow}

-- of the state that a script ends with
pub of_end : {U : Type 0} (how : Form) (read : Result Script (ℕ × Fault)) (script : Script) (old new : Option (List ℕ)) (outcome : Result U Unwritten) → read ≡ Ok script → ComesOfState how (ended script) old new outcome → Comes how read old new outcome
of_end how read script old new (Ok u) is shows = (script, is, shows)
of_end how read script old new (Err (Faulty line fault)) is none = absurd none
of_end how read script old new (Err (TooNarrow narrow)) is undrawn = (script, is, undrawn.0, undrawn.1)
of_end how read script old new (Err (EqualKeys keys)) is undrawn = (script, is, undrawn.0, undrawn.1)
of_end how read script old new (Err OutOfMemory) is same = same
of_end how read script old new (Err Failed) is any = tt

-- of an answer, by its status
pub answer_known : {U : Type 0} (outcome : Result U Unwritten) (has_notes : Bool) → IsAnswer (status_with_notes outcome has_notes)
answer_known (Ok u) true = inr refl
answer_known (Ok u) false = inl (inl refl)
answer_known (Err (Faulty line fault)) has_notes = inl (inr (inl refl))
answer_known (Err (TooNarrow narrow)) has_notes = inl (inr (inl refl))
answer_known (Err (EqualKeys keys)) has_notes = inl (inr (inl refl))
answer_known (Err OutOfMemory) has_notes = inl (inr (inr (inl refl)))
answer_known (Err Failed) has_notes = inl (inr (inr (inr refl)))

module _ (how : Form) (read : Result Script (ℕ × Fault)) (old new : Option (List ℕ)) where
  pub is_done : {U : Type 0} (outcome : Result U Unwritten) (has_notes : Bool) → Comes how read old new outcome → IsDone (status_with_notes outcome has_notes) → (script : Script) × (read ≡ Ok script) × ShowsState how (ended script) old new
  is_done (Ok u) has_notes comes is = comes
  is_done (Err (Faulty line fault)) has_notes comes (inl is) = absurd (omega (arith, is))
  is_done (Err (Faulty line fault)) has_notes comes (inr is) = absurd (omega (arith, is))
  is_done (Err (TooNarrow narrow)) has_notes comes (inl is) = absurd (omega (arith, is))
  is_done (Err (EqualKeys keys)) has_notes comes (inl is) = absurd (omega (arith, is))
  is_done (Err (TooNarrow narrow)) has_notes comes (inr is) = absurd (omega (arith, is))
  is_done (Err (EqualKeys keys)) has_notes comes (inr is) = absurd (omega (arith, is))
  is_done (Err OutOfMemory) has_notes comes (inl is) = absurd (omega (arith, is))
  is_done (Err OutOfMemory) has_notes comes (inr is) = absurd (omega (arith, is))
  is_done (Err Failed) has_notes comes (inl is) = absurd (omega (arith, is))
  is_done (Err Failed) has_notes comes (inr is) = absurd (omega (arith, is))

  pub is_faulty : {U : Type 0} (outcome : Result U Unwritten) (has_notes : Bool) → Comes how read old new outcome → status_with_notes outcome has_notes ≡ faulty → (new ≡ old) × GivesNoTable how read
  is_faulty (Ok u) true comes is = absurd (omega (arith, is))
  is_faulty (Ok u) false comes is = absurd (omega (arith, is))
  is_faulty (Err (Faulty line fault)) has_notes comes is = (comes.1, inl ((line, fault), comes.0))
  is_faulty (Err (TooNarrow narrow)) has_notes comes is = (comes.3, inr (comes.0, comes.1, comes.2))
  is_faulty (Err (EqualKeys keys)) has_notes comes is = (comes.3, inr (comes.0, comes.1, comes.2))
  is_faulty (Err OutOfMemory) has_notes comes is = absurd (omega (arith, is))
  is_faulty (Err Failed) has_notes comes is = absurd (omega (arith, is))

  pub is_out_of_memory : {U : Type 0} (outcome : Result U Unwritten) (has_notes : Bool) → Comes how read old new outcome → status_with_notes outcome has_notes ≡ out_of_memory → new ≡ old
  is_out_of_memory (Ok u) true comes is = absurd (omega (arith, is))
  is_out_of_memory (Ok u) false comes is = absurd (omega (arith, is))
  is_out_of_memory (Err (Faulty line fault)) has_notes comes is = absurd (omega (arith, is))
  is_out_of_memory (Err (TooNarrow narrow)) has_notes comes is = absurd (omega (arith, is))
  is_out_of_memory (Err (EqualKeys keys)) has_notes comes is = absurd (omega (arith, is))
  is_out_of_memory (Err OutOfMemory) has_notes comes is = comes
  is_out_of_memory (Err Failed) has_notes comes is = absurd (omega (arith, is))

-- how a run ends, by the status that it ends with
module _ (old mid new : Option (List ℕ)) (status : ℕ) where
  pub ends_known : {U : Type 0} (outcome : Result U Unwritten) → Ends outcome status mid new → IsStatus status
  ends_known (Ok u) ends = inl ends.0
  ends_known (Err (Faulty line fault)) (inl (inl fails)) = inr (inr (inr fails))
  ends_known (Err (Faulty line fault)) (inl (inr told)) = inr (inl told.0)
  ends_known (Err (Faulty line fault)) (inr (inl fails)) = inr (inr (inr fails))
  ends_known (Err (Faulty line fault)) (inr (inr told)) = inr (inr (inl told.0))
  ends_known (Err (TooNarrow narrow)) ends = inr (inl ends.0)
  ends_known (Err (EqualKeys keys)) ends = inr (inl ends.0)
  ends_known (Err OutOfMemory) (inl fails) = inr (inr (inr fails))
  ends_known (Err OutOfMemory) (inr told) = inr (inr (inl told.0))
  ends_known (Err Failed) ends = inr (inr (inr ends))

  module _ (how : Form) (read : Result Script (ℕ × Fault)) where
    pub ends_done : {U : Type 0} (outcome : Result U Unwritten) → Comes how read old mid outcome → Ends outcome status mid new → status ≡ done → (script : Script) × (read ≡ Ok script) × ShowsState how (ended script) old new
    ends_done (Ok u) comes ends is = (comes.0, comes.1, subst (λ it. ShowsState how (ended comes.0) old it) (sym ends.1) comes.2)
    ends_done (Err (Faulty line fault)) comes (inl (inl fails)) is = absurd (omega (arith, is, fails))
    ends_done (Err (Faulty line fault)) comes (inl (inr told)) is = absurd (omega (arith, is, told.0))
    ends_done (Err (Faulty line fault)) comes (inr (inl fails)) is = absurd (omega (arith, is, fails))
    ends_done (Err (Faulty line fault)) comes (inr (inr told)) is = absurd (omega (arith, is, told.0))
    ends_done (Err (TooNarrow narrow)) comes ends is = absurd (omega (arith, is, ends.0))
    ends_done (Err (EqualKeys keys)) comes ends is = absurd (omega (arith, is, ends.0))
    ends_done (Err OutOfMemory) comes (inl fails) is = absurd (omega (arith, is, fails))
    ends_done (Err OutOfMemory) comes (inr told) is = absurd (omega (arith, is, told.0))
    ends_done (Err Failed) comes ends is = absurd (omega (arith, is, ends))

    pub ends_faulty : {U : Type 0} (outcome : Result U Unwritten) → Comes how read old mid outcome → Ends outcome status mid new → status ≡ faulty
        → ((fault : ℕ × Fault) × (read ≡ Err fault) × Appends old new (fault_line fault)) ⊎ ((script : Script) × (read ≡ Ok script) × IsUnwritable how (ended script))
    ends_faulty (Ok u) comes ends is = absurd (omega (arith, is, ends.0))
    ends_faulty (Err (Faulty line fault)) comes (inl (inl fails)) is = absurd (omega (arith, is, fails))
    ends_faulty (Err (Faulty line fault)) comes (inl (inr told)) is = inl ((line, fault), comes.0, subst (λ it. Appends it new (fault_line (line, fault))) comes.1 told.1)
    ends_faulty (Err (Faulty line fault)) comes (inr (inl fails)) is = absurd (omega (arith, is, fails))
    ends_faulty (Err (Faulty line fault)) comes (inr (inr told)) is = absurd (omega (arith, is, told.0))
    ends_faulty (Err (TooNarrow narrow)) comes ends is = inr (comes.0, comes.1, comes.2)
    ends_faulty (Err (EqualKeys keys)) comes ends is = inr (comes.0, comes.1, comes.2)
    ends_faulty (Err OutOfMemory) comes (inl fails) is = absurd (omega (arith, is, fails))
    ends_faulty (Err OutOfMemory) comes (inr told) is = absurd (omega (arith, is, told.0))
    ends_faulty (Err Failed) comes ends is = absurd (omega (arith, is, ends))

    pub ends_out_of_memory : {U : Type 0} (outcome : Result U Unwritten) → Comes how read old mid outcome → Ends outcome status mid new → status ≡ out_of_memory → Appends old new memory_line
    ends_out_of_memory (Ok u) comes ends is = absurd (omega (arith, is, ends.0))
    ends_out_of_memory (Err (Faulty line fault)) comes (inl (inl fails)) is = absurd (omega (arith, is, fails))
    ends_out_of_memory (Err (Faulty line fault)) comes (inl (inr told)) is = absurd (omega (arith, is, told.0))
    ends_out_of_memory (Err (Faulty line fault)) comes (inr (inl fails)) is = absurd (omega (arith, is, fails))
    ends_out_of_memory (Err (Faulty line fault)) comes (inr (inr told)) is = subst (λ it. Appends it new memory_line) comes.1 told.1
    ends_out_of_memory (Err (TooNarrow narrow)) comes ends is = absurd (omega (arith, is, ends.0))
    ends_out_of_memory (Err (EqualKeys keys)) comes ends is = absurd (omega (arith, is, ends.0))
    ends_out_of_memory (Err OutOfMemory) comes (inl fails) is = absurd (omega (arith, is, fails))
    ends_out_of_memory (Err OutOfMemory) comes (inr told) is = subst (λ it. Appends it new memory_line) comes told.1
    ends_out_of_memory (Err Failed) comes ends is = absurd (omega (arith, is, ends))

-- ---- of bytes alone

-- what is read of bytes between no rows and no steps
pub read-alone : (rows : List (Vec (Bor (List ℕ)))) (steps : List (Vec (String Global))) (bytes input : List ℕ) → rows ≡ [] → steps ≡ [] → bytes ≡ input → parse_between (rows_of rows) bytes (cell_texts steps) ≡ parse input
read-alone rows steps bytes input no_rows no_steps is = rw (no_rows, no_steps, is) (parse_between-alone input)

module _ {U : Type 0} (how : Form) (read : Result Script (ℕ × Fault)) (input : List ℕ) (old mid new : Option (List ℕ)) (status : ℕ) (outcome : Result U Unwritten) (is : read ≡ parse input) (comes : Comes how read old mid outcome) (ends : Ends outcome status mid new) where
  pub run_done : status ≡ done → ShowsTable how input old new
  run_done is_done = let shown = ends_done old mid new status how read outcome comes ends is_done in (shown.0, sym is ∙ shown.1, shown.2)

  pub run_faulty : status ≡ faulty → ShowsNoTable how input old new
  run_faulty is_faulty = elim (ends_faulty old mid new status how read outcome comes ends is_faulty) [
    | inl fault ↦ inl (fault.0, sym is ∙ fault.1, fault.2)
    | inr undrawn ↦ inr (undrawn.0, sym is ∙ undrawn.1, undrawn.2)
  ]
