-- Why a reading ends early, by why its parts do.
use Rattle.tabled_language.proofs.Common.{◌≡◌, EndsEarly, Faulty, IsErrAnd, List, Ok, OutOfMemory, LineError, Reading, Reads, Result, err_from_is_err_and, or_right, refl, then_reads, ℕ}

-- the first of two readings ends early
pub ends_first : {A B : Type 0} (first : Reading A) (next : A → Reading B) (texts : List (List ℕ)) (error : LineError) → EndsEarly first texts error → EndsEarly (then_reads first next) texts error
ends_first first next texts (Faulty fault) told = rw told refl
ends_first first next texts OutOfMemory told = rw told refl

-- the second does
pub ends_later : {A B : Type 0} (first : Reading A) (next : A → Reading B) (texts left : List (List ℕ)) (x : A) (error : LineError) → first.reads texts ≡ Ok (x, left) → EndsEarly (next x) left error → EndsEarly (then_reads first next) texts error
ends_later first next texts left x (Faulty fault) is told = rw is told
ends_later first next texts left x OutOfMemory is told = or_right (first.asks texts) _ (rw is told)

-- a reading that ended early, handed on by `?`
pub handed_on : {A X : Type 0} (view : X → A) (reading : Reading A) (old : List (List ℕ)) (r : Result X LineError) (new : List (List ℕ)) (error : LineError) → IsErrAnd r (λ e. e ≡ error) → EndsEarly reading old error → Reads view reading old r new
handed_on view reading old r new error is told = (let p = err_from_is_err_and r is in rw (p.1, p.2) told)
