-- Selectors that hold others.
use Rattle.tabled_language.proofs.Common.{◌≡◌, Err, Faulty, List, Named, Ok, OutOfMemory, LineError, Reading, Reads, Result, behind, first_word, kept, reads_selector, reads_word, selectors, subst, suc, sym, then_reads, ℕ}

-- what is read after a word is what is read from it on
pub read_behind : {A X : Type 0} (view : X → A) (next : List ℕ → Reading A) (word : List ℕ) (texts left : List (List ℕ)) (r : Result X LineError) (new : List (List ℕ)) → first_word texts ≡ Ok (word, left) → Reads view (next word) left r new → Reads view (then_reads reads_word next) texts r new
read_behind view next word texts left (Ok x) new is told = rw is told
read_behind view next word texts left (Err (Faulty fault)) new is told = rw is told
read_behind view next word texts left (Err OutOfMemory) new is told = rw is told

-- a selector to a depth that isn't 0
pub read_deeper : {X : Type 0} (view : X → Named) (depth n : ℕ) (word : List ℕ) (texts left : List (List ℕ)) (r : Result X LineError) (new : List (List ℕ)) → depth ≡ suc n → first_word texts ≡ Ok (word, left) → Reads view (behind (selectors (kept (reads_selector n))) word) left r new → Reads view (reads_selector depth) texts r new
read_deeper {X} view depth n word texts left r new e is told =
    let read : Reads view (reads_selector (suc n)) texts r new = read_behind view (behind (selectors (kept (reads_selector n)))) word texts left r new is told in
    subst (λ d. Reads view (reads_selector d) texts r new) (sym e) read
