-- What closures answer to texts.
use Rattle.std.specs.Prelude.{◌≡◌, ℕ, Bool, true, false, List, [], ◌∷◌, ◌++◌, Result, Ok, String, string_bytes}
use Rattle.std.specs.Borrow.{Bor}
use Rattle.std.specs.Global.{Global}
use Rattle.std.specs.List.{flat_map}
use Rattle.std.specs.Str.Lines.{lines}
use Rattle.std.specs.declared.alloc.AllocError.{AllocError}
use Rattle.tabled_grid.specs.declared.config.position.Position.{Position}
use Rattle.tabled_settings.specs.Rewrites.{Asking}

-- a closure that was asked for a text answered another one, and became another closure
abbrev pub Asked : {F : Type 0} → (F → Global → Bor (List ℕ) → Result (String Global) AllocError → F → Type 0) → F → List ℕ → List ℕ → F → Type 0
Asked step f old new next = (alloc : Global) × (shown : Bor (List ℕ)) × (text : String Global) × (shown.now ≡ old) × step f alloc shown (Ok text) next × (new ≡ string_bytes text)

-- a closure that was asked for a place and its text answered another text, and became another closure
abbrev pub AskedAt : {F : Type 0} → (F → Global → Bor (List ℕ) → Position → Result (String Global) AllocError → F → Type 0) → Asking F
AskedAt step f p old new next = (alloc : Global) × (shown : Bor (List ℕ)) × (text : String Global) × (shown.now ≡ old) × step f alloc shown p (Ok text) next × (new ≡ string_bytes text)

-- texts with a newline between each two
abbrev pub joined_lines : List (List ℕ) → List ℕ
joined_lines [] = []
joined_lines (text ∷ texts) = text ++ flat_map (λ more. 10 ∷ more) texts

-- a closure that was asked for one text after another gave these answers, and became another closure
abbrev pub AskedInTurn : {F : Type 0} → (F → List ℕ → List ℕ → F → Type 0) → F → List (List ℕ) → List (List ℕ) → F → Type 0
AskedInTurn asked f [] answers last = (answers ≡ []) × (last ≡ f)
AskedInTurn {F} asked f (text ∷ texts) answers last = (answer : List ℕ) × (next : F) × (rest : List (List ℕ)) × asked f text answer next × AskedInTurn asked next texts rest last × (answers ≡ answer ∷ rest)

-- a closure that was asked for one line of a text after another gave these answers, joined
abbrev pub AskedByLine : {F : Type 0} → (F → List ℕ → List ℕ → F → Type 0) → F → List ℕ → List ℕ → Type 0
AskedByLine {F} asked f old new = (answers : List (List ℕ)) × (last : F) × AskedInTurn asked f (lines old) answers last × (new ≡ joined_lines answers)

-- what a closure answers to a text; or line by line to its lines, where a copy is asked and the closure stays as it was
abbrev pub AnswersAs : {F : Type 0} → (F → List ℕ → List ℕ → F → Type 0) → Bool → F → List ℕ → List ℕ → F → Type 0
AnswersAs asked false f old new next = asked f old new next
AnswersAs asked true f old new next = AskedByLine asked f old new × (next ≡ f)

-- what a closure answers that stands beside whether it is asked line by line, which stays
abbrev pub AnswersContent : {F : Type 0} → (F → List ℕ → List ℕ → F → Type 0) → Asking (F × Bool)
AnswersContent asked s p old new t = (t.1 ≡ s.1) × AnswersAs asked s.1 s.0 old new t.0

-- each copy of a closure is the closure
abbrev pub CopiesAre : {F : Type 0} → (F → F → Type 0) → F → Type 0
CopiesAre {F} is_clone f = (copy : F) → is_clone f copy → copy ≡ f
