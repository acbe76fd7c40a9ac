-- Lines that may stand anywhere.
use Rattle.tabled_language.proofs.Common.{[], ◌∷◌, ◌≡◌, EmptyLine, FaultyLine, Line, List, RecordLine, ShapeLine, SpanLine, StepLine, is_in_place, may_follow, refl, true}

-- a line says no shape, no record and no span
abbrev pub IsLoose : Line → Type 0
IsLoose (ShapeLine read) = ⊥
IsLoose (RecordLine texts) = ⊥
IsLoose (SpanLine read) = ⊥
IsLoose line = Unit {0}

loose_follows : (line before : Line) → IsLoose line → may_follow line before ≡ true
loose_follows EmptyLine before loose = refl
loose_follows (StepLine step) before loose = refl
loose_follows (FaultyLine fault) before loose = refl
loose_follows (ShapeLine shape) before loose = absurd loose
loose_follows (RecordLine row) before loose = absurd loose
loose_follows (SpanLine anchor) before loose = absurd loose

pub loose_place : (line : Line) (lines : List Line) → IsLoose line → is_in_place lines line ≡ true
loose_place line [] loose = refl
loose_place line (before ∷ lines) loose = rw (loose_follows line before loose) (loose_place line lines loose)
