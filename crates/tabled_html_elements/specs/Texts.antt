-- What is read of a text, up to the next tag.
use Rattle.std.specs.Prelude.{◌≡◌, ◌++◌, ◌∷◌, ℕ, List, MatchOption, MatchResult, [], None, Option, Result, Some}
use Rattle.tabled_html_reading.specs.Tokenizing.{State, Tag, Token, characters, emit, tokens_from}
use Rattle.tabled_html_reading.specs.Tokenizing.Token.{Marked}
use Rattle.tabled_html_elements.specs.Reading.{IfFaulty}
use Rattle.tabled_html_elements.specs.declared.fault.ReadError.{ReadError}

-- a text, and behind it the tokens of bytes from a state on
abbrev pub behind_text : List ℕ → List ℕ → State → Option (List Token)
behind_text text bytes s = emit (characters text) (tokens_from bytes s)

-- the tokens of a text and of a tag behind it
abbrev pub text_and_tag : List ℕ → Tag → List Token
text_and_tag text t = characters text ++ (Marked t ∷ [])

-- all that was to be read is a text alone, or what a value leaves to be read; where bytes are no table, it is none
abbrev pub ReadsText : {T : Type 0} → Result (Option T) ReadError → Option (List Token) → List ℕ → (T → Option (List Token)) → Type 0
ReadsText result whole text rest = MatchResult result
    (λ next. MatchOption next (whole ≡ Some (characters text)) (λ r. whole ≡ rest r))
    (λ e. IfFaulty e (whole ≡ None))
