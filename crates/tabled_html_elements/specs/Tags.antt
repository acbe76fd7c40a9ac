-- What is read of a tag, from state to state.
use Rattle.std.specs.Borrow.{Bor}
use Rattle.std.specs.Prelude.{◌≡◌, ◌∷◌, ℕ, List, MatchResult, [], Option, Result}
use Rattle.tabled_html_reading.specs.Elements.{Attribute}
use Rattle.tabled_html_reading.specs.Tokenizing.{State, Tag, Token, emit, tokens_from}
use Rattle.tabled_html_reading.specs.Tokenizing.State.{BeforeAttributeName, Data}
use Rattle.tabled_html_reading.specs.Tokenizing.Token.{Marked}
use Rattle.tabled_html_elements.specs.Reading.{HaveNone}
use Rattle.tabled_html_elements.specs.declared.fault.ReadError.{ReadError}

-- from each of some states reading leads to another: the tokens of bytes are those of the bytes that are left, from there on;
-- where bytes are no table, there are none
abbrev pub Leads : {A : Type 0} → Result (Bor (List ℕ)) ReadError → List ℕ → (A → State) → (A → State) → Type 0
Leads {A} result bytes from to = MatchResult result
    (λ after. (x : A) → tokens_from bytes (from x) ≡ tokens_from after.now (to x))
    (λ e. (x : A) → HaveNone bytes (from x) e)

-- the same of the states of each tag and each name of its next attribute
abbrev pub LeadsNamed : Result (Bor (List ℕ)) ReadError → List ℕ → (Tag → List ℕ → State) → (Tag → List ℕ → State) → Type 0
LeadsNamed result bytes from to = MatchResult result
    (λ after. (t : Tag) (name : List ℕ) → tokens_from bytes (from t name) ≡ tokens_from after.now (to t name))
    (λ e. (t : Tag) (name : List ℕ) → HaveNone bytes (from t name) e)

-- the tokens of bytes in a tag, before an attribute
abbrev pub in_tag : List ℕ → Tag → Option (List Token)
in_tag bytes t = tokens_from bytes (BeforeAttributeName t)

-- a tag, and the tokens of the bytes behind it
abbrev pub behind_tag : List ℕ → Tag → Option (List Token)
behind_tag bytes t = emit (Marked t ∷ []) (tokens_from bytes Data)

-- from a state of each tag with the old attributes on, the tokens of bytes are what the bytes that are left have of that tag
-- with the new attributes; where bytes are no table, there are none
abbrev pub AddsAttributes : Result (Bor (List ℕ)) ReadError → List ℕ → List Attribute → List Attribute
    → (Tag → State) → (List ℕ → Tag → Option (List Token)) → Type 0
AddsAttributes result bytes old new from rest = MatchResult result
    (λ after. (t : Tag) → t.attributes ≡ old → tokens_from bytes (from t) ≡ rest after.now (record t { attributes = new }))
    (λ e. (t : Tag) → t.attributes ≡ old → HaveNone bytes (from t) e)
