-- What is behind an element of a list.
use Rattle.std.specs.Prelude.{◌≡◌, ℕ, List, ◌∷◌, length}
use Rattle.tabled_json.specs.Space.{behind_space}
use Rattle.tabled_json.specs.declared.list.Behind.{Behind}
use Rattle.tabled_json.specs.declared.list.Behind.TheVariants.{Closed, Next}

-- the bytes from the next element on, behind a comma
pub record IsFurther (behind bytes : List ℕ) : Type 0 where
  pub next : List ℕ
  pub comma : behind_space behind ≡ 44 ∷ next
  pub is : bytes ≡ behind_space next

-- what is behind an element: the byte that closes the list, or a comma and the next element
abbrev pub BehindIs : ℕ → List ℕ → Behind → Type 0
BehindIs close behind (Closed after) = behind_space behind ≡ close ∷ after.now
BehindIs close behind (Next bytes) = IsFurther behind bytes.now

-- how many bytes are left behind it
abbrev pub behind_left : Behind → ℕ
behind_left (Closed after) = length after.now
behind_left (Next bytes) = length bytes.now
