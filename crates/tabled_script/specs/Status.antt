-- The statuses that the program ends with.
use Rattle.std.specs.Prelude.{◌≡◌, ◌⊎◌, ℕ}

-- a table was written
abbrev pub done : ℕ
done = 0

-- the arguments ask for nothing
abbrev pub refused : ℕ
refused = 1

-- a fault was told, or nothing was written since the table can't be written so
abbrev pub faulty : ℕ
faulty = 2

-- memory ran out, and that was told
abbrev pub out_of_memory : ℕ
out_of_memory = 3

-- reading or writing failed
abbrev pub failed : ℕ
failed = 4

-- a table was written, and something was told of what was checked
abbrev pub noted : ℕ
noted = 5

-- one of the statuses of a run
abbrev pub IsStatus : ℕ → Type 0
IsStatus status = (status ≡ done) ⊎ ((status ≡ faulty) ⊎ ((status ≡ out_of_memory) ⊎ (status ≡ failed)))

-- one of the statuses of an answer
abbrev pub IsAnswer : ℕ → Type 0
IsAnswer status = IsStatus status ⊎ (status ≡ noted)

-- a table was written
abbrev pub IsDone : ℕ → Type 0
IsDone status = (status ≡ done) ⊎ (status ≡ noted)
