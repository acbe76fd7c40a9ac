-- The lines of bytes.
use Rattle.std.specs.Prelude.{◌+◌, ◌-◌, ◌==◌, ℕ, List, length, take}
use Rattle.std.specs.List.{count_by}

-- in which line of bytes, counted from 1, so many of them are left
abbrev pub line_at : List ℕ → ℕ → ℕ
line_at bytes left = 1 + count_by (λ b. b == 10) (take (length bytes - left) bytes)
