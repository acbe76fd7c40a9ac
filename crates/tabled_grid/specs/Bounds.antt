-- The indexes that two bounds enclose.
use Rattle.std.specs.Prelude.{ℕ, ◌+◌, ◌-◌, ◌^◌, Bool, if◌then◌else◌, List, min}
use Rattle.std.specs.List.{range_with_len}
use Rattle.std.specs.declared.ops.Bound.{Bound}
use Rattle.std.specs.declared.ops.Bound.TheVariants.{Included, Excluded, Unbounded}

-- n + 1, cut at `usize::MAX`
abbrev pub next_index : ℕ → ℕ
next_index n = min (n + 1) (2 ^ 64 - 1)

-- the index at which a bound begins
abbrev pub first_index : Bound ℕ → ℕ
first_index (Included n) = n
first_index (Excluded n) = next_index n
first_index Unbounded = 0

-- the index past the last one that a bound lets in, `count` if unbounded
abbrev pub end_index : Bound ℕ → ℕ → ℕ
end_index (Included n) count = next_index n
end_index (Excluded n) count = n
end_index Unbounded count = count

-- the indexes between two bounds, below `count` if unbounded
abbrev pub indexes : (Bound ℕ × Bound ℕ) → ℕ → List ℕ
indexes bounds count = range_with_len (first_index bounds.0) (end_index bounds.1 count - first_index bounds.0)

-- the end of `..=n`, which is left out once the range was gone through
abbrev pub inclusive_end : ℕ → Bool → Bound ℕ
inclusive_end n exhausted = if exhausted then Excluded n else Included n
