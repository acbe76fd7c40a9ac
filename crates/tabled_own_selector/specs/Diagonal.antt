-- The diagonal of a table.
use Rattle.std.specs.List.{range_with_len}
use Rattle.std.specs.Prelude.{ℕ, ◌-◌, List, map}
use Rattle.tabled_grid.specs.declared.config.entity.Entity.{Entity}
use Rattle.tabled_grid.specs.declared.config.entity.Entity.TheVariants.{Cell}

-- the cells whose row and column have one index, from one index up to another
abbrev pub diagonal : ℕ → ℕ → List Entity
diagonal start end = map (λ i. Cell i i) (range_with_len start (end - start))
