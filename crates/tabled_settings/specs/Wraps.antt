-- Texts wrapped.
use Rattle.std.specs.Prelude.{ℕ, Bool, List}
use Rattle.tabled_grid.specs.Entity.{inside}
use Rattle.tabled_grid.specs.Grid.{Grid}
use Rattle.tabled_grid.specs.declared.config.entity.Entity.{Entity}
use Rattle.tabled_options.specs.Writes.{Write}
use Rattle.tabled_settings.specs.Charsets.{mapped_writes}
use Rattle.tabled_width.specs.Wraps.{wrapped}

-- the writes of a wrap on an entity
abbrev pub wrap_writes : ℕ × Bool → Entity → Grid (List ℕ) → List Write
wrap_writes s e g = mapped_writes (wrapped s) g (inside e g.rows g.columns)
