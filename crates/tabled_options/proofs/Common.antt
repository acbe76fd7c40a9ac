-- The names that most proofs cite, passed on from one place. Declares nothing.
pub use Rattle.std.proofs.lemmas.Grind.{common_steps}
pub use Rattle.std.proofs.lemmas.List.{take-append-le}
pub use Rattle.std.specs.List.{slice_get}
pub use Rattle.tabled_grid.proofs.Common.{[], ◌++◌, ◌+◌, ◌<◌, ◌∙◌, ◌∷◌, ◌≡◌, All-from_recursion, AllByRecursion, AllZip, Bool, Err, Fits, Grid, List, None, Ok, Option, Result, Some, SpanMap, ap, arith, drop, drop_more, false, get_or_from_slice_get, inl, inr, inside, into_iter_items, length, length-append, map_grid, place, refl, rules, subst, suc, sym, take, take-append-add, true, with_cell, zero, ℕ}
pub use Rattle.tabled_grid.specs.declared.config.entity.Entity.{Entity}
pub use Rattle.tabled_options.specs.Does.{Change, CopiesAlike, Each, EachListed, EachListedUntil, EachUntil, Keeps, NeverRefused, OptionKeeps, Same, SameOr, Then, ThenLeaves}
pub use Rattle.tabled_options.specs.Hints.{Covers, IsCombined, names_all_of}
pub use Rattle.tabled_options.specs.Writes.{DoesFirstWrites, DoesWrites, FirstWrites, Write, at_each, text_writes, with_writes}
pub use Rattle.tabled_select.proofs.Common.{AlwaysYields, if◌then◌else◌, inside-within}
