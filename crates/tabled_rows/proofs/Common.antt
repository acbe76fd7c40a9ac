-- The names that most proofs cite, passed on from one place. Declares nothing.
pub use Rattle.std.proofs.Common.{Bor, Iter, map-id}
pub use Rattle.std.proofs.Math.Seq.{drop-append_seam}
pub use Rattle.std.proofs.lemmas.Grind.{common_steps}
pub use Rattle.std.proofs.lemmas.List.Elements.{All-drop}
pub use Rattle.std.specs.Global.{Global}
pub use Rattle.std.specs.Iterator.{Count, DrainsIf, HoldsAlong, IsFinite, Yields, YieldsFirstRef, at_most, count_min}
pub use Rattle.std.specs.Iterator.Adapters.{fuse_done, fuse_source, fuse_steps, repeat_n_count, repeat_n_item, repeat_n_steps, skip_count, skip_source, skip_steps, take_count, take_source, take_steps}
pub use Rattle.std.specs.List.{slice_get}
pub use Rattle.std.specs.Prelude.{ltb, replicate}
pub use Rattle.std.specs.Vec.{vec_len}
pub use Rattle.std.specs.Vec.Iter.{into_iter_len, into_iter_steps}
pub use Rattle.std.specs.declared.iter.Fuse.{Fuse}
pub use Rattle.std.specs.declared.iter.Skip.{Skip}
pub use Rattle.std.specs.declared.iter.Take.{Take}
pub use Rattle.std.specs.declared.vec.IntoIter.{IntoIter}
pub use Rattle.tabled_grid.proofs.Common.{[], ◌&&◌, ◌++◌, ◌+◌, ◌-◌, ◌<◌, ◌∙◌, ◌∷◌, ◌≡◌, ◌≤◌, All, All-from_recursion, All-nil, AllByRecursion, AllZip, Bool, List, None, Option, Some, Vec, ap, append-nil, ap₂, arith, drop, drop_all, drop_more, false, get_or, get_or_from_slice_get, inl, inr, into_iter_items, length, length-drop, map, map_items, map_push, nil_from_length, recursion_from_All, refl, rules, subst, suc, sym, take, true, zero, ℕ}
pub use Rattle.tabled_rows.specs.Gave.{EachSourceMayBeAsked, FollowsBuffer, Gave, HasCome, LimitsRow, SourceMayBeAsked}
pub use Rattle.tabled_rows.specs.Listed.{GivesEach, GoesOverEach}
pub use Rattle.tabled_rows.specs.Rows.{Shows, all_shown}
pub use Rattle.tabled_rows.specs.Steps.{BufferedWalk, Comes, GivesBuffered, GivesLimited, can_come, still_to_come}
pub use Rattle.tabled_rows.specs.declared.records.buf_records.BufIterator.{BufIterator}
pub use Rattle.tabled_rows.specs.declared.records.buf_records.BufIterator.TheVariants.{Buffered, Iterator}
