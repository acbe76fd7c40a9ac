-- The names that most proofs cite, passed on from one place. Declares nothing.
pub use Rattle.std.proofs.Common.{◌%◌, append-nil, mul_comm, option_to_list}
pub use Rattle.std.proofs.Math.Nat.{div-eq_of_lt, div-mul-le_self, mul-mod_left}
pub use Rattle.std.proofs.iter.Yields.{gives_left, nat_range_steps}
pub use Rattle.std.proofs.lemmas.Bool.{eq-eqb, lt-ltb}
pub use Rattle.std.proofs.lemmas.Grind.{common_steps}
pub use Rattle.std.proofs.lemmas.Iterator.{YieldsList-from_range, items_from_collect, items_from_drains}
pub use Rattle.std.proofs.lemmas.Iterator.Adapters.{YieldsList-from_skip, YieldsList-from_vec}
pub use Rattle.std.proofs.lemmas.List.{get_or-replicate}
pub use Rattle.std.proofs.lemmas.Nat.{le-div, mod-mul-add}
pub use Rattle.std.proofs.lemmas.Result.{IfOk-weaker}
pub use Rattle.std.specs.Fn.{FnReturnsAt, FnReturnsAtPair}
pub use Rattle.std.specs.Iterator.{AlwaysYields, Count, IsFinite, MakesProgress, at_most, size}
pub use Rattle.std.specs.List.{FoldsTo, enumerate_from, items_where_true}
pub use Rattle.std.specs.Prelude.{IfNone, IfSome, OnSome, Some, if◌then◌else◌, min, replicate}
pub use Rattle.std.specs.Vec.Iter.{into_iter_len, into_iter_steps}
pub use Rattle.tabled_grid.proofs.Common.{[], ◌&&◌, ◌*◌, ◌++◌, ◌+◌, ◌-◌, ◌/◌, ◌<◌, ◌==◌, ◌||◌, ◌∙◌, ◌∷◌, ◌≡◌, ◌≤◌, AllByRecursion, Bool, Less, List, None, Option, Vec, all-append, ap, append_assoc, ap₂, arith, block, cases_eq, cases_lt, cond, drop, eqb-true, false, filter, filter_agree, get_or, get_or-set_other, get_or-set_same, inl, inr, inside, into_iter_items, is_lt, le-ltb, length, length-map, length-replicate, length-set, list_any, map, map-id, map_grid, mul-add-lt, names, nat_cmp, ne_eqb, not, place, range_with_len, refl, rules, same_from_place, same_place, set, sub_self, subst, suc, sym, true, unwrap_or, zero, ℕ}
pub use Rattle.tabled_grid.proofs.Places.{block-no_columns, block-no_rows, drop-place, drop-row, inside-Cell, inside-Global, inside-within, last_in_row}
pub use Rattle.tabled_grid.specs.declared.config.entity.Entity.{Entity}
pub use Rattle.tabled_grid.specs.declared.config.entity.Entity.TheVariants.{Cell, Column, Global}
pub use Rattle.tabled_grid.specs.declared.config.position.Position.{Position}
pub use Rattle.tabled_select.proofs.Shown.{GivesAll-rest, shown_are_given}
pub use Rattle.tabled_select.specs.Algebra.{cells_of, difference_of, firsts, flat, intersection_of, inversion_of, is_among, sifted}
pub use Rattle.tabled_select.specs.Located.{AllOrThose, GivesAll, TellsLocated, is_located}
pub use Rattle.tabled_select.specs.Locators.{HeldLast, HoldsNext, text_at, text_is}
pub use Rattle.tabled_select.specs.Marks.{HasRoom, Marks, MarksAll, SetsMark, has, mark_at, mark_index, passes}
pub use Rattle.tabled_select.specs.Selectors.{columns_of, frame, on_edge}
pub use Rattle.tabled_select.specs.Sets.{all_marks, covers, few_marks, marks_of}
pub use Rattle.tabled_select.specs.Steps.{Filters, every}
pub use Rattle.tabled_select.specs.Walks.{FrameWalk, Hops, HopsIfAny, HopsOver, Sector, frame_left, hops_left, sector_left}
