-- The names that most proofs cite, passed on from one place. Declares nothing.
pub use Rattle.std.proofs.Common.{◌^◌}
pub use Rattle.std.proofs.lemmas.Bool.{true≢false}
pub use Rattle.std.proofs.lemmas.Grind.{common_steps}
pub use Rattle.std.proofs.lemmas.List.Sorted.{IsPermutation-put_mid, IsPermutation-trans, list_any-IsPermutation, sum_by-IsPermutation}
pub use Rattle.std.specs.List.{sum_by}
pub use Rattle.std.specs.List.Sorted.{IsPermutation, IsSortedByKey}
pub use Rattle.std.specs.Prelude.{IsNone, slice_index_or}
pub use Rattle.tabled_carry.specs.Corners.{Around, Between}
pub use Rattle.tabled_carry.specs.Images.{Carries, CarriesAll, IsImage, KeepsPlaces, LeadsBack, Takes, alike, carried, carries, cells_in, image, images, old_place_passes, rectangles_inside}
pub use Rattle.tabled_grid.specs.Rectangles.{HasArea}
pub use Rattle.tabled_grid.proofs.Common.{[], ◌&&◌, ◌*◌, ◌++◌, ◌+◌, ◌-◌, ◌<◌, ◌==◌, ◌||◌, ◌∙◌, ◌∷◌, ◌≡◌, ◌≤◌, ◌⊎◌, AllByRecursion, AreAnchors, AreSorted, Bool, Equal, Fits, FitsAmong, Greater, IfSome, In, IsSpan, Less, LiesInside, List, None, Option, Ordering, Places, Some, SpanMap, T, add-one, and_from, and_parts, answers_always, ap, ap₂, arith, below_all, block, cases_Bool, cases_lt, cond, crosses_line, cut_places, drop, eq-eqb, eq_by_cmp, false, false_from_ne_true, filter, fits_among, fitting, flat_map, get, get_or, get_or-set_other, holds, inl, inr, is_crossed, is_lt, is_sorted, keep_fitting, le-leb, leb-true, length, length-append, length-set, lies_inside, line_of, list_all, list_any, ltb-true, map, map_of, max, meets, min, nat_eq, nat_lt, none-some, not, not_from_false, or_cases, or_left, or_right, ordering_reverse, pairs, place, position_cmp, range_with_len, rectangle, rectangles, refl, row_places, rules, same_Some, same_place, set, shifted, sized, subst, suc, sym, take, take_all, take_more, true, zero, ℕ}
pub use Rattle.tabled_grid.proofs.Fitting.{anchors-fitting, keep_fitting-all, keep_fitting-fits}
pub use Rattle.tabled_grid.proofs.Members.{Member, all-from, all-member, any-from, any-member, below-member, block-from, block-member, filter-from, filter-member, find-member, flat_map-from, flat_map-member, map-from, map-member, member-either, member-find, member-left, member-right, range-member, sorted-find}
pub use Rattle.tabled_grid.proofs.Rectangles.{holds-from, holds-true, meets-true}
pub use Rattle.tabled_grid.proofs.Order.{before-less, before_or_at, before_other}
pub use Rattle.tabled_grid.specs.Order.{IsBefore}
pub use Rattle.tabled_grid.proofs.ShiftedFits.{fits_below, fits_beside}
pub use Rattle.tabled_grid.proofs.SortedEntries.{Below, HasSize, find_at, get-from_rectangles, get-insert, get-map_of, get-rectangles, map_of-rectangles, rectangles-map_of, rectangles_anchors, rectangles_sorted, same_map, span_at}
pub use Rattle.tabled_grid.proofs.SpanMaps.{halves, same_place-self, same_place-true}
pub use Rattle.tabled_grid.proofs.Spans.{positions_exact, positions_total}
pub use Rattle.tabled_grid.specs.Spans.{empty, empty-is, from_rectangles}
pub use Rattle.tabled_grid.specs.declared.config.position.Position.{Position}
pub use Rattle.tabled_grid.specs.declared.config.rectangle.Rectangle.{Rectangle}
pub use Rattle.tabled_grid.specs.declared.config.size.Size.{Size}
pub use Rattle.tabled_grid.specs.declared.records.axis.Axis.TheVariants.{Columns, Rows}
pub use borrow.Author.Tests.{eqb-true}
