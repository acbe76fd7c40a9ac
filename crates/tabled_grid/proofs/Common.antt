-- The names that most proofs cite, passed on from one place. Declares nothing.
pub use Rattle.std.proofs.Common.{[], ◌*◌, ◌++◌, ◌+◌, ◌-◌, ◌/◌, ◌<◌, ◌∙◌, ◌∷◌, ◌≡◌, ◌≢◌, ◌≤◌, ◌⊎◌, Bool, Err, Global, IsPermutation, List, None, Ok, Option, Result, Some, add-one, ap, ap₂, arith, cond, drop, eqb, false, get_or, if◌then◌else◌, inl, inr, length, map, max, min, refl, replicate, rules, set, subst, suc, sym, take, true, vec_capacity, vec_len, zero, ℕ}
pub use Rattle.std.proofs.Math.ListN.{drop_of_length-le, get_or-map}
pub use Rattle.std.proofs.Math.Nat.{add-mul, div-le_self, mod-le, mul-le-mul_right, sub_self}
pub use Rattle.std.proofs.Math.Seq.{drop-cons, take-add, take-append-add}
pub use Rattle.std.proofs.lemmas.Bool.{and_from, and_left, and_parts, and_right, cases_Bool, cases_eq, cases_lt, cond-false, cond-true, eqb-true, false_from_ne_true, false≢true, le-ltb, ltb-false, ne_eqb, not-true, not_from_false, not_from_true, or_cases, or_left, or_right}
pub use Rattle.std.proofs.lemmas.Cmp.{nat_cmp_total, on_total, ranked, then_total, tied_itself}
pub use Rattle.std.proofs.lemmas.Grind.{common_steps, div_ceil_times, drop_more_same}
pub use Rattle.std.proofs.lemmas.List.{append-nil, append_assoc, drop-drop, drop-set-lt, drop_all, drop_at, drop_more, get_or-append_right, get_or-drop, get_or-set_other, get_or-set_same, get_or-take, get_or_append_left, get_or_default, length-append, length-drop, length-map, length-replicate, length-set, length-take, length-take-le, length_push, map-append, map-id, map-set, map_more, map_push, nil_from_length, replicate-append-replicate, set-append_left, set-append_right, set-get_or, set-set, set_at, set_comm, set_split, take-append-drop, take-map, take-replicate, take-take, take_all, take_at, take_more, take_more_set, with_items_is}
pub use Rattle.std.proofs.lemmas.List.Edits.{insert_end, length-insert, length-remove, length-swap, map_over_more, swap_is}
pub use Rattle.std.proofs.lemmas.List.Elements.{All-append, All-filter, All-from_recursion, All-map, All-nil, AllWithin-more_set, filter-append, filter_agree, filter_from_retain, filter_more, recursion_from_All}
pub use Rattle.std.proofs.lemmas.List.Sorted.{All-permutation, IsPermutation-append_comm, IsPermutation-refl, answers_always, length_permutation, searchable_from_sorted}
pub use Rattle.std.proofs.lemmas.Nat.{div-add-mod', div_below, mod_below, mul-add-lt, row_fits, same_from_place}
pub use Rattle.std.proofs.lemmas.Option.{get_or_from_slice_get, none-some, same_Some, slice_get-get_or, slice_get-map, slice_get_cases, slice_get_read}
pub use Rattle.std.proofs.lemmas.Slice.Zip.{AllZip-map, length-zip}
pub use Rattle.std.specs.Bool.{Decides}
pub use Rattle.std.specs.Cmp.{IsTotalOrder, alike_right, both_ways, eq_by_cmp_equiv}
pub use Rattle.std.specs.FinMap.{FinMap, IsAntisymmetric, entries, entries-from_sorted, entries_sorted, find, from_sorted, get-entries, get-from_sorted, is_sorted}
pub use Rattle.std.specs.FinMap.Entries.{below_all, by_order, find-put, find-where_key, is_sorted-put, is_sorted-where_key, put, where_key}
pub use Rattle.std.specs.Global.{Vec}
pub use Rattle.std.specs.Int.{div_ceil}
pub use Rattle.std.specs.List.{All, AllByRecursion, AllWithin, AllZip, HoldsAt, count_by, filter, flat_map, fold, insert, list_all, list_any, range_with_len, remove, swap, zip}
pub use Rattle.std.specs.List.Sorted.{IsBinarySearchResult, IsNonDecreasingBy, IsSearchInRange}
pub use Rattle.std.specs.Option.{IfSome, is_some, option_map, unwrap_or}
pub use Rattle.std.specs.Ordering.{MatchOrdering, eq_by_cmp, is_eq, is_lt, nat_cmp, ordering_index, ordering_reverse, ordering_then}
pub use Rattle.std.specs.Prelude.{◌%◌, ◌&&◌, ◌==◌, ◌^◌, ◌||◌, ◌↔◌, MatchResult, T, nat_eq, nat_le, nat_lt, not, slice_get}
pub use Rattle.std.specs.Vec.{with_item, with_items}
pub use Rattle.std.specs.Vec.Iter.{into_iter_items}
pub use Rattle.std.specs.declared.cmp.Ordering.{Ordering}
pub use Rattle.std.specs.declared.cmp.Ordering.TheVariants.{Equal, Greater, Less}
pub use Rattle.tabled_grid.proofs.Lists.{all-append, all-drop, all-insert, all-map, all-remove, all-set, all-swap, all-take, all-zip, all-zip-map, map-insert, map-remove, map-swap}
pub use Rattle.tabled_grid.proofs.RowByRow.{Changed, changed_all, changed_more, changed_next, first_left, same_cells, same_lens}
pub use Rattle.tabled_grid.specs.AddedLines.{AddsLines}
pub use Rattle.tabled_grid.specs.Along.{count_along, first_along, without_line}
pub use Rattle.tabled_grid.specs.Anchors.{anchor_of, dropped, elsewhere, is_hidden_in, is_past, marked, unless_held, with_size_in, with_sizes_in, without_first_at}
pub use Rattle.tabled_grid.specs.Axis.{across, count_of, line_of, lines_in, next_line, place_in}
pub use Rattle.tabled_grid.specs.Bulk.{AddsColumns, AddsRows, Exchanges, cell_in, transposed, transposed_rows, turned_places, with_items_behind}
pub use Rattle.tabled_grid.specs.CellCounts.{CountsBlock, IsFew, IsMany, counts_of}
pub use Rattle.tabled_grid.specs.Covers.{Cover, IsCoverOf, IsNumbered, Stepped, Steps, area, beyond, hider_counts, hiders_in, hiders_of, hides, in_run, table}
pub use Rattle.tabled_grid.specs.Entity.{block, column_named, inside, lines_named, names, place, places_in, row_named, row_places, same_place}
pub use Rattle.tabled_grid.proofs.Evenness.{is_even}
pub use Rattle.tabled_grid.specs.Evenness.{AreWide, length-chunks, no_columns, wide-chunks}
pub use Rattle.tabled_grid.specs.Fitting.{AreApart, Fits, FitsAmong, all_fit, fits_among, fitting, keep_fitting, with_met}
pub use Rattle.tabled_grid.specs.Flat.{IsFull, chunks, flat_grid, joined}
pub use Rattle.tabled_grid.specs.Grid.{Grid, IsEmptyWithoutRows, IsEven, IsInside, WritesText, cell_at, grid_of, map_grid, map_items, width_of, with_cell}
pub use Rattle.tabled_grid.specs.Hidden.{drop_hidden, is_hidden, is_visible}
pub use Rattle.tabled_grid.specs.Midway.{Midway}
pub use Rattle.tabled_grid.specs.Moves.{AddsBlanks, InsertsBlanks, PutsBlanks, Slid, SlidBack, with_runs_swapped}
pub use Rattle.tabled_grid.specs.Order.{IsBefore, IsFrom}
pub use Rattle.tabled_grid.specs.Pieces.{IsPiece, cut_places, index_in_line, nth_piece, piece_index}
pub use Rattle.tabled_grid.specs.Places.{FillsThrough, IsShapedAs, Places, TakesOnce, Within}
pub use Rattle.tabled_grid.specs.Rectangles.{HasArea, In, LiesInside, Meets, holds, lies_inside, meets, reaches_across, reaches_down}
pub use Rattle.tabled_grid.specs.Resized.{AreBlanks, InsertsBlank, InsertsColumn, InsertsRow, with_cell_if, with_cells_swapped, with_column, with_columns_swapped, with_row, with_rows_swapped, without_column, without_row}
pub use Rattle.tabled_grid.specs.Shifts.{crosses_line, is_crossed, shifted, shifted_in, shifted_place}
pub use Rattle.tabled_grid.specs.Spans.{AreAnchors, AreSorted, IsSpan, SpanMap, anchors-spans_of, get, have_spans, is_cell, is_span, map_of, of_pairs, pairs, position_cmp, rectangle, rectangles, same_spans, size_at, sized, with_column_span, with_row_span, with_size, with_sizes}
pub use Rattle.tabled_grid.specs.declared.config.position.Position.{Position}
pub use Rattle.tabled_grid.specs.declared.config.rectangle.Rectangle.{Rectangle}
pub use Rattle.tabled_grid.specs.declared.config.size.Size.{Size}
pub use Rattle.tabled_grid.specs.declared.records.axis.Axis.{Axis}
pub use Rattle.tabled_grid.specs.declared.records.axis.Axis.TheVariants.{Columns, Rows}
pub use Rattle.tabled_grid.specs.declared.records.piece_order.PieceOrder.{PieceOrder}
pub use Rattle.tabled_grid.specs.declared.records.piece_order.PieceOrder.TheVariants.{Concat, Zip}
pub use borrow.Author.Tests.{eq-eqb, le-leb, leb-true, lt-ltb, ltb-true}
