-- The names that most proofs cite, passed on from one place. Declares nothing.
pub use Rattle.std.proofs.Common.{◌^◌, append_assoc, encode_utf8, reverse, slice_index, slice_set}
pub use Rattle.std.proofs.lemmas.Bool.{cond_both, eqb-false, le-leb, lt-leb, ltb-true}
pub use Rattle.std.proofs.lemmas.Grind.{common_steps}
pub use Rattle.std.proofs.lemmas.List.{reverse-append}
pub use Rattle.std.proofs.lemmas.Str.{IsUtf8-past_char, chars-nil, chars_past_char}
pub use Rattle.std.specs.FinMap.{find}
pub use Rattle.std.specs.FinMap.Entries.{find-put}
pub use Rattle.std.specs.List.{concat, join_with_byte, slice_split}
pub use Rattle.std.specs.Prelude.{◌<ℤ◌, chars, encode_utf8_all, eqb, pos, ℤ}
pub use Rattle.std.specs.Str.{IsUtf8}
pub use Rattle.std.specs.Str.Iter.{chars_rest}
pub use Rattle.std.specs.String.{string_bytes}
pub use Rattle.tabled_grid.proofs.Common.{[], ◌&&◌, ◌++◌, ◌+◌, ◌-◌, ◌<◌, ◌==◌, ◌∙◌, ◌∷◌, ◌≡◌, ◌≢◌, ◌≤◌, ◌↔◌, ◌⊎◌, AllByRecursion, AreBlanks, AreSorted, Bool, Cover, Err, Fits, Grid, HasArea, In, IsBinarySearchResult, IsEmptyWithoutRows, IsEven, IsInside, IsSearchInRange, IsSpan, Less, LiesInside, List, MatchResult, Midway, None, Ok, Option, Ordering, Result, Some, SpanMap, T, WritesText, across, all-append, and_from, and_left, and_parts, ap, ap₂, arith, below_all, block, cases_Bool, cases_eq, cases_lt, cell_at, cond, cond-true, count_along, count_of, drop, drop_all, drop_hidden, eq_by_cmp, false, false_from_ne_true, false≢true, filter, flat_map, get, get_or, get_or-set_other, get_or-set_same, inl, inr, insert, inside, is_cell, is_crossed, is_eq, is_hidden, is_lt, is_sorted, is_sorted-put, is_span, is_visible, leb-true, length, length-replicate, length-set, line_of, list_all, lt-ltb, map, map_grid, names, nat_eq, nat_le, ne_eqb, nil_from_length, none-some, not, not-true, not_from_false, not_from_true, of_pairs, pairs, place, place_in, places_in, position_cmp, put, range_with_len, rectangle, rectangles, refl, remove, replicate, row_places, rules, same_Some, set, shifted, size_at, sized, subst, suc, sym, take, take_at, tied_itself, true, unwrap_or, with_cell, with_column, with_row, with_size, with_sizes, without_column, without_line, zero, zip, ℕ}
pub use Rattle.tabled_grid.proofs.Geometry.{cases_place}
pub use Rattle.tabled_grid.proofs.Merging.{column_span-is, fits_dropped, fits_with, flat_column_span, flat_dropped, fold-keeps, midway, midway_flat, midway_heightened, midway_narrow, midway_widened, narrow_dropped, narrow_row_span, row_span-is, within_high, within_wide}
pub use Rattle.tabled_grid.proofs.Order.{before-less, before_first, before_more, before_or_at, less-before}
pub use Rattle.tabled_grid.proofs.Places.{places_in-all}
pub use Rattle.tabled_grid.proofs.ShiftedFits.{came, fits_below, fits_beside, line_is_free}
pub use Rattle.tabled_grid.proofs.Shifts.{Comes, moves, stays}
pub use Rattle.tabled_grid.proofs.SortedEntries.{Below, below_at, both, find_at, get-insert, get-map_of, get-rectangles, get-remove, none_below, put_found, put_missed, rectangles_sorted, same_map, searchable, searched, span-from, span-true, span_at}
pub use Rattle.tabled_grid.proofs.Rectangles.{holds-from, holds-true}
pub use Rattle.tabled_grid.proofs.SpanMaps.{at, equal, found_above, halves, hidden-from, hidden_by, less, none, size_at-none, size_at-some, size_at-with_size-other, some, tied, untied, visible, with_size-other}
pub use Rattle.tabled_grid.proofs.Spans.{positions_exact, positions_total}
pub use Rattle.tabled_grid.specs.AddedLines.{InsertsLine}
pub use Rattle.tabled_grid.specs.Axis.{in_line, lines_in, resized, with_span}
pub use Rattle.tabled_grid.specs.Covers.{IsCoverOf}
pub use Rattle.tabled_grid.specs.Midway.{LieWithin}
pub use Rattle.tabled_grid.specs.Order.{IsBefore}
pub use Rattle.tabled_grid.specs.declared.config.entity.Entity.{Entity}
pub use Rattle.tabled_grid.specs.declared.config.position.Position.{Position}
pub use Rattle.tabled_grid.specs.declared.config.rectangle.Rectangle.{Rectangle}
pub use Rattle.tabled_grid.specs.declared.config.size.Size.{Size}
pub use Rattle.tabled_grid.specs.declared.records.axis.Axis.{Axis}
pub use Rattle.tabled_grid.specs.declared.records.axis.Axis.TheVariants.{Columns, Rows}
pub use Rattle.tabled_options.proofs.Common.{DoesFirstWrites, FirstWrites, OptionKeeps, Write, with_writes}
pub use Rattle.tabled_options.proofs.Results.{on_err}
pub use Rattle.tabled_select.proofs.Common.{append-nil, eq-eqb, get_or-replicate, if◌then◌else◌, inside-within, min}
pub use Rattle.tabled_spans.specs.Panels.{Panels, PutsIn, has_room, with_line_at, with_panel}
pub use Rattle.tabled_spans.specs.RunSteps.{AreInBlock, AreTails, IsBand, IsOfRun, IsTail, RunAt, RunsFrom, RunsOf, StandBelow}
pub use Rattle.tabled_spans.specs.Runs.{IsNamed, IsRun, Joins, MergesRuns, NamesNoNeighbours, further, is_free, size_of_run}
pub use Rattle.tabled_spans.specs.SpanSteps.{InReach, change_at}
pub use Rattle.tabled_spans.specs.Spanned.{IsFlat, Spans, SpansFirst, are_visible, back_of, emptying, grown, grown_at, grown_each, pull_writes, pull_writes_on, pulled, pulled_at, pulled_each, pulling, span_writes, spanned, stretch, taken, with_visible_span}
pub use Rattle.tabled_spans.specs.Widths.{AreParts, Begins, IsCut, IsCutLine, Placed, character_columns, columns_in, last_replaced, pieces, placed, shown}
pub use borrow.Author.Tests.{eqb-true}
