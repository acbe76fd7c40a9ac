-- The names that most proofs cite, passed on from one place. Declares nothing.
pub use Rattle.std.proofs.Common.{IfOk, IsNone, eq-eqb, ltb, of_calls, string_bytes}
pub use Rattle.std.proofs.Math.Nat.{mod-add-mod, mod-eq_of_lt, mod_self, zero-div, zero-mod}
pub use Rattle.std.proofs.lemmas.Bool.Decides.{nat_tests}
pub use Rattle.std.proofs.lemmas.Grind.{flat_map-append, fold-append}
pub use Rattle.std.proofs.lemmas.List.{ext_get_or, get_or_at, get_or_past}
pub use Rattle.std.proofs.lemmas.List.Edits.{Swapped, swapped_from_swap}
pub use Rattle.std.proofs.lemmas.List.FromFn.{get_or-map-range_with_len, sum_by-map-range_with_len_more}
pub use Rattle.std.proofs.lemmas.List.Kept.{AllPairs-from_increasing, IsStrictlyIncreasing-filter}
pub use Rattle.std.proofs.lemmas.Option.{slice_get_past, unwrap_or-slice_get}
pub use Rattle.std.proofs.lemmas.Result.{on_err_weaker}
pub use Rattle.std.proofs.lemmas.Simd.{map-map}
pub use Rattle.std.proofs.lemmas.Str.{encode_ascii}
pub use Rattle.std.specs.List.{take-map}
pub use Rattle.std.specs.List.Sorted.{IsStrictlyIncreasing}
pub use Rattle.std.specs.Str.Iter.{lines_steps}
pub use Rattle.std.specs.Str.Lines.{lines}
pub use Rattle.tabled_carry.proofs.Back.{carried_back}
pub use Rattle.tabled_carry.proofs.CarriedFits.{carried-fits, carried-none, carried-stays}
pub use Rattle.tabled_carry.proofs.Common.{Carries, HasArea, KeepsPlaces, LeadsBack, Takes, carried, sum_by}
pub use Rattle.tabled_carry.proofs.RectanglesCarried.{carries_one, takes_one}
pub use Rattle.tabled_grid.proofs.Across.{same_grid}
pub use Rattle.tabled_grid.proofs.AddedLines.{added_blank, added_even, added_kept, back_read, front_read}
pub use Rattle.tabled_grid.proofs.Common.{[], ◌&&◌, ◌*◌, ◌++◌, ◌+◌, ◌-◌, ◌/◌, ◌<◌, ◌==◌, ◌||◌, ◌∙◌, ◌∷◌, ◌≡◌, ◌≢◌, ◌≤◌, ◌⊎◌, AddsColumns, AddsRows, All-filter, All-from_recursion, AllByRecursion, Bool, Err, FillsThrough, Fits, Grid, IfSome, In, IsBinarySearchResult, IsEmptyWithoutRows, IsEven, IsInside, IsShapedAs, LiesInside, List, None, Ok, Option, Places, Result, Some, SpanMap, WritesText, across, add-one, all-append, and_parts, ap, append_assoc, ap₂, arith, block, cases_Bool, cases_eq, cases_lt, cell_at, common_steps, cond, count_along, count_by, count_of, cut_places, div-add-mod', div_below, div_ceil, eqb, eqb-true, false, false≢true, filter, filter-append, first_along, flat_map, get_or, get_or-set_other, get_or-set_same, get_or-take, get_or_default, grid_of, inl, inr, inside, into_iter_items, joined, keep_fitting, le-ltb, length, length-append, length-map, length-take-le, length_push, line_of, list_all, list_any, ltb-false, map, map-append, map-id, map-swap, map_grid, max, mod_below, names, nat_cmp, nat_lt, ne_eqb, nil_from_length, none-some, not, nth_piece, option_map, piece_index, place, place_in, range_with_len, rectangle, recursion_from_All, refl, replicate, row_fits, rules, same_Some, set, set-get_or, sized, slice_get, slice_get-get_or, subst, suc, swap, sym, take, take_all, transposed, transposed_rows, true, unwrap_or, with_cell, with_cells_swapped, zero, ℕ}
pub use Rattle.tabled_grid.specs.declared.config.rectangle.Rectangle.{Rectangle}
pub use Rattle.tabled_grid.proofs.FirstLines.{IsEven-first, either_way}
pub use Rattle.tabled_grid.proofs.Grids.{IsEven-map_grid, IsEven-with_cell, cell_at-map_grid, cell_at-map_grid_some, cell_at-with_cell_other, cell_at-with_cell_same}
pub use Rattle.tabled_grid.proofs.PiecePlaces.{across_is, fills_cut, line_is}
pub use Rattle.tabled_grid.proofs.PiecesCut.{ComesFrom, IsCut, enough_pieces, some_pieces}
pub use Rattle.tabled_grid.proofs.PiecesPut.{inside_of, piece_line, same_count, same_shape, shape_after, source}
pub use Rattle.tabled_grid.proofs.Places.{inside-Column, inside-Row, inside-no_cell, inside-no_column, inside-no_row, places}
pub use Rattle.tabled_grid.proofs.Resized.{IsEven-with_cells_swapped, IsEven-with_columns_swapped, IsEven-with_rows_swapped}
pub use Rattle.tabled_grid.proofs.Transposed.{slice_get-some, slice_get-take}
pub use Rattle.tabled_grid.proofs.SortedEntries.{span_at}
pub use Rattle.tabled_grid.specs.Along.{along}
pub use Rattle.tabled_grid.specs.Bounds.{end_index, first_index}
pub use Rattle.tabled_grid.specs.Places.{ReadsThrough}
pub use Rattle.tabled_grid.specs.declared.config.entity.Entity.{Entity}
pub use Rattle.tabled_grid.specs.declared.config.entity.Entity.TheVariants.{Cell, Column, Global, Row}
pub use Rattle.tabled_grid.specs.declared.config.offset.Offset.{Offset}
pub use Rattle.tabled_grid.specs.declared.config.position.Position.{Position}
pub use Rattle.tabled_grid.specs.declared.config.size.Size.{Size}
pub use Rattle.tabled_grid.specs.declared.records.axis.Axis.{Axis}
pub use Rattle.tabled_grid.specs.declared.records.axis.Axis.TheVariants.{Columns, Rows}
pub use Rattle.tabled_grid.specs.declared.records.piece_order.PieceOrder.{PieceOrder}
pub use Rattle.tabled_grid.specs.declared.records.piece_order.PieceOrder.TheVariants.{Concat, Zip}
pub use Rattle.tabled_options.proofs.Common.{FirstWrites, OptionKeeps, Same, Write, with_writes}
pub use Rattle.tabled_options.proofs.Shapes.{fits_kept, shape_texts, writes_keep}
pub use Rattle.tabled_options.proofs.Writes.{some-first, some-later, some-next, some-none, writes-append}
pub use Rattle.tabled_select.proofs.Common.{◌%◌, AlwaysYields, FoldsTo, IfOk-weaker, TellsLocated, append-nil, if◌then◌else◌, inside-Cell, inside-Global, inside-within, lt-ltb, min, text_at}
pub use Rattle.tabled_settings.specs.Charsets.{IsCleanByte, byte_stays, charset_writes, clean_text, is_set, mapped_writes, recoded, replaced, with_tabs}
pub use Rattle.tabled_settings.specs.Contents.{AnswersContent, Asked, AskedAt, AskedByLine, AskedInTurn, joined_lines}
pub use Rattle.tabled_settings.specs.Dups.{Duplicates, DuplicatesFirst, dup_writes, round_from, round_writes, rounds, source_texts}
pub use Rattle.tabled_settings.specs.Joined.{FillsTo, GrowsTo, HasBlank, JoinsAt, JoinsTables, as_texts, corner_of, joined_places, text_of_joint, text_put}
pub use Rattle.tabled_settings.specs.Lines.{BringsLines, HasLines, KeepsLines, ReversesEnds, ReversesLines, indexes_in, is_marked, line_cells}
pub use Rattle.tabled_settings.specs.PiecePlaces.{Splits, SplitsTable, glue_rows, glued, glued_line, same_places, shown_lines, split_places, staying_pieces, texts_along, thinned}
pub use Rattle.tabled_settings.specs.PieceTexts.{has_text}
pub use Rattle.tabled_settings.specs.Pieces.{clean_split, cut_rows, has_pieces, is_text, oriented, piece, piece_at, split, staying, stays, stays_at}
pub use Rattle.tabled_settings.specs.Rearranged.{Rearranges, Removes, ReversesTable, carried_if, columns_if, count_in, extracted, half_rotated, kept_lines, left_over, limit_end, lines_from, part, quarter_of, removed, reversed, reversed_index, reverses, rotated, upside_down}
pub use Rattle.tabled_settings.specs.Rewrites.{AnswersInTurn, Asking, Rewrites, RewritesAt, RewritesBefore, RewritesUntil}
pub use Rattle.tabled_settings.specs.TakenOnce.{IsTakenOnce}
pub use Rattle.tabled_settings.specs.Wraps.{wrap_writes}
pub use Rattle.tabled_width.specs.Wraps.{wrapped}
pub use Rattle.tabled_settings.specs.declared.rotate.Rotate.{Rotate}
pub use Rattle.tabled_settings.specs.declared.rotate.Rotate.TheVariants.{Bottom, Left, Right, Top}
pub use Rattle.tabled_settings.specs.declared.split.Display.{Display}
pub use Rattle.tabled_settings.specs.declared.split.Display.TheVariants.{Clean, Retain}
pub use Rattle.tabled_settings.specs.declared.split.Split.{Split}
pub use Rattle.tabled_spans.proofs.Common.{chars_rest, encode_utf8, in_line, le-leb, ltb-true}
pub use Rattle.tabled_table.proofs.Common.{String, at-transposed, fill_by_all, get_or-map, get_or-range_with_len, length-map-range_with_len, length-range_with_len, length-transposed, on_err, on_ok_weaker, same_rows, wide-transposed}
pub use mathlib.Core.Bool.{true≢false}
