-- The names that most proofs cite, passed on from one place. Declares nothing.
pub use Rattle.std.proofs.Common.{length-append, pos, w64, ℤ}
pub use Rattle.std.proofs.Math.Nat.{mod-eq-sub-div-mul, mod-lt, suc-mul}
pub use Rattle.std.proofs.lemmas.Bool.{leb-true}
pub use Rattle.std.proofs.lemmas.List.{drop-map}
pub use Rattle.std.proofs.lemmas.Result.{IfErr-weaker}
pub use Rattle.std.specs.Option.{option_and_then, option_eq}
pub use Rattle.std.specs.declared.ops.Bound.TheVariants.{Excluded, Included}
pub use Rattle.std.specs.declared.ops.Range.{Range}
pub use Rattle.tabled_carry.proofs.Common.{◌^◌, same_map}
pub use Rattle.tabled_grid.proofs.Common.{[], ◌&&◌, ◌*◌, ◌++◌, ◌+◌, ◌-◌, ◌/◌, ◌<◌, ◌∙◌, ◌∷◌, ◌≡◌, ◌≤◌, ◌⊎◌, All-from_recursion, AllByRecursion, Bool, Fits, Grid, IfSome, IsEven, IsInside, List, None, Option, Places, Result, Some, SpanMap, all-append, and_from, and_parts, ap, append-nil, append_assoc, ap₂, arith, block, cases_Bool, cases_lt, cell_at, cond, count_along, count_of, div-le_self, drop, drop_hidden, false, false≢true, flat_map, fold, get, get_or, inl, inr, inside, into_iter_items, is_hidden, is_visible, le-ltb, length, length-replicate, map, map-append, map_grid, max, min, nat_lt, ne_eqb, none-some, option_map, place, range_with_len, rectangle, refl, replicate, row_places, rules, same_Some, slice_get, slice_get-get_or, subst, suc, sym, take, true, unwrap_or, with_cell, with_sizes, zero, ℕ}
pub use Rattle.tabled_grid.specs.declared.config.rectangle.Rectangle.{Rectangle}
pub use Rattle.tabled_grid.proofs.Places.{block-is}
pub use Rattle.tabled_grid.specs.Bounds.{indexes}
pub use Rattle.tabled_grid.specs.declared.config.entity.Entity.{Entity}
pub use Rattle.tabled_grid.specs.declared.config.entity.Entity.TheVariants.{Cell, Column, Row}
pub use Rattle.tabled_grid.specs.declared.config.position.Position.{Position}
pub use Rattle.tabled_grid.specs.declared.records.axis.Axis.{Axis}
pub use Rattle.tabled_grid.specs.declared.records.axis.Axis.TheVariants.{Columns, Rows}
pub use Rattle.tabled_options.proofs.Common.{Change, DoesFirstWrites, DoesWrites, Each, EachListed, EachListedUntil, EachUntil, FirstWrites, OptionKeeps, Same, SameOr, Then, ThenLeaves, Write, at_each, text_writes, with_writes}
pub use Rattle.tabled_options.specs.Does.{EachUntilAt}
pub use Rattle.tabled_select.proofs.Common.{◌%◌, AlwaysYields, IfOk-weaker, cells_of, columns_of, difference_of, div-mul-le_self, every, flat, intersection_of, into_iter_len, inversion_of, lt-ltb, text_at}
pub use Rattle.tabled_select.proofs.Stepped.{every-from, every_from}
pub use Rattle.tabled_select.specs.Algebra.{union_of}
pub use Rattle.tabled_select.specs.Locators.{columns_with}
pub use Rattle.tabled_select.specs.Selectors.{rows_of}
pub use Rattle.tabled_settings.proofs.Common.{Duplicates, DuplicatesFirst, IfOk, IsEven-map_grid, IsEven-with_cell, JoinsAt, ReadsThrough, Rearranges, Removes, cell_at-map_grid, charset_writes, corner_of, cut_rows, dup_writes, extracted, flat_map-append, get_or-map-range_with_len, has_pieces, inside-no_cell, inside-no_column, inside-no_row, is_set, mapped_writes, on_err_weaker, oriented, places, recoded, removed, reversed, rotated, round_from, round_writes, rounds, shape_texts, source_texts, split, wrap_writes, wrapped, writes_keep}
pub use Rattle.tabled_settings.specs.Joined.{joined_text}
pub use Rattle.tabled_settings.specs.Kept.{Keeps, kept}
pub use Rattle.tabled_settings.specs.Named.{all_columns_named, all_rows_named}
pub use Rattle.tabled_spans.proofs.Common.{IsNamed, IsRun, Joins, MergesRuns, Panels, RunAt, RunsFrom, RunsOf, Spans, SpansFirst, back_of, further, grown_each, has_room, hidden-from, hidden_by, ltb-true, pull_writes, pulled_each, size_of_run, span_writes, spanned, with_line_at}
pub use Rattle.tabled_spans.specs.Panels.{cells_along}
pub use Rattle.tabled_spans.specs.Runs.{Merges}
pub use Rattle.tabled_steps.specs.Groups.{AreGroups, AreRepresentatives, IsGroup, IsLocal, Skips, StepsBy, groups_outside, named_places, once, representatives_of, row_groups, segment_cells, segment_groups, unrolled}
pub use Rattle.tabled_steps.specs.Reads.{joined_tables, read, texts_by_place}
pub use Rattle.tabled_steps.specs.Selected.{half_open, named_by, selected}
pub use Rattle.tabled_steps.specs.States.{IsUndoneMidway, State, after, after_all, duplicate, flattened, merge, on_each, parts, put_panel, rearrange, recode, set, span, state_of, wrap}
pub use Rattle.tabled_steps.specs.Steps.{Does, Leaves, LeavesFirst, Names, Refused}
pub use Rattle.tabled_steps.specs.declared.groups.Group.{Group}
pub use Rattle.tabled_steps.specs.declared.select.Select.{Select}
pub use Rattle.tabled_steps.specs.declared.step.Step.{Step}
pub use Rattle.tabled_table.proofs.Common.{length-map-range_with_len, on_ok_weaker, string_bytes}
