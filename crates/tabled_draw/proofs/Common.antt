-- The names that most proofs cite, passed on from one place. Declares nothing.
pub use Rattle.std.proofs.Common.{◌%◌, ◌&&◌, ◌*◌, ◌/◌, ◌==◌, ◌||◌, Bor, IsUtf8, MatchOption, T, add-zero, add_assoc, append-nil, append_assoc, drop_of_length-le, encode_utf8, encode_utf8_all, eq-eqb, eqb-true, fold, length-append, length-set, lit<, nat_le, nat_lt, ne_eqb, not, take_all, unwrap_or}
pub use Rattle.std.proofs.Math.Bool.{and-false}
pub use Rattle.std.proofs.lemmas.Bool.{cond_both, eqb-false}
pub use Rattle.std.proofs.lemmas.Bool.Decides.{nat_tests}
pub use Rattle.std.proofs.lemmas.List.{ext_get_or, get_or-append-add, get_or-map, get_or-replicate, get_or_past, get_or_push}
pub use Rattle.std.proofs.lemmas.List.Splits.{slice_split_first, slice_split_none}
pub use Rattle.std.proofs.lemmas.List.Sums.{fails_before_first, fold-append, position_or_len_is, prefix_len-le-length, sum_by-append, sum_by-cons, sum_by_more}
pub use Rattle.std.proofs.lemmas.Str.{IsUtf8-past_char, chars-IsAscii, chars-nil, chars_past_char, encode_ascii, encodes-append}
pub use Rattle.std.specs.List.{after_first, before_first, position_or_len, slice_split, sum, sum_by}
pub use Rattle.std.specs.Str.Iter.{chars_rest, split_has_more, split_pattern, split_text}
pub use Rattle.tabled_draw.specs.Alignments.{aligned, alignment_in, cell, indent}
pub use Rattle.tabled_draw.specs.Borders.{Arms, are_none, arms, border, corner, corner_if, differ, edge, is_drawn, line_size, lines_around, mark, size_if, unmerged_arms}
pub use Rattle.tabled_draw.specs.Each.{by_number, each, is_in_range, largest, total}
pub use Rattle.tabled_draw.specs.Laid.{AreEdges}
pub use Rattle.tabled_draw.specs.Lines.{AreLeft, EndInside, IsCutAt, begins, begun, bytes_in, column, drawn_border, edge_before, left_if, left_inside, left_of, plan_on, stretch, text_inside}
pub use Rattle.tabled_draw.specs.Marks.{IsFine, IsFineMark, IsNoControl}
pub use Rattle.tabled_draw.specs.Overall.{AreEquallyWide, AreNoControls, AreNoLargerThanAsked, HoldsOfPictures, drawn_lines, lacking, most_asked, takes}
pub use Rattle.tabled_draw.specs.Owners.{BeginHere, IsOwnerRow, begins_at, chosen, count_before, is_held_by}
pub use Rattle.tabled_grid.specs.Owners.{owner_in}
pub use Rattle.tabled_held.specs.Pens.{Draws, IsDone, Sends}
pub use Rattle.tabled_draw.specs.Picture.{Plan, border_line, bytes_of_lines, column_at, edge_at, heights, left, line_at, line_height, line_width, lines_of_row, owner_at, picture, picture_lines, plan_of, shows, shows_in, top, widths, with_newlines}
pub use Rattle.tabled_draw.specs.Sizes.{Measured, asks, grown_for, grown_sizes, in_order, least, own, own_sizes, pad, raised, room, share, start_of, text_of_cell}
pub use Rattle.tabled_draw.specs.Standing.{IsSeen, ShowsTexts, StandBetween, StandsAt, StandsFramed, StandsIn, indent_of, inner_height, inner_left, inner_line, inner_top, inner_width, is_amid, is_joined_above, is_joined_around, is_joined_beside, meeting, text_line}
pub use Rattle.tabled_draw.specs.Texts.{IsLine, after_line, first_line, lines_shown, shown_character, shown_line, text_width, widest}
pub use Rattle.tabled_draw.specs.Unmerged.{AreUnmerged, IsBetween, level, line_between, marked, unmerged_corner, unmerged_stretch}
pub use Rattle.tabled_draw.specs.declared.alignment.Alignment.{Alignment}
pub use Rattle.tabled_held.specs.declared.pen.Pen.{Pen}
pub use Rattle.tabled_draw.specs.declared.style.Style.{Style}
pub use Rattle.tabled_width.specs.Plain.{ArePlain}
pub use Rattle.tabled_draw.specs.declared.style.TheConstants.Style.{ASCII}
pub use Rattle.tabled_grid.proofs.Common.{[], ◌++◌, ◌+◌, ◌-◌, ◌<◌, ◌∙◌, ◌∷◌, ◌≡◌, ◌≢◌, ◌≤◌, ◌⊎◌, AllByRecursion, AreSorted, Bool, Fits, Grid, In, IsInside, List, None, Option, Some, SpanMap, across, add-one, all-append, and_from, ap, ap₂, arith, cases_Bool, cases_eq, cases_lt, cell_at, common_steps, cond, cond-false, cond-true, count_along, eqb, false, false_from_ne_true, false≢true, find, fitting, get, get_or, get_or-set_other, get_or-set_same, get_or_append_left, get_or_default, holds, inl, inr, is_hidden_in, keep_fitting, le-leb, length, length-map, length-replicate, line_of, lines_in, list_any, lt-ltb, ltb-false, map, map-set, map_grid, map_of, max, nil_from_length, none-some, pairs, place, place_in, position_cmp, rectangle, rectangles, refl, replicate, replicate-append-replicate, same_Some, same_place, set, size_at, sized, subst, suc, sym, take, take_more, true, zero, ℕ}
pub use Rattle.tabled_grid.proofs.Members.{Member, any-from, find-member, sorted-find}
pub use Rattle.tabled_grid.proofs.SortedEntries.{find_at, get-rectangles, rectangles-map_of, rectangles_anchors, rectangles_sorted, span_at}
pub use Rattle.tabled_grid.proofs.SpanMaps.{at, equal, found_above, halves, same_place-apart, same_place-self, same_place-true, size_at-none, size_at-some}
pub use Rattle.tabled_grid.proofs.Rectangles.{holds-from, holds-true}
pub use Rattle.tabled_grid.specs.declared.config.position.Position.{Position}
pub use Rattle.tabled_grid.specs.declared.config.rectangle.Rectangle.{Rectangle}
pub use Rattle.tabled_grid.specs.declared.config.size.Size.{Size}
pub use Rattle.tabled_grid.specs.declared.records.axis.Axis.TheVariants.{Columns, Rows}
