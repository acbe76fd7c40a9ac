-- The names that most proofs cite, passed on from one place. Declares nothing.
pub use Rattle.std.proofs.Common.{◌==◌, codes, leb, length-take, map-id, ne_eqb}
pub use Rattle.std.proofs.lemmas.Bool.{leb-false, or_parts, true≢false}
pub use Rattle.std.proofs.lemmas.Bool.Decides.{eqb_tells, leb_tells}
pub use Rattle.std.proofs.lemmas.List.{take_rest}
pub use Rattle.std.proofs.lemmas.List.Elements.{All-from_get_or, filter_map-append}
pub use Rattle.std.proofs.lemmas.List.Folds.{list_all-append, prefix_len-append}
pub use Rattle.std.proofs.lemmas.List.Sorted.{IsPermutation-sym}
pub use Rattle.std.proofs.lemmas.List.Splits.{length-slice_split, slice_split_at, slice_split_first, slice_split_none}
pub use Rattle.std.proofs.lemmas.List.Sums.{count_by-le-length, fails_before_first, passes_at_first, position_or_len_is, sum_by-cons}
pub use Rattle.std.proofs.lemmas.Result.{err_from_is_err_and}
pub use Rattle.std.proofs.lemmas.Str.{IsCharBoundary-after_ascii, IsCharBoundary-before_ascii, IsUtf8-drop, IsUtf8-from_ascii, IsUtf8-from_is_utf8, IsUtf8-had, IsUtf8-string_bytes, IsUtf8-take, is_utf8-from_IsUtf8}
pub use Rattle.std.specs.BTreeMap.{BTreeMap, btree_map_len, get}
pub use Rattle.std.specs.List.{position_or_len, slice_index_or}
pub use Rattle.std.specs.Option.{is_none, option_or}
pub use Rattle.std.specs.Prelude.{MatchBool, filter_map, is_ok, is_some}
pub use Rattle.std.specs.Result.{IsErrAnd, IsOk, result_ok}
pub use Rattle.std.specs.Str.{all_ascii_digits, bytes_eq}
pub use Rattle.std.specs.Str.Parse.{ParsesUnsigned, digits_value}
pub use Rattle.std.specs.String.{string_vec}
pub use Rattle.std.specs.Vec.Iter.{into_iter_items, into_iter_len}
pub use Rattle.tabled_grid.proofs.Common.{All-from_recursion, All-permutation, AllByRecursion, AreAnchors, AreSorted, AreWide, Bool, Equal, Err, Fits, Greater, Grid, IsEmptyWithoutRows, IsEven, IsSpan, Less, List, MatchOrdering, None, Ok, Option, Ordering, Result, Some, SpanMap, Vec, [], all-append, and_from, and_left, and_parts, and_right, answers_always, ap, append-nil, append_assoc, ap₂, arith, cases_Bool, cases_lt, common_steps, cond, cond-false, cond-true, count_by, drop, drop-drop, drop_all, drop_more, eq_by_cmp, eqb, eqb-true, false, false_from_ne_true, false≢true, flat_map, get_or, get_or_default, grid_of, inl, inr, is_eq, is_lt, length, length-append, length-drop, length-map, all_fit, lies_inside, list_all, list_any, map, map-append, map_grid, map_items, map_of, map_push, max, meets, mul-le-mul_right, nat_cmp, nat_le, nil_from_length, none-some, not-true, not_from_false, option_map, or_right, ordering_reverse, pairs, place, position_cmp, range_with_len, ranked, rectangle, rectangles, recursion_from_All, refl, remove, rules, same_Some, sized, subst, suc, sym, take, take-append-drop, take_all, take_more, true, vec_len, width_of, zero, ℕ, ◌*◌, ◌++◌, ◌+◌, ◌-◌, ◌<◌, ◌∙◌, ◌∷◌, ◌≡◌, ◌≢◌, ◌≤◌, ◌⊎◌}
pub use Rattle.tabled_grid.proofs.Rectangles.{meets-from, meets-true, meets-turned}
pub use Rattle.tabled_grid.specs.Rectangles.{Meets}
pub use Rattle.tabled_grid.proofs.SortedEntries.{both, find_at, get-from_rectangles, get-map_of, get-rectangles, halves, is_less, listed-spans, map_of-rectangles, positions_exact, positions_total, rectangles-map_of, rectangles_anchors, rectangles_sorted, same_map, span_at}
pub use Rattle.tabled_grid.specs.Spans.{empty, from_rectangles}
pub use Rattle.tabled_grid.specs.declared.config.position.Position.{Position}
pub use Rattle.tabled_grid.specs.declared.config.rectangle.Rectangle.{Rectangle}
pub use Rattle.tabled_grid.specs.declared.config.size.Size.{Size}
pub use Rattle.tabled_language.proofs.OwnWords.{LackEach, line_of_own_words, own_word, parts_lack, parts_lack_separator}
pub use Rattle.tabled_language.specs.Drafts.{Draft, asks_behind, draft_of, fault_behind, first_behind, is_nil, shape_among, shape_at, shape_misfit, takes, with_line, with_lines}
pub use Rattle.tabled_language.specs.Faults.{fault_among, fault_of, first_fault, is_in_place, may_follow, shape_fault, span_fault, words_fault}
pub use Rattle.tabled_language.specs.Lent.{bytes_of, texts_in_records, texts_in_row}
pub use Rattle.tabled_language.specs.Line.{anchor_in, ended_lines, has_byte, is_plain, lines_of, make_empty_line, meaning_of, number_if, numbers_of, record_in, says_line, says_words, shape_in, step_in, table_from, texts_of, without_empty_last, words_of}
pub use Rattle.tabled_language.specs.Memory.{GivenLine, InBytes, InWords, asks_between, asks_memory, given_asks, given_lines, line_asks, lines_ask, says_given, step_asks, verb_asks, words_ask}
pub use Rattle.tabled_language.specs.Output.{IsOwnWord, escaped, escaped_byte, line, print, span_line, tab_separated}
pub use Rattle.tabled_language.specs.Parsing.{DraftMeans, EndsBetween, EndsDraft, EndsEarly, EndsGiven, EndsScript, HasGiven, LineEnds, Reads, ReadsGiven, ReadsLine, draft_in, in_line}
pub use Rattle.tabled_language.specs.Placed.{AreSpans, EndsMerge, IsFirstMisfit}
pub use Rattle.tabled_language.specs.Script.{Script, lines_between, parse, parse_between, script_of, script_or_fault, start}
pub use Rattle.tabled_language.specs.Selectors.{reads_cells, reads_selector, selectors}
pub use Rattle.tabled_language.specs.Sizes.{if_span, reads_anchor, reads_shape, reads_span_size}
pub use Rattle.tabled_language.specs.Verb.{EmptyLine, FaultyLine, Line, RecordLine, ShapeLine, SpanLine, StepLine, reads_dup, reads_rows, reads_table, rows_of_texts, says, step_line, steps}
pub use Rattle.tabled_language.specs.Walk.{AreBeside, AreKeyed, DropsEnded, EndsAbove, IsBeside, IsClear, IsLastBefore, IsMet, NoneBefore, RowsRise}
pub use Rattle.tabled_language.specs.Word.{before, escape, if_utf8, integer_of, length_of, number_of, number_to, text_of_word, unescaped}
pub use Rattle.tabled_language.specs.Words.{Read, Reading, behind, fails, first_word, gives, keeping_asks, kept, reads_length, reads_number, reads_positive_length, reads_positive_number, reads_text, reads_word, then_reads, whole}
pub use Rattle.tabled_language.specs.declared.draft.Shape.{Shape}
pub use Rattle.tabled_language.specs.declared.fault.Fault.{Fault}
pub use Rattle.tabled_language.specs.declared.fault.Fault.TheVariants.{NumberRange, OutOfPlace, ShapeDiffers, SpanMisfits}
pub use Rattle.tabled_language.specs.declared.fault.ParseError.{ParseError}
pub use Rattle.tabled_language.specs.declared.fault.LineError.{LineError}
pub use Rattle.tabled_language.specs.declared.fault.LineError.TheVariants.{Faulty, OutOfMemory}
pub use Rattle.tabled_language.specs.declared.lent.LentText.{LentText}
pub use Rattle.tabled_select.proofs.Common.{◌%◌, IfOk-weaker, lt-ltb}
pub use Rattle.tabled_settings.proofs.Common.{IfOk, eq-eqb, map-map, nat_tests, same_grid}
pub use Rattle.tabled_spans.proofs.Common.{IsUtf8, eqb-false, join_with_byte, le-leb, slice_split, ◌^◌}
pub use Rattle.tabled_steps.proofs.Common.{Excluded, State, after, duplicate, leb-true, named_by, option_and_then}
pub use Rattle.tabled_steps.specs.Selected.{Named}
pub use Rattle.tabled_table.proofs.Common.{◌&&◌, ◌||◌, ChangedBy, Global, String, changed_all, changed_more, decimal, from_uneven, length-map-range_with_len, longest, map-range_with_len_more, not, padded_to, string_bytes, table_of}
pub use Rattle.tabled_table.proofs.RowTexts.{wide-map}
pub use Rattle.tabled_table.proofs.Tables.{even-width}
pub use Rattle.tabled_table.proofs.Uneven.{even-longest, longest-push}
pub use Rattle.tabled_grid.specs.Fitting.{fits_among}
