-- The names that most proofs cite, passed on from one place. Declares nothing.
pub use Rattle.std.proofs.Common.{⊎_elim, ◌&&◌, ◌||◌, IfSome, String, not, option_map}
pub use Rattle.std.proofs.lemmas.Bool.{cond_both, not-false}
pub use Rattle.std.proofs.lemmas.Grind.{common_steps}
pub use Rattle.std.proofs.lemmas.List.{get_or-map, take-set, take-set-le}
pub use Rattle.std.proofs.lemmas.List.Elements.{All-head, All-pop, All-replicate, All-tail, filter_passes}
pub use Rattle.std.proofs.lemmas.List.FromFn.{fill_by_all, filter_of_map_range_with_len_more, get_or-range_with_len, length-map-range_with_len, length-range_with_len, map-range_with_len_more}
pub use Rattle.std.proofs.lemmas.List.Sorted.{IsPermutation-map}
pub use Rattle.std.proofs.lemmas.Result.{on_ok_weaker}
pub use Rattle.std.proofs.lemmas.Slice.Zip.{all_zipped_more}
pub use Rattle.std.specs.Fmt.{decimal}
pub use Rattle.std.specs.Global.{Global}
pub use Rattle.std.specs.List.{EachIndex}
pub use Rattle.std.specs.Prelude.{IfOk}
pub use Rattle.std.specs.String.{string_bytes, string_cmp}
pub use Rattle.tabled_grid.proofs.Common.{[], ◌++◌, ◌+◌, ◌-◌, ◌<◌, ◌∙◌, ◌∷◌, ◌≡◌, ◌≤◌, ◌⊎◌, All, All-filter, All-from_recursion, All-map, All-permutation, AllZip, AllZip-map, AreWide, Bool, IsEven, List, None, Option, Some, Vec, all-append, all-insert, all-map, all-remove, and_parts, ap, append-nil, append_assoc, ap₂, arith, cases_Bool, cond, drop, drop-drop, drop-set-lt, drop_more, false, filter, filter_from_retain, get_or, get_or-drop, get_or-set_other, get_or-set_same, grid_of, insert, into_iter_items, is_lt, length, length-append, length-map, length-remove, length-replicate, length-set, length-swap, length-take, length_push, list_all, map, map-append, map-id, map-insert, map-remove, map-set, map-swap, map_grid, map_items, map_more, map_push, max, ordering_then, range_with_len, recursion_from_All, refl, remove, replicate, replicate-append-replicate, rules, same_lens, set, set-get_or, slice_get, slice_get-get_or, subst, suc, swap, sym, take, take-map, take-take, take_all, transposed_rows, true, vec_len, width_of, with_items_is, zero, zip, ℕ}
pub use Rattle.tabled_grid.proofs.Mapped.{maps_agree}
pub use Rattle.tabled_grid.proofs.Transposed.{at-transposed, length-transposed, same_rows, wide-transposed}
pub use Rattle.tabled_options.proofs.Common.{take-append-le}
pub use Rattle.tabled_options.proofs.Results.{on_err}
pub use Rattle.tabled_select.proofs.Common.{IfOk-weaker}
pub use Rattle.tabled_table.proofs.Columns.{even-each, even-with_items, even-without, map-even}
pub use Rattle.tabled_table.proofs.RowByRow.{ChangedBy, all_done, changed_all, changed_more, one_more, rest_after, rest_more, rest_next}
pub use Rattle.tabled_table.proofs.RowTexts.{All-lens, row_texts-items, rows_written, texts_kept, texts_of, texts_removed, texts_taken, vec_len-rows, vec_len-texts, wide-cells, width-texts}
pub use Rattle.tabled_table.specs.Builder.{Builder, IsClean, cleaned, column_of, columns_with_text, from_uneven, has_text_in, is_empty_text, longest, only_columns, padded_to, row_has_text, row_texts, table_of, text_columns, with_items, with_last_column, with_record}
pub use Rattle.tabled_table.specs.Gathering.{brought_forward}
pub use Rattle.tabled_table.specs.Given.{GaveRows, MayBeAsked}
pub use Rattle.tabled_table.specs.Index.{Indexed, IsIndexed, built_rows, numbers, transposed_index, with_column_as_index, with_index, with_index_name, with_name_if}
pub use Rattle.tabled_table.specs.Printed.{PrintsOne, PrintsPair, row_cmp}
