-- The names that most proofs cite, passed on from one place. Declares nothing.
pub use Rattle.std.proofs.Common.{slice_index_or}
pub use Rattle.std.proofs.lemmas.Fmt.{digits_decimal}
pub use Rattle.std.proofs.lemmas.List.Concat.{flat_map-append}
pub use Rattle.std.proofs.lemmas.Option.{IfSome_then}
pub use Rattle.std.specs.Io.KnownBytes.{Appends}
pub use Rattle.std.specs.Result.{OnOk}
pub use Rattle.tabled_draw.proofs.Common.{append-nil, append_assoc, length-append}
pub use Rattle.tabled_grid.proofs.Common.{[], ◌*◌, ◌++◌, ◌+◌, ◌/◌, ◌<◌, ◌∙◌, ◌∷◌, ◌≡◌, ◌≤◌, ◌⊎◌, AllByRecursion, Err, List, None, Ok, Option, Result, Some, Vec, all-append, and_parts, ap, ap₂, arith, common_steps, drop, flat_map, get_or, get_or_default, grid_of, inl, inr, into_iter_items, length, map, map-id, map_grid, map_items, nat_le, ne_eqb, refl, rules, sized, subst, suc, sym, take, take-append-drop, take_all, take_more, true, width_of, ℕ}
pub use Rattle.tabled_language.proofs.Common.{Script, all_ascii_digits, bytes_of, codes, escaped, escaped_byte, line, print, span_line, start}
pub use Rattle.tabled_language.specs.Output.{table_lines}
pub use Rattle.tabled_language.specs.Parsing.{script_in}
pub use Rattle.tabled_language.specs.RoundTrip.{IsTable, ReadsBack}
pub use Rattle.tabled_language.specs.declared.lent.LentText.{LentText}
pub use Rattle.tabled_script.specs.Again.{FitsAtEnd, GivesAgain}
pub use Rattle.tabled_script.specs.Answer.{changed, ended}
pub use Rattle.tabled_select.proofs.Common.{◌%◌, YieldsList-from_vec, into_iter_len, into_iter_steps}
pub use Rattle.tabled_settings.proofs.Common.{IsEven-map_grid}
pub use Rattle.tabled_spans.proofs.Common.{◌^◌, IsUtf8, join_with_byte}
pub use Rattle.tabled_steps.proofs.Common.{State, after, after_all, leb-true, state_of}
pub use Rattle.tabled_table.proofs.Common.{Global, decimal, on_ok_weaker}
