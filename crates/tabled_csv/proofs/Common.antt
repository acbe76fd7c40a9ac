-- The names that most proofs cite, passed on from one place. Declares nothing.
pub use Rattle.std.specs.Prelude.{IsTrue, OnErr, slice_get}
pub use Rattle.std.proofs.Common.{if◌then◌else◌, [], ◌%◌, ◌&&◌, ◌*◌, ◌+◌, ◌^◌, ap₂, ◌++◌, ◌-◌, ◌<◌, ◌==◌, ◌||◌, ◌∙◌, ◌∷◌, ◌≡◌, ◌≤◌, ◌⊎◌, Bool, List, None, Option, Some, ap, append-nil, append_assoc, arith, cond, drop, eqb-true, false, get_or, inl, inr, length, map, ne_eqb, not, refl, subst, sym, take, true, IsUtf8, Ok, Err, OnOk, Result, zero, suc, ℕ}
pub use Rattle.std.proofs.lemmas.Bool.{and_left, and_right, cases_Bool, or_from, or_parts}
pub use Rattle.std.specs.List.{AllByRecursion, list_any}
pub use Rattle.tabled_csv.specs.Grammar.{Dialect, opens, with_quotes, IsSeparator, begins_with, ends_with, is_outside, doubled, quoted, IsForm, IsField, IsRecord, IsLine, IsLineEnd, IsLines}
pub use Rattle.tabled_csv.specs.Writing.{is_special, holds_special, is_none, field_of, others_of, first_is_quoted, record_of, lines_of, csv_of, AreRows, AreTexts, HaveFields, WrittenMeans}
pub use Rattle.std.proofs.lemmas.List.{drop_more, get_or-drop, length-append, length-drop, length-take, map-append, take_more, take-append-drop, take_all}
pub use Rattle.tabled_texts.specs.Texts.{row_at, rows_of, text_of, texts_of}
pub use Rattle.std.specs.Borrow.{Bor}
pub use Rattle.std.proofs.Common.{drop_of_length-le, eq-eqb}
pub use Rattle.std.proofs.lemmas.List.{take_rest}
pub use Rattle.std.proofs.lemmas.List.Folds.{list_any-append}
pub use Rattle.std.proofs.lemmas.Str.{IsUtf8-nil}
pub use Rattle.std.proofs.lemmas.Option.{same_Some}
pub use Rattle.std.proofs.lemmas.Result.{err_from_is_err_and}
pub use Rattle.tabled_texts.specs.Marks.{begins_with_mark, behind_mark}
