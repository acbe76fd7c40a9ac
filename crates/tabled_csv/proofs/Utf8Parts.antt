-- UTF-8 before and behind a byte of ASCII.
use Rattle.std.proofs.Math.Seq.{drop-append-add, get_or-append_seam, take-append_seam}
use Rattle.std.proofs.lemmas.Str.{IsCharBoundary-after_ascii, IsCharBoundary-before_ascii, IsUtf8-drop, IsUtf8-take}
use Rattle.tabled_csv.proofs.Common.{Dialect, [], ◌+◌, ◌++◌, ◌<◌, ◌∙◌, ◌∷◌, ◌≡◌, IsSeparator, IsUtf8, List, ap, IsUtf8-nil, append-nil, arith, doubled, drop, get_or, inl, inr, length, length-append, subst, sym, take, ℕ}
use Rattle.tabled_csv.specs.Fields.{BlankAt, ClosedBy, FormAt, PlainAt, Stops}
use Rattle.tabled_csv.specs.Reading.{RecordAt}
use Rattle.tabled_csv.specs.declared.quoted.Closing.{Closing}
use Rattle.tabled_csv.specs.declared.stop.Stop.{Stop}
use Rattle.tabled_csv.specs.declared.stop.Stop.TheVariants.{End, Line, Separator}

pub utf8-parts : (before after : List ℕ) (b : ℕ) → b < 128 → IsUtf8 (before ++ (b ∷ after)) → IsUtf8 before × IsUtf8 after
utf8-parts before after b low valid =
    let all = before ++ (b ∷ after) in
    let within : length before < length all = omega (arith, length-append before (b ∷ after)) in
    let ascii : get_or all (length before) 0 < 128 = omega (arith, get_or-append_seam before b after 0) in (
      subst IsUtf8 (take-append_seam before (b ∷ after)) (IsUtf8-take all (length before) valid (IsCharBoundary-before_ascii all (length before) within ascii)),
      subst IsUtf8 (drop-append-add before (b ∷ after) 1) (IsUtf8-drop all (length before + 1) valid (IsCharBoundary-after_ascii all (length before) valid within ascii)),
    )

-- before the end of a line, and behind it
utf8-return : (before after : List ℕ) → IsUtf8 (before ++ (13 ∷ 10 ∷ after)) → IsUtf8 before × IsUtf8 after
utf8-return before after valid =
    let both = utf8-parts before (10 ∷ after) 13 (omega arith) valid in
    (both.0, (utf8-parts [] after 10 (omega arith) both.1).1)

-- before what is behind a field, and after it
utf8-stops : (s : ℕ) → IsSeparator s → (before field tail : List ℕ) (stop : Stop) (after : List ℕ) → Stops s field tail stop after → IsUtf8 (before ++ tail) → IsUtf8 before × IsUtf8 after
utf8-stops s sep before field tail Separator after h valid = utf8-parts before after s sep.ascii (subst (λ (l : List ℕ). IsUtf8 (before ++ l)) h valid)
utf8-stops s sep before field tail Line after h valid = elim h.1 [
  | inl both ↦ utf8-return before after (subst (λ (l : List ℕ). IsUtf8 (before ++ l)) (h.2 ∙ ap (λ (l : List ℕ). l ++ after) both) valid)
  | inr one ↦ utf8-parts before after 10 (omega arith) (subst (λ (l : List ℕ). IsUtf8 (before ++ l)) (h.2 ∙ ap (λ (l : List ℕ). l ++ after) one.0) valid)
]
utf8-stops s sep before field tail End after h valid =
    let both : IsUtf8 (before ++ []) = subst (λ (l : List ℕ). IsUtf8 (before ++ l)) h.0 valid in
    (subst IsUtf8 (append-nil before) both, rw h.1 (IsUtf8-nil))

module _ (d : Dialect) (sep : IsSeparator d.separator) where
  pub plain-utf8 : (bytes text : List ℕ) (stop : Stop) (after : List ℕ) → PlainAt d bytes text stop after → IsUtf8 bytes → IsUtf8 text
  plain-utf8 bytes text stop after p valid = (utf8-stops d.separator sep text text p.tail stop after p.stops (subst IsUtf8 p.parts valid)).0

  pub after-field : (bytes text : List ℕ) (stop : Stop) (after : List ℕ) → FormAt d bytes text stop after → IsUtf8 bytes → IsUtf8 after
  after-field bytes text stop after f valid = (utf8-stops d.separator sep f.field f.field f.tail stop after f.stops (subst IsUtf8 f.parts valid)).1

  pub after-record : (bytes : List ℕ) (row : List (List ℕ)) (after : List ℕ) → RecordAt d bytes row after → IsUtf8 bytes → IsUtf8 after
  after-record bytes [] after r valid = absurd r
  after-record bytes (text ∷ []) after (inl f) valid = after-field bytes text Line after f.at valid
  after-record bytes (text ∷ []) after (inr f) valid = after-field bytes text End after f.at valid
  after-record bytes (text ∷ next ∷ texts) after r valid = after-record r.0 (next ∷ texts) after r.2 (after-field bytes text Separator r.0 r.1.at valid)

pub after-blank : (bytes after : List ℕ) → BlankAt bytes after → IsUtf8 bytes → IsUtf8 after
after-blank bytes after (inl e) valid = (utf8-parts [] after 10 (omega arith) (subst IsUtf8 e valid)).1
after-blank bytes after (inr e) valid = (utf8-return [] after (subst IsUtf8 e valid)).1

-- between quotes
pub inner-utf8 : (bytes behind : List ℕ) (closing : Closing) → bytes ≡ 34 ∷ behind → ClosedBy behind closing → IsUtf8 bytes → IsUtf8 (take closing.place behind)
inner-utf8 bytes behind closing begins closed valid =
    let inside = (utf8-parts [] behind 34 (omega arith) (subst IsUtf8 begins valid)).1 in
    subst IsUtf8 (sym closed.inner) (utf8-parts (doubled closed.text) (drop (closing.place + 1) behind) 34 (omega arith) (subst IsUtf8 closed.closes.parts inside)).0
