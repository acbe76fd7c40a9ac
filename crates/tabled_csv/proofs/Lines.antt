-- Lines, one after another.
use Rattle.tabled_csv.proofs.Common.{Dialect, doubled, ◌≡◌, ◌++◌, ◌∷◌, ◌∙◌, [], ℕ, List, refl, sym, ap, subst, arith, append-nil, append_assoc, inl, inr, IsForm, IsLine, IsLineEnd, IsLines, IsRecord, IsSeparator}
use Rattle.tabled_csv.proofs.Records.{Ends, record-at, record-from, record-unique}
use Rattle.tabled_csv.proofs.Unique.{form-unique}
use Rattle.tabled_csv.specs.Fields.{BlankAt, FormAt, Stops}
use Rattle.tabled_csv.specs.Reading.{NoRecordAt, RecordAt}
use Rattle.tabled_csv.specs.declared.stop.Stop.{Stop}
use Rattle.tabled_csv.specs.declared.stop.Stop.TheVariants.{End, Line, Separator}

-- bytes begin with a line that isn't blank
pub record FilledAt (bytes : List ℕ) : Type 0 where
  pub some : bytes ≡ [] → ⊥
  pub filled : (after : List ℕ) → BlankAt bytes after → ⊥

-- lines, of which each is blank or a record
pub data LinesAt : Dialect → List ℕ → List (List (List ℕ)) → Type 0 where
  none : {d : Dialect} {bytes : List ℕ} {rows : List (List (List ℕ))} → bytes ≡ [] → rows ≡ [] → LinesAt d bytes rows
  blank : {d : Dialect} {bytes : List ℕ} {rows : List (List (List ℕ))} (after : List ℕ) → BlankAt bytes after → LinesAt d after rows → LinesAt d bytes rows
  filled : {d : Dialect} {bytes : List ℕ} {rows : List (List (List ℕ))} (row : List (List ℕ)) (after : List ℕ) (more : List (List (List ℕ)))
      → FilledAt bytes → RecordAt d bytes row after → rows ≡ row ∷ more → LinesAt d after more → LinesAt d bytes rows

-- ---- a record whose bytes are some doesn't begin with a blank line

-- a blank line begins with an empty field
pub blank-field : (d : Dialect) (bytes after : List ℕ) → BlankAt bytes after → FormAt d bytes [] Line after
blank-field d bytes after (inl e) = record {
  field = [];
  tail = bytes;
  parts = refl;
  form = inl (record { within = refl; unquoted = refl }, refl);
  stops = (10 ∷ [], inr (refl, refl), e);
}
blank-field d bytes after (inr e) = record {
  field = [];
  tail = bytes;
  parts = refl;
  form = inl (record { within = refl; unquoted = refl }, refl);
  stops = (13 ∷ 10 ∷ [], inl refl, e);
}

-- nor does one begin with a quote
pub quote-filled : (bytes rest : List ℕ) → bytes ≡ 34 ∷ rest → FilledAt bytes
quote-filled bytes rest e = record { some = λ none. cc; filled = no-blank }
  where
    no-blank : (after : List ℕ) → BlankAt bytes after → ⊥
    no-blank after (inl b) =
        let same : 34 ∷ rest ≡ 10 ∷ after = sym e ∙ b in
        let x : ◌≡◌ {A = ℕ} 34 10 = cc in
        omega arith
    no-blank after (inr b) =
        let same : 34 ∷ rest ≡ 13 ∷ 10 ∷ after = sym e ∙ b in
        let x : ◌≡◌ {A = ℕ} 34 13 = cc in
        omega arith

-- bytes that begin with a field of some bytes
some-field : (d : Dialect) → IsSeparator d.separator → (bytes line tail text after after2 : List ℕ) (b : ℕ) (stop : Stop) → bytes ≡ (b ∷ line) ++ tail → IsForm d (b ∷ line) text
    → Stops d.separator (b ∷ line) tail stop after → BlankAt bytes after2 → ⊥
some-field d sep bytes line tail text after after2 b stop is (inl plain) stops empty =
    let f : FormAt d bytes text stop after = record { field = b ∷ line; tail = tail; parts = is; form = inl plain; stops = stops } in
    let e : text ≡ [] = (form-unique d sep bytes text [] stop Line after after2 f (blank-field d bytes after2 empty)).0 in
    let none : b ∷ line ≡ [] = plain.1 ∙ e in
    cc
some-field d sep bytes line tail text after after2 b stop is (inr between) stops empty =
    (quote-filled bytes ((doubled text ++ (34 ∷ [])) ++ tail) (is ∙ ap (λ (l : List ℕ). l ++ tail) between.0)).filled after2 empty

-- a field with a separator behind it
pub part-field : (d : Dialect) → IsSeparator d.separator → (bytes field tail text after after2 : List ℕ) → bytes ≡ field ++ tail → IsForm d field text
    → Stops d.separator field tail Separator after → BlankAt bytes after2 → ⊥
part-field d sep bytes field tail text after after2 is form stops empty =
    let f : FormAt d bytes text Separator after = record { field = field; tail = tail; parts = is; form = form; stops = stops } in
    let e : Separator ≡ Line = (form-unique d sep bytes text [] Separator Line after after2 f (blank-field d bytes after2 empty)).1 in
    cc

pub record-filled : (d : Dialect) → IsSeparator d.separator → (bytes line tail after : List ℕ) (b : ℕ) (row : List (List ℕ)) → bytes ≡ (b ∷ line) ++ tail → IsRecord d (b ∷ line) row → Ends d.separator (b ∷ line) tail after
    → (after2 : List ℕ) → BlankAt bytes after2 → ⊥
record-filled d sep bytes line tail after b [] is r e after2 empty = r
record-filled d sep bytes line tail after b (text ∷ []) is r (inl e) after2 empty = some-field d sep bytes line tail text after after2 b Line is r.form e empty
record-filled d sep bytes line tail after b (text ∷ []) is r (inr e) after2 empty = some-field d sep bytes line tail text after after2 b End is r.form e empty
record-filled d sep bytes line tail after b (text ∷ next ∷ texts) is r e after2 empty =
    let parts : bytes ≡ r.0 ++ (d.separator ∷ (r.1 ++ tail)) = is ∙ ap (λ (l : List ℕ). l ++ tail) r.2 ∙ append_assoc r.0 (d.separator ∷ r.1) tail in
    part-field d sep bytes r.0 (d.separator ∷ (r.1 ++ tail)) text (r.1 ++ tail) after2 parts r.3.form refl empty

-- ---- from the grammar and back

pub blank-end : (end rest : List ℕ) → IsLineEnd [] end → BlankAt (end ++ rest) rest
blank-end end rest (inl both) = inr (ap (λ (l : List ℕ). l ++ rest) both)
blank-end end rest (inr one) = inl (ap (λ (l : List ℕ). l ++ rest) one.0)

line-at : (d : Dialect) → IsSeparator d.separator → (bytes line end rest : List ℕ) (here more rows : List (List (List ℕ))) → bytes ≡ line ++ (end ++ rest) → rows ≡ here ++ more
    → IsLine d line here → IsLineEnd line end → LinesAt d rest more → LinesAt d bytes rows
line-at d sep bytes [] end rest here more rows is all l e others =
    LinesAt.blank rest (subst (λ (x : List ℕ). BlankAt x rest) (sym is) (blank-end end rest e))
    (subst (LinesAt d rest) (sym (all ∙ ap (λ (x : List (List (List ℕ))). x ++ more) l)) others)
line-at d sep bytes (b ∷ line) end rest here more rows is all l e others =
    let ends : Ends d.separator (b ∷ line) (end ++ rest) rest = inl (end, e, refl) in
    LinesAt.filled l.0 rest more (record { some = λ none. cc; filled = record-filled d sep bytes line (end ++ rest) rest b l.0 is l.2 ends })
    (record-at d sep bytes (b ∷ line) (end ++ rest) rest l.0 is l.2 ends)
    (all ∙ ap (λ (x : List (List (List ℕ))). x ++ more) l.1) others

last-at : (d : Dialect) → IsSeparator d.separator → (bytes : List ℕ) (rows : List (List (List ℕ))) → IsLine d bytes rows → LinesAt d bytes rows
last-at d sep [] rows l = LinesAt.none refl l
last-at d sep (b ∷ bytes) rows l =
    let is : b ∷ bytes ≡ (b ∷ bytes) ++ [] = sym (append-nil (b ∷ bytes)) in
    let ends : Ends d.separator (b ∷ bytes) [] [] = inr (refl, refl) in
    LinesAt.filled l.0 [] [] (record { some = λ none. cc; filled = record-filled d sep (b ∷ bytes) bytes [] [] b l.0 is l.2 ends })
    (record-at d sep (b ∷ bytes) (b ∷ bytes) [] [] l.0 is l.2 ends) l.1 (LinesAt.none refl refl)

pub lines-at : (d : Dialect) → IsSeparator d.separator → {bytes : List ℕ} {rows : List (List (List ℕ))} → IsLines d bytes rows → LinesAt d bytes rows
lines-at d sep {bytes} {rows} (IsLines.last l) = last-at d sep bytes rows l
lines-at d sep {bytes} {rows} (IsLines.line line end rest here more is all l e others) =
    line-at d sep bytes line end rest here more rows is all l e (lines-at d sep others)

no-rows : (d : Dialect) {bytes : List ℕ} {rows : List (List (List ℕ))} → LinesAt d bytes rows → bytes ≡ [] → rows ≡ []
no-rows d (LinesAt.none e f) is = f
no-rows d (LinesAt.blank after (inl b) l) is = cc
no-rows d (LinesAt.blank after (inr b) l) is = cc
no-rows d (LinesAt.filled row after more f r e l) is = absurd (f.some is)

record-line : (d : Dialect) (bytes : List ℕ) (row : List (List ℕ)) (after : List ℕ) (more rows : List (List (List ℕ))) → FilledAt bytes → (line tail : List ℕ)
    → bytes ≡ line ++ tail → IsRecord d line row → Ends d.separator line tail after → rows ≡ row ∷ more → IsLines d after more → (after ≡ [] → more ≡ []) → IsLines d bytes rows
record-line d bytes row after more rows f [] tail is r (inl h) all l last = absurd (elim h.1 [
  | inl both ↦ f.filled after (inr (is ∙ h.2 ∙ ap (λ (x : List ℕ). x ++ after) both))
  | inr one ↦ f.filled after (inl (is ∙ h.2 ∙ ap (λ (x : List ℕ). x ++ after) one.0))
])
record-line d bytes row after more rows f [] tail is r (inr h) all l last = absurd (f.some (is ∙ h.0))
record-line d bytes row after more rows f (b ∷ line) tail is r (inl h) all l last =
    IsLines.line (b ∷ line) h.0 after (row ∷ []) more (is ∙ ap (λ (x : List ℕ). (b ∷ line) ++ x) h.2) all (row, refl, r) h.1 l
record-line d bytes row after more rows f (b ∷ line) tail is r (inr h) all l last =
    let whole : bytes ≡ b ∷ line = is ∙ ap (λ (x : List ℕ). (b ∷ line) ++ x) h.0 ∙ append-nil (b ∷ line) in
    let one : rows ≡ row ∷ [] = all ∙ ap (λ (x : List (List (List ℕ))). row ∷ x) (last h.1) in
    IsLines.last (subst (λ (x : List ℕ). IsLine d x rows) (sym whole) (row, one, r))

blank-line : (d : Dialect) (bytes after : List ℕ) (rows : List (List (List ℕ))) → BlankAt bytes after → IsLines d after rows → IsLines d bytes rows
blank-line d bytes after rows (inl e) l = IsLines.line [] (10 ∷ []) after [] rows e refl refl (inr (refl, refl)) l
blank-line d bytes after rows (inr e) l = IsLines.line [] (13 ∷ 10 ∷ []) after [] rows e refl refl (inl refl) l

pub lines-from : (d : Dialect) → IsSeparator d.separator → {bytes : List ℕ} {rows : List (List (List ℕ))} → LinesAt d bytes rows → IsLines d bytes rows
lines-from d sep {bytes} {rows} (LinesAt.none e f) = IsLines.last (subst (λ (x : List ℕ). IsLine d x rows) (sym e) f)
lines-from d sep {bytes} {rows} (LinesAt.blank after b l) = blank-line d bytes after rows b (lines-from d sep l)
lines-from d sep {bytes} {rows} (LinesAt.filled row after more f r e l) =
    let w = record-from d sep bytes row after r in
    record-line d bytes row after more rows f w.line w.tail w.parts w.is w.ends e (lines-from d sep l) (no-rows d l)

-- ---- bytes are one list of rows at most

pub blank-unique : (bytes after after2 : List ℕ) → BlankAt bytes after → BlankAt bytes after2 → after2 ≡ after
blank-unique bytes after after2 (inl e) (inl f) = cc
blank-unique bytes after after2 (inl e) (inr f) = absurd (differ (sym e ∙ f))
  where
    differ : 10 ∷ after ≡ 13 ∷ 10 ∷ after2 → ⊥
    differ g =
        let x : ◌≡◌ {A = ℕ} 10 13 = cc in
        omega arith
blank-unique bytes after after2 (inr e) (inl f) = absurd (differ (sym f ∙ e))
  where
    differ : 10 ∷ after2 ≡ 13 ∷ 10 ∷ after → ⊥
    differ g =
        let x : ◌≡◌ {A = ℕ} 10 13 = cc in
        omega arith
blank-unique bytes after after2 (inr e) (inr f) = cc

-- what is behind a line is known
pub behind-blank : (d : Dialect) {bytes : List ℕ} {rows : List (List (List ℕ))} (after : List ℕ) → BlankAt bytes after → LinesAt d bytes rows → LinesAt d after rows
behind-blank d after (inl b) (LinesAt.none e f) = cc
behind-blank d after (inr b) (LinesAt.none e f) = cc
behind-blank d {bytes} {rows} after b (LinesAt.blank after2 c l) = subst (λ (x : List ℕ). LinesAt d x rows) (blank-unique bytes after after2 b c) l
behind-blank d after b (LinesAt.filled row after2 more f r e l) = absurd (f.filled after b)

pub behind-filled : (d : Dialect) → IsSeparator d.separator → {bytes : List ℕ} {rows : List (List (List ℕ))} (row : List (List ℕ)) (after : List ℕ) → FilledAt bytes → RecordAt d bytes row after → LinesAt d bytes rows
    → (more : List (List (List ℕ))) × (rows ≡ row ∷ more) × LinesAt d after more
behind-filled d sep row after f r (LinesAt.none e g) = absurd (f.some e)
behind-filled d sep row after f r (LinesAt.blank after2 b l) = absurd (f.filled after2 b)
behind-filled d sep {bytes} {rows} row after f r (LinesAt.filled row2 after2 more g q e l) =
    let u = record-unique d sep bytes row row2 after after2 r q in
    (more, e ∙ ap (λ (x : List (List ℕ)). x ∷ more) u.0, subst (λ (x : List ℕ). LinesAt d x more) u.1 l)

pub lines-unique : (d : Dialect) → IsSeparator d.separator → {bytes : List ℕ} {rows : List (List (List ℕ))} → LinesAt d bytes rows → (others : List (List (List ℕ))) → LinesAt d bytes others → rows ≡ others
lines-unique d sep (LinesAt.none e f) others m = f ∙ sym (no-rows d m e)
lines-unique d sep (LinesAt.blank after b l) others m = lines-unique d sep l others (behind-blank d after b m)
lines-unique d sep (LinesAt.filled row after more f r e l) others m =
    let o = behind-filled d sep row after f r m in
    e ∙ ap (λ (x : List (List (List ℕ))). row ∷ x) (lines-unique d sep l o.0 o.2) ∙ sym o.1

-- a line that isn't blank makes a row
pub some-rows : (d : Dialect) {bytes : List ℕ} → FilledAt bytes → LinesAt d bytes [] → ⊥
some-rows d f (LinesAt.none e g) = f.some e
some-rows d f (LinesAt.blank after b l) = f.filled after b
some-rows d f (LinesAt.filled row after more g r e l) = cc

-- no record, no lines
pub no-lines : (d : Dialect) {bytes : List ℕ} {rows : List (List (List ℕ))} → FilledAt bytes → NoRecordAt d bytes → LinesAt d bytes rows → ⊥
no-lines d f n (LinesAt.none e g) = f.some e
no-lines d f n (LinesAt.blank after b l) = f.filled after b
no-lines d f n (LinesAt.filled row after more g r e l) = n row after r
