-- Reading, step by step: what was read, and what is left.
use Rattle.tabled_csv.proofs.Common.{Dialect, IsField, eqb-true, false, true, ◌==◌, ◌≡◌, ◌<◌, ◌+◌, ◌++◌, ◌∷◌, ◌∙◌, [], ℕ, List, refl, sym, ap, subst, arith, append-nil, append_assoc, inl, inr, length, length-append, IsLine, IsLineEnd, IsLines, IsRecord, IsSeparator, ◌⊎◌}
use Rattle.tabled_csv.proofs.Lines.{FilledAt, LinesAt, behind-blank, behind-filled, lines-at, lines-from, no-lines}
use Rattle.tabled_csv.proofs.Records.{behind-separator, field-before, no-record, record-from}
use Rattle.tabled_csv.proofs.Fielding.{no-field}
use Rattle.tabled_csv.specs.Faults.{AreParted, FaultAt, IsFront}
use Rattle.tabled_csv.specs.declared.fault.Fault.{Fault}
use Rattle.tabled_csv.specs.Fields.{BlankAt, FieldAt}
use Rattle.tabled_csv.specs.Reading.{LinesFault, RecordAt, RecordFault}
use Rattle.tabled_csv.specs.declared.stop.Stop.TheVariants.{Separator}

-- ---- the fields of a record

-- fields were read from the front of bytes, and the rest begins with those behind them
pub record FieldsRead (d : Dialect) (bytes : List ℕ) (texts : List (List ℕ)) (rest : List ℕ) : Type 0 where
  pub front : List ℕ
  pub parts : bytes ≡ front ++ rest
  pub parted : AreParted d front
  pub sound : (others : List (List ℕ)) (after : List ℕ) → RecordAt d rest others after → RecordAt d bytes (texts ++ others) after
  pub complete : (row : List (List ℕ)) (after : List ℕ) → RecordAt d bytes row after → (others : List (List ℕ)) × RecordAt d rest others after

pub no-field-read : (d : Dialect) (bytes : List ℕ) → FieldsRead d bytes [] bytes
no-field-read d bytes = record { front = []; parts = refl; parted = AreParted.no_field refl; sound = λ others after r. r; complete = λ row after r. (row, r) }

pub parted-more : (d : Dialect) (field text : List ℕ) → IsField d field text → {front : List ℕ} → AreParted d front → AreParted d (front ++ (field ++ (d.separator ∷ [])))
parted-more d field text is {front} (AreParted.no_field e) =
    AreParted.field_first field [] text (ap (λ (l : List ℕ). l ++ (field ++ (d.separator ∷ []))) e) is (AreParted.no_field refl)
parted-more d field text is {front} (AreParted.field_first first rest other e f p) =
    AreParted.field_first first (rest ++ (field ++ (d.separator ∷ []))) other (ap (λ (l : List ℕ). l ++ (field ++ (d.separator ∷ []))) e ∙ append_assoc first (d.separator ∷ rest) (field ++ (d.separator ∷ []))) f
    (parted-more d field text is p)

module _ (d : Dialect) (bytes rest : List ℕ) (texts : List (List ℕ)) (read : FieldsRead d bytes texts rest) where
  pub field-read : IsSeparator d.separator → (text after : List ℕ) → FieldAt d rest text Separator after → FieldsRead d bytes (texts ++ (text ∷ [])) after
  field-read sep text after f =
      let field = f.at.field in
      let stops : f.at.tail ≡ d.separator ∷ after = f.at.stops in
      record {
        front = read.front ++ (field ++ (d.separator ∷ []));
        parts = read.parts ∙ ap (λ (l : List ℕ). read.front ++ l) (f.at.parts ∙ ap (λ (l : List ℕ). field ++ l) stops ∙ sym (append_assoc field (d.separator ∷ []) after))
            ∙ sym (append_assoc read.front (field ++ (d.separator ∷ [])) after);
        parted = parted-more d field text (record { utf8 = f.utf8; form = f.at.form }) read.parted;
        sound = λ others end r.
            subst (λ (ts : List (List ℕ)). RecordAt d bytes ts end) (sym (append_assoc texts (text ∷ []) others))
            (read.sound (text ∷ others) end (field-before d rest text after others end f r));
        complete = λ row end r.
            let before = read.complete row end r in
            let o = behind-separator d sep rest text after before.0 end f before.1 in
            (o.0, o.2);
      }

  pub none-read : IsSeparator d.separator → (fault : Fault) (left : ℕ) → FaultAt d rest fault left → RecordFault d bytes fault left
  none-read sep fault left f = record {
    none = λ row after r.
        let before = read.complete row after r in
        no-record d rest (no-field d sep rest fault left f) before.0 after before.1;
    front = read.front;
    rest = rest;
    parts = read.parts;
    fields = read.parted;
    is = f;
  }

-- ---- bytes are left in each step

pub field-shorter : (d : Dialect) (bytes text after : List ℕ) → FieldAt d bytes text Separator after → length after < length bytes
field-shorter d bytes text after f =
    let e : length bytes ≡ length f.at.field + length f.at.tail = ap length f.at.parts ∙ length-append f.at.field f.at.tail in
    let t : length f.at.tail ≡ length (d.separator ∷ after) = ap length f.at.stops in
    omega arith

some-length : (bytes : List ℕ) → (bytes ≡ [] → ⊥) → 0 < length bytes
some-length [] some = absurd (some refl)
some-length (b ∷ bytes) some = omega arith

pub record-shorter : (d : Dialect) → IsSeparator d.separator → (bytes : List ℕ) (row : List (List ℕ)) (after : List ℕ) → (bytes ≡ [] → ⊥) → RecordAt d bytes row after → length after < length bytes
record-shorter d sep bytes row after some r =
    let w = record-from d sep bytes row after r in
    let e : length bytes ≡ length w.line + length w.tail = ap length w.parts ∙ length-append w.line w.tail in
    elim w.ends [
      | inl h ↦ elim h.1 [
        | inl both ↦ let t : length w.tail ≡ length (13 ∷ 10 ∷ after) = ap length (h.2 ∙ ap (λ (l : List ℕ). l ++ after) both) in omega arith
        | inr one ↦ let t : length w.tail ≡ length (10 ∷ after) = ap length (h.2 ∙ ap (λ (l : List ℕ). l ++ after) one.0) in omega arith
      ]
      | inr h ↦
          let t : length after ≡ 0 = ap length h.1 in
          let l : 0 < length bytes = some-length bytes some in
          omega arith
    ]

pub blank-shorter : (bytes after : List ℕ) → BlankAt bytes after → length after < length bytes
blank-shorter bytes after (inl e) = let t : length bytes ≡ length (10 ∷ after) = ap length e in omega arith
blank-shorter bytes after (inr e) = let t : length bytes ≡ length (13 ∷ 10 ∷ after) = ap length e in omega arith

-- ---- the rows of lines

-- lines with their ends
pub data AreEnded : Dialect → List ℕ → Type 0 where
  no_line : {d : Dialect} {front : List ℕ} → front ≡ [] → AreEnded d front
  line_first : {d : Dialect} {front : List ℕ} (line end rest : List ℕ) (here : List (List (List ℕ))) → front ≡ line ++ (end ++ rest) → IsLine d line here → IsLineEnd line end → AreEnded d rest
      → AreEnded d front

pub ended-more : (d : Dialect) (line end : List ℕ) (here : List (List (List ℕ))) → IsLine d line here → IsLineEnd line end → {front : List ℕ} → AreEnded d front → AreEnded d (front ++ (line ++ end))
ended-more d line end here l e {front} (AreEnded.no_line is) =
    AreEnded.line_first line end [] here (ap (λ (x : List ℕ). x ++ (line ++ end)) is ∙ ap (λ (x : List ℕ). line ++ x) (sym (append-nil end))) l e (AreEnded.no_line refl)
ended-more d line end here l e {front} (AreEnded.line_first first last rest rows is k f o) =
    AreEnded.line_first first last (rest ++ (line ++ end)) rows
    (ap (λ (x : List ℕ). x ++ (line ++ end)) is ∙ append_assoc first (last ++ rest) (line ++ end) ∙ ap (λ (x : List ℕ). first ++ x) (append_assoc last rest (line ++ end))) k f
    (ended-more d line end here l e o)

pub front-of : (d : Dialect) (fields : List ℕ) → AreParted d fields → {front : List ℕ} → AreEnded d front → IsFront d (front ++ fields)
front-of d fields p {front} (AreEnded.no_line is) = IsFront.in_line (subst (λ (x : List ℕ). AreParted d (x ++ fields)) (sym is) p)
front-of d fields p {front} (AreEnded.line_first line end rest here is l e o) =
    IsFront.line_first line end (rest ++ fields) here
    (ap (λ (x : List ℕ). x ++ fields) is ∙ append_assoc line (end ++ rest) fields ∙ ap (λ (x : List ℕ). line ++ x) (append_assoc end rest fields)) l e (front-of d fields p o)

-- lines with their ends are the front of bytes
pub record Going (d : Dialect) (bytes : List ℕ) (rows : List (List (List ℕ))) (rest : List ℕ) : Type 0 where
  pub front : List ℕ
  pub parts : bytes ≡ front ++ rest
  pub ended : AreEnded d front
  pub sound : (more : List (List (List ℕ))) → LinesAt d rest more → LinesAt d bytes (rows ++ more)

-- or the last line has no end
pub record Ended (d : Dialect) (bytes : List ℕ) (rows : List (List (List ℕ))) (rest : List ℕ) : Type 0 where
  pub none : rest ≡ []
  pub all : LinesAt d bytes rows

-- rows were read from the front of bytes, and the rest begins with the lines behind them
pub record RowsRead (d : Dialect) (bytes : List ℕ) (rows : List (List (List ℕ))) (rest : List ℕ) : Type 0 where
  pub sound : Going d bytes rows rest ⊎ Ended d bytes rows rest
  pub complete : (all : List (List (List ℕ))) → LinesAt d bytes all → (more : List (List (List ℕ))) × LinesAt d rest more

pub no-row-read : (d : Dialect) (bytes : List ℕ) → RowsRead d bytes [] bytes
no-row-read d bytes = record { sound = inl (record { front = []; parts = refl; ended = AreEnded.no_line refl; sound = λ more l. l }); complete = λ all l. (all, l) }

pub filled-at : (bytes : List ℕ) → (bytes ≡ [] → ⊥) → ((after : List ℕ) → BlankAt bytes after → ⊥) → FilledAt bytes
filled-at bytes some filled = record { some = some; filled = filled }

-- bytes are left, so each line had an end
going : (d : Dialect) (bytes rest : List ℕ) (rows : List (List (List ℕ))) → (rest ≡ [] → ⊥) → Going d bytes rows rest ⊎ Ended d bytes rows rest → Going d bytes rows rest
going d bytes rest rows some (inl g) = g
going d bytes rest rows some (inr e) = absurd (some e.none)

blank-some : (bytes after : List ℕ) → BlankAt bytes after → bytes ≡ [] → ⊥
blank-some bytes after (inl e) none = cc
blank-some bytes after (inr e) none = cc

-- a line that is passed
module _ (d : Dialect) (bytes rest : List ℕ) (rows : List (List (List ℕ))) (g : Going d bytes rows rest) (line end after : List ℕ) (here : List (List (List ℕ))) where
  pub go-on : rest ≡ line ++ (end ++ after) → IsLine d line here → IsLineEnd line end → ((more : List (List (List ℕ))) → LinesAt d after more → LinesAt d rest (here ++ more))
      → Going d bytes (rows ++ here) after
  go-on is l e passes = record {
    front = g.front ++ (line ++ end);
    parts = g.parts ∙ ap (λ (x : List ℕ). g.front ++ x) (is ∙ sym (append_assoc line end after)) ∙ sym (append_assoc g.front (line ++ end) after);
    ended = ended-more d line end here l e g.ended;
    sound = λ more m. subst (LinesAt d bytes) (sym (append_assoc rows here more)) (g.sound (here ++ more) (passes more m));
  }

-- the line of a record is one of some bytes
filled-line : (d : Dialect) (rest line end after : List ℕ) (row : List (List ℕ)) → FilledAt rest → rest ≡ line ++ (end ++ after) → IsRecord d line row → IsLineEnd line end → IsLine d line (row ∷ [])
filled-line d rest [] end after row f is r e = absurd (f.filled after (elim e [
  | inl both ↦ inr (is ∙ ap (λ (l : List ℕ). l ++ after) both)
  | inr one ↦ inl (is ∙ ap (λ (l : List ℕ). l ++ after) one.0)
]))
filled-line d rest (b ∷ line) end after row f is r e = (row, refl, r)

module _ (d : Dialect) (sep : IsSeparator d.separator) (bytes rest : List ℕ) (rows : List (List (List ℕ))) (read : RowsRead d bytes rows rest) where
  blank-going : (after : List ℕ) → Going d bytes rows rest → BlankAt rest after → Going d bytes (rows ++ []) after
  blank-going after g (inl e) = go-on d bytes rest rows g [] (10 ∷ []) after [] e refl (inr (refl, refl)) (λ more l. LinesAt.blank after (inl e) l)
  blank-going after g (inr e) = go-on d bytes rest rows g [] (13 ∷ 10 ∷ []) after [] e refl (inl refl) (λ more l. LinesAt.blank after (inr e) l)

  pub blank-read : (after : List ℕ) → BlankAt rest after → RowsRead d bytes rows after
  blank-read after b = record {
    sound = inl (subst (λ (x : List (List (List ℕ))). Going d bytes x after) (append-nil rows) (blank-going after (going d bytes rest rows (blank-some rest after b) read.sound) b));
    complete = λ all l.
        let before = read.complete all l in
        (before.0, behind-blank d after b before.1);
  }

  row-sound : (row : List (List ℕ)) (after : List ℕ) → FilledAt rest → RecordAt d rest row after → Going d bytes (rows ++ (row ∷ [])) after ⊎ Ended d bytes (rows ++ (row ∷ [])) after
  row-sound row after f r =
      let g = going d bytes rest rows f.some read.sound in
      let w = record-from d sep rest row after r in
      elim w.ends [
        | inl h ↦
            let is : rest ≡ w.line ++ (h.0 ++ after) = w.parts ∙ ap (λ (l : List ℕ). w.line ++ l) h.2 in
            inl (go-on d bytes rest rows g w.line h.0 after (row ∷ []) is (filled-line d rest w.line h.0 after row f is w.is h.1) h.1
            (λ more l. LinesAt.filled row after more f r refl l))
        | inr h ↦ inr (record {
          none = h.1;
          all = g.sound (row ∷ []) (LinesAt.filled row after [] f r refl (LinesAt.none h.1 refl));
        })
      ]

  pub row-read : (row : List (List ℕ)) (after : List ℕ) → FilledAt rest → RecordAt d rest row after → RowsRead d bytes (rows ++ (row ∷ [])) after
  row-read row after f r = record {
    sound = row-sound row after f r;
    complete = λ all l.
        let before = read.complete all l in
        let o = behind-filled d sep row after f r before.1 in
        (o.0, o.2);
  }

  pub rows-read : rest ≡ [] → IsLines d bytes rows
  rows-read end = elim read.sound [
    | inl g ↦ lines-from d sep (subst (LinesAt d bytes) (append-nil rows) (g.sound [] (LinesAt.none end refl)))
    | inr e ↦ lines-from d sep e.all
  ]

  pub not-read : FilledAt rest → (fault : Fault) (left : ℕ) → RecordFault d rest fault left → LinesFault d bytes fault left
  not-read f fault left r =
      let g = going d bytes rest rows f.some read.sound in
      record {
        none = λ all l.
            let before = read.complete all (lines-at d sep l) in
            no-lines d f r.none before.1;
        is = (g.front ++ r.front, r.rest, g.parts ∙ ap (λ (l : List ℕ). g.front ++ l) r.parts ∙ sym (append_assoc g.front r.front r.rest), front-of d r.front r.fields g.ended, r.is);
      }

-- ---- what a test for no bytes tells

pub some-bytes : (bytes : List ℕ) → false ≡ (length bytes == 0) → bytes ≡ [] → ⊥
some-bytes [] e is = cc
some-bytes (b ∷ bytes) e is = cc

pub no-bytes : (bytes : List ℕ) → true ≡ (length bytes == 0) → bytes ≡ []
no-bytes [] e = refl
no-bytes (b ∷ bytes) e =
    let no : length (b ∷ bytes) ≡ 0 = eqb-true (length (b ∷ bytes)) 0 (sym e) in
    absurd (omega arith)
