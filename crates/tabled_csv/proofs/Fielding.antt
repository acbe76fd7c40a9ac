-- The field at the front of bytes.
use Rattle.tabled_csv.proofs.Common.{Dialect, opens, eqb-true, ne_eqb, ◌≡◌, ◌<◌, ◌+◌, ◌-◌, ◌++◌, ◌∷◌, ◌∙◌, [], ℕ, List, false, true, refl, sym, ap, subst, append_assoc, begins_with, doubled, drop, drop_more, ends_with, eq-eqb, get_or, inl, inr, is_outside, length, list_any, list_any-append, or_parts, quoted, take, take-append-drop, take_rest, IsSeparator, IsUtf8}
use Rattle.tabled_csv.proofs.Ends.{ends_with-append}
use Rattle.tabled_csv.proofs.Unique.{opens-append, form-unique, stop-quote, tail-unique}
use Rattle.tabled_csv.specs.Fields.{BlankAt, ClosesAt, EndsLine, FormAt, NeverCloses, NoFieldAt, NoStop, PlainAt, Stops, StopsQuoted}
use Rattle.tabled_csv.specs.Faults.{FaultAt}
use Rattle.tabled_csv.specs.declared.fault.Fault.{Fault}
use Rattle.tabled_csv.specs.declared.fault.Fault.TheVariants.{BehindQuote, NotUtf8, UnclosedQuote}
use Rattle.tabled_csv.specs.declared.stop.Stop.{Stop}
use Rattle.tabled_csv.specs.declared.stop.Stop.TheVariants.{End, Line, Separator}

-- ---- what is behind a closing quote

pub blank-stop : (s : ℕ) (bytes after : List ℕ) → BlankAt bytes after → StopsQuoted s bytes Line after
blank-stop s bytes after (inl e) = (10 ∷ [], inr (refl, refl), e)
blank-stop s bytes after (inr e) = (13 ∷ 10 ∷ [], inl refl, e)

pub no-stop : (s : ℕ) (bytes : List ℕ) → begins_with s bytes ≡ false → ((after : List ℕ) → BlankAt bytes after → ⊥) → (bytes ≡ [] → ⊥) → NoStop s bytes
no-stop s bytes separator line end Separator after h = differ (sym separator ∙ ap (begins_with s) h ∙ eq-eqb s s refl)
  where
    differ : false ≡ true → ⊥
    differ e = cc
no-stop s bytes separator line end Line after h = elim h.1 [
  | inl both ↦ line after (inr (h.2 ∙ ap (λ (l : List ℕ). l ++ after) both))
  | inr one ↦ line after (inl (h.2 ∙ ap (λ (l : List ℕ). l ++ after) one.0))
]
no-stop s bytes separator line end End after h = end h.0

-- what is behind a field is behind the last byte of it
behind-quote : (s : ℕ) (field tail : List ℕ) (stop : Stop) (after : List ℕ) → Stops s field tail stop after → StopsQuoted s tail stop after
behind-quote s field tail Separator after h = h
behind-quote s field tail Line after h = elim h.1 [
  | inl both ↦ (h.0, inl both, h.2)
  | inr one ↦ (h.0, inr (one.0, refl), h.2)
]
behind-quote s field tail End after h = h

quote-before : (s : ℕ) (text tail : List ℕ) (stop : Stop) (after : List ℕ) → StopsQuoted s tail stop after → Stops s (quoted text) tail stop after
quote-before s text tail Separator after h = h
quote-before s text tail Line after h = elim h.1 [
  | inl both ↦ (h.0, inl both, h.2)
  | inr one ↦ (h.0, inr (one.0, ends_with-append 13 (34 ∷ doubled text) 34 []), h.2)
]
quote-before s text tail End after h = h

-- ---- fields between quotes

module _ (d : Dialect) (bytes behind : List ℕ) (begins : bytes ≡ 34 ∷ behind) (quoting : d.quoting ≡ true) where
  pub quoted-form : (text rest : List ℕ) (stop : Stop) (after : List ℕ) → ClosesAt behind text rest → StopsQuoted d.separator rest stop after → FormAt d bytes text stop after
  quoted-form text rest stop after c h = record {
    field = quoted text;
    tail = rest;
    parts = begins ∙ ap (λ (l : List ℕ). 34 ∷ l) (c.parts ∙ sym (append_assoc (doubled text) (34 ∷ []) rest));
    form = inr (refl, quoting);
    stops = quote-before d.separator text rest stop after h;
  }

  pub form-quoted : IsSeparator d.separator → (text : List ℕ) (stop : Stop) (after : List ℕ) → FormAt d bytes text stop after → (rest : List ℕ) × ClosesAt behind text rest × StopsQuoted d.separator rest stop after
  form-quoted sep text stop after f = elim f.form [
    | inl plain ↦ absurd (no-plain f.field plain.0.unquoted (stop-quote d.separator sep f.field f.tail stop after f.stops) (sym begins ∙ f.parts))
    | inr between ↦
        let is : 34 ∷ behind ≡ 34 ∷ (doubled text ++ (34 ∷ f.tail)) =
        sym begins ∙ f.parts ∙ ap (λ (l : List ℕ). l ++ f.tail) between.0 ∙ ap (λ (l : List ℕ). 34 ∷ l) (append_assoc (doubled text) (34 ∷ []) f.tail) in
        let parts : behind ≡ doubled text ++ (34 ∷ f.tail) = cc in
        (f.tail, record { parts = parts; single = stop-quote d.separator sep f.field f.tail stop after f.stops }, behind-quote d.separator f.field f.tail stop after f.stops)
  ]
    where
      no-plain : (field : List ℕ) → opens d field ≡ false → begins_with 34 f.tail ≡ false → 34 ∷ behind ≡ field ++ f.tail → ⊥
      no-plain field e g is =
          let no : d.quoting ≡ false = ap (opens d) is ∙ opens-append d field f.tail e g in
          let differ : true ≡ false = sym quoting ∙ no in
          cc

  pub never-closed : IsSeparator d.separator → NeverCloses behind → NoFieldAt d bytes
  never-closed sep never text stop after f =
      let q = form-quoted sep text stop after f.at in
      never text q.0 q.1

  pub nothing-behind : IsSeparator d.separator → (text rest : List ℕ) → ClosesAt behind text rest → NoStop d.separator rest → NoFieldAt d bytes
  nothing-behind sep text rest c none text2 stop after f =
      let q = form-quoted sep text2 stop after f.at in
      none stop after (subst (λ (l : List ℕ). StopsQuoted d.separator l stop after) (tail-unique behind text2 q.0 text rest q.1 c) q.2)

-- ---- a field that isn't UTF-8

pub not-utf8 : (d : Dialect) → IsSeparator d.separator → (bytes text : List ℕ) (stop : Stop) (after : List ℕ) → FormAt d bytes text stop after → (IsUtf8 text → ⊥) → NoFieldAt d bytes
not-utf8 d sep bytes text stop after f bad text2 stop2 after2 g =
    bad (subst IsUtf8 (form-unique d sep bytes text2 text stop2 stop after2 after g.at f).0 g.utf8)

-- ---- plain fields

pub plain-form : (d : Dialect) (bytes text : List ℕ) (stop : Stop) (after : List ℕ) → PlainAt d bytes text stop after → FormAt d bytes text stop after
plain-form d bytes text stop after p = record { field = text; tail = p.tail; parts = p.parts; form = inl (p.plain, refl); stops = p.stops }

opens-front : (d : Dialect) (xs ys : List ℕ) → opens d (xs ++ ys) ≡ false → opens d xs ≡ false
opens-front d [] ys e = refl
opens-front d (x ∷ xs) ys e = e

pub plain-line : (d : Dialect) (bytes : List ℕ) (i : ℕ) (line : List ℕ) → i < length bytes → opens d bytes ≡ false → list_any (is_outside d.separator) (take i bytes) ≡ false
    → get_or bytes i 0 ≡ 10 → EndsLine (take i bytes) line → PlainAt d bytes line Line (take (length bytes - (i + 1)) (drop (i + 1) bytes))
plain-line d bytes i line inside unquoted within feed ends =
    let after = take (length bytes - (i + 1)) (drop (i + 1) bytes) in
    let at : drop i bytes ≡ 10 ∷ after = drop_more bytes i 0 inside ∙ ap (λ (b : ℕ). b ∷ drop (i + 1) bytes) feed ∙ ap (λ (l : List ℕ). 10 ∷ l) (sym (take_rest bytes (i + 1))) in
    let whole : bytes ≡ take i bytes ++ (10 ∷ after) = sym (take-append-drop i bytes) ∙ ap (λ (l : List ℕ). take i bytes ++ l) at in
    elim ends [
      | inl e ↦
          let parts : bytes ≡ line ++ (13 ∷ 10 ∷ after) = whole ∙ ap (λ (l : List ℕ). l ++ (10 ∷ after)) e ∙ append_assoc line (13 ∷ []) (10 ∷ after) in
          let clean = or_parts (list_any (is_outside d.separator) line) (list_any (is_outside d.separator) (13 ∷ []))
          (sym (list_any-append (is_outside d.separator) line (13 ∷ [])) ∙ ap (list_any (is_outside d.separator)) (sym e) ∙ within) in
          record {
            tail = 13 ∷ 10 ∷ after;
            parts = parts;
            plain = record { within = clean.0; unquoted = opens-front d line (13 ∷ 10 ∷ after) (ap (opens d) (sym parts) ∙ unquoted) };
            stops = (13 ∷ 10 ∷ [], inl refl, refl);
          }
      | inr e ↦
          let parts : bytes ≡ line ++ (10 ∷ after) = whole ∙ ap (λ (l : List ℕ). l ++ (10 ∷ after)) (sym e.0) in
          record {
            tail = 10 ∷ after;
            parts = parts;
            plain = record {
              within = ap (list_any (is_outside d.separator)) e.0 ∙ within;
              unquoted = opens-front d line (10 ∷ after) (ap (opens d) (sym parts) ∙ unquoted);
            };
            stops = (10 ∷ [], inr (refl, ap (ends_with 13) e.0 ∙ e.1), refl);
          }
    ]

-- what ends a plain field and is no separator
pub line-feed : (s b : ℕ) → is_outside s b ≡ true → (b ≡ s → ⊥) → b ≡ 10
line-feed s b e other = eqb-true b 10 (rw (ne_eqb b s other) at e)

-- ---- faults

pub no-field : (d : Dialect) → IsSeparator d.separator → (bytes : List ℕ) (fault : Fault) (left : ℕ) → FaultAt d bytes fault left → NoFieldAt d bytes
no-field d sep bytes UnclosedQuote left f = never-closed d bytes f.0 f.1 f.4 sep f.2
no-field d sep bytes BehindQuote left f =
    let is : bytes ≡ 34 ∷ (doubled f.0 ++ (34 ∷ f.1)) = f.2 ∙ ap (λ (l : List ℕ). 34 ∷ l) (append_assoc (doubled f.0) (34 ∷ []) f.1) in
    nothing-behind d bytes (doubled f.0 ++ (34 ∷ f.1)) is f.6 sep f.0 f.1 (record { parts = refl; single = f.3 }) f.4
no-field d sep bytes NotUtf8 left f = not-utf8 d sep bytes f.0 f.1 f.2 f.3 f.4

pub behind-fault : (d : Dialect) (bytes behind text tail : List ℕ) → bytes ≡ 34 ∷ behind → d.quoting ≡ true → ClosesAt behind text tail → NoStop d.separator tail → FaultAt d bytes BehindQuote (length tail)
behind-fault d bytes behind text tail begins quoting c none =
    (text, tail, begins ∙ ap (λ (l : List ℕ). 34 ∷ l) (c.parts ∙ sym (append_assoc (doubled text) (34 ∷ []) tail)), c.single, none, refl, quoting)
