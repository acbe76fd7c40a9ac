-- Records that are written are read back.
use Rattle.std.specs.List.{AllByRecursion}
use Rattle.tabled_json.proofs.BareTexts.{EndsNumber, value-tight, value-written}
use Rattle.tabled_json.proofs.Common.{◌≡◌, ◌∷◌, ◌++◌, ◌∙◌, [], ℕ, List, refl, sym, ap, subst, append_assoc, map}
use Rattle.tabled_json.proofs.Written.{string-written}
use Rattle.tabled_json.specs.Grammar.{AreLines, CellTextAt, ElementsAt, IsRecords, ListAt, MemberAt, ObjectAt}
use Rattle.tabled_json.specs.Space.{behind_space}
use Rattle.tabled_json.specs.Writing.{AreRecords, IsMember, lines_text, member_text, object_text, parted, records_text, string_of, value_of}
use Rattle.tabled_json.specs.declared.form.Layout.{Layout}
use Rattle.tabled_json.specs.declared.form.Layout.TheVariants.{Array, Lines}
use Rattle.tabled_json.specs.declared.form.Values.{Values}

-- ---- elements, a comma and whitespace between them

module _ {A : Type 0} (IsElement : List ℕ → A → List ℕ → Type 0) (Fits : A → Type 0) (text : A → List ℕ) (close : ℕ) (gap : List ℕ)
    (closes : (rest : List ℕ) → EndsNumber (close ∷ rest)) (near : (rest : List ℕ) → behind_space (close ∷ rest) ≡ close ∷ rest)
    (passed : (rest : List ℕ) → behind_space (gap ++ rest) ≡ behind_space rest)
    (tight : (x : A) (rest : List ℕ) → behind_space (text x ++ rest) ≡ text x ++ rest)
    (one : (x : A) (rest : List ℕ) → Fits x → EndsNumber rest → IsElement (text x ++ rest) x rest) where
  pub all-tight : (x : A) (xs : List A) (rest : List ℕ) → behind_space (parted (44 ∷ gap) (map text (x ∷ xs)) ++ rest) ≡ parted (44 ∷ gap) (map text (x ∷ xs)) ++ rest
  all-tight x [] rest = tight x rest
  all-tight x (y ∷ xs) rest =
      let more = (44 ∷ gap) ++ parted (44 ∷ gap) (map text (y ∷ xs)) in
      let parts : (text x ++ more) ++ rest ≡ text x ++ (more ++ rest) = append_assoc (text x) more rest in
      ap behind_space parts ∙ tight x (more ++ rest) ∙ sym parts

  pub elements-written : (x : A) (xs : List A) (rest : List ℕ) → AllByRecursion Fits (x ∷ xs) → ElementsAt IsElement close (parted (44 ∷ gap) (map text (x ∷ xs)) ++ (close ∷ rest)) (x ∷ xs) rest
  elements-written x [] rest all = ElementsAt.last x (close ∷ rest) (one x (close ∷ rest) all.0 (closes rest)) (near rest) refl
  elements-written x (y ∷ xs) rest all =
      let others = parted (44 ∷ gap) (map text (y ∷ xs)) in
      let next = gap ++ (others ++ (close ∷ rest)) in
      let comma : EndsNumber (44 ∷ next) = record { none = refl; all = refl } in
      let behind : behind_space next ≡ others ++ (close ∷ rest) = passed (others ++ (close ∷ rest)) ∙ all-tight y xs (close ∷ rest) in
      let parts : (text x ++ ((44 ∷ gap) ++ others)) ++ (close ∷ rest) ≡ text x ++ (44 ∷ next) =
      append_assoc (text x) ((44 ∷ gap) ++ others) (close ∷ rest) ∙ ap (λ (l : List ℕ). text x ++ (44 ∷ l)) (append_assoc gap others (close ∷ rest)) in
      subst (λ (l : List ℕ). ElementsAt IsElement close l (x ∷ y ∷ xs) rest) (sym parts)
      (ElementsAt.more x (y ∷ xs) (44 ∷ next) next (one x (44 ∷ next) all.0 comma) refl
      (subst (λ (l : List ℕ). ElementsAt IsElement close l (y ∷ xs) rest) (sym behind) (elements-written y xs rest all.1)) refl)

-- ---- members, objects, arrays

member-written : (values : Values) (m : List ℕ × List ℕ) (rest : List ℕ) → IsMember m → EndsNumber rest → MemberAt (member_text values m ++ rest) m rest
member-written values m rest is ends =
    let value = value_of values m.1 ++ rest in
    subst (λ (l : List ℕ). MemberAt l m rest) (sym (append_assoc (string_of m.0) (58 ∷ value_of values m.1) rest)) (record {
      value = value;
      utf8 = is.key;
      key = record { behind = 58 ∷ value; next = value; name = string-written m.0 (58 ∷ value); colon = refl; is = sym (value-tight values m.1 rest) };
      cell = record { utf8 = is.text; is = CellTextAt.scalar (value-written values m.1 rest ends) };
    })

object-written : (values : Values) (o : List (List ℕ × List ℕ)) (rest : List ℕ) → AllByRecursion IsMember o → ObjectAt (object_text values o ++ rest) o rest
object-written values [] rest all = ListAt.none (125 ∷ rest) refl refl refl
object-written values (m ∷ ms) rest all =
    let inner = parted (44 ∷ []) (map (member_text values) (m ∷ ms)) in
    let parts : (inner ++ (125 ∷ [])) ++ rest ≡ inner ++ (125 ∷ rest) = append_assoc inner (125 ∷ []) rest in
    let first : behind_space ((inner ++ (125 ∷ [])) ++ rest) ≡ inner ++ (125 ∷ rest) =
    ap behind_space parts ∙ all-tight MemberAt IsMember (member_text values) 125 [] (λ l. record { none = refl; all = refl }) (λ l. refl) (λ l. refl) (λ x l. refl) (member-written values) m ms (125 ∷ rest) in
    ListAt.some ((inner ++ (125 ∷ [])) ++ rest) refl
    (subst (λ (l : List ℕ). ElementsAt MemberAt 125 l (m ∷ ms) rest) (sym first)
    (elements-written MemberAt IsMember (member_text values) 125 [] (λ l. record { none = refl; all = refl }) (λ l. refl) (λ l. refl) (λ x l. refl) (member-written values) m ms rest all))

array-written : (values : Values) (os : List (List (List ℕ × List ℕ))) → AreRecords os → IsRecords (records_text Array values os) os
array-written values [] all = IsRecords.array (10 ∷ []) (ListAt.none (93 ∷ 10 ∷ []) refl refl refl) refl
array-written values (o ∷ os) all =
    let inner = parted (44 ∷ 10 ∷ []) (map (object_text values) (o ∷ os)) in
    let one : (x : List (List ℕ × List ℕ)) (l : List ℕ) → AllByRecursion IsMember x → EndsNumber l → ObjectAt (object_text values x ++ l) x l = λ x l is ends. object-written values x l is in
    let first : behind_space (inner ++ (93 ∷ 10 ∷ [])) ≡ inner ++ (93 ∷ 10 ∷ []) =
    all-tight ObjectAt (AllByRecursion IsMember) (object_text values) 93 (10 ∷ []) (λ l. record { none = refl; all = refl }) (λ l. refl) (λ l. refl) (λ x l. refl) one o os (93 ∷ 10 ∷ []) in
    IsRecords.array (10 ∷ [])
    (ListAt.some (inner ++ (93 ∷ 10 ∷ [])) refl
    (subst (λ (l : List ℕ). ElementsAt ObjectAt 93 l (o ∷ os) (10 ∷ [])) (sym first)
    (elements-written ObjectAt (AllByRecursion IsMember) (object_text values) 93 (10 ∷ []) (λ l. record { none = refl; all = refl }) (λ l. refl) (λ l. refl) (λ x l. refl) one o os (10 ∷ []) all))) refl

-- ---- lines

-- a line's end before objects changes nothing
behind-line : (bytes : List ℕ) (os : List (List (List ℕ × List ℕ))) → AreLines bytes os → AreLines (10 ∷ bytes) os
behind-line bytes os (AreLines.none end is) = AreLines.none end is
behind-line bytes os (AreLines.line o more after this others is) = AreLines.line o more after this others is

lines-written : (values : Values) (os : List (List (List ℕ × List ℕ))) → AreRecords os → AreLines (lines_text values os) os
lines-written values [] all = AreLines.none refl refl
lines-written values (o ∷ os) all =
    let others = lines_text values os in
    let parts : (object_text values o ++ (10 ∷ [])) ++ others ≡ object_text values o ++ (10 ∷ others) = append_assoc (object_text values o) (10 ∷ []) others in
    subst (λ (l : List ℕ). AreLines l (o ∷ os)) (sym parts)
    (AreLines.line o os (10 ∷ others) (object-written values o (10 ∷ others) all.0) (behind-line others os (lines-written values os all.1)) refl)

pub records-written : (layout : Layout) (values : Values) (os : List (List (List ℕ × List ℕ))) → AreRecords os → IsRecords (records_text layout values os) os
records-written Array values os all = array-written values os all
records-written Lines values os all = IsRecords.lines (lines-written values os all)
