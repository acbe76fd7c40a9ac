-- Rows, and the tables that bytes are: one meaning at most.
use Rattle.tabled_json.proofs.Common.{◌≡◌, ◌∷◌, ◌∙◌, [], ℕ, true, false, List, NoneAt, ap, arith, heads, refl, sym}
use Rattle.tabled_json.proofs.Cells.{one-list, text-unique}
use Rattle.tabled_json.proofs.Lines.{records-unique}
use Rattle.tabled_json.proofs.Lists.{IsOne, elements-back}
use Rattle.tabled_json.proofs.Scalars.{not-scalar}
use Rattle.tabled_json.specs.Space.{behind_space}
use Rattle.tabled_json.specs.Grammar.{AreLines, AreRows, CellAt, CellTextAt, ElementsAt, IsRecords, ListAt, ObjectAt, RowAt}
use Rattle.tabled_json.specs.Meanings.{HoldsNoTable, HoldsTable, NoRows, begins_rows, begins_with}
use Rattle.tabled_json.specs.Records.{NoRecords}
use Rattle.tabled_json.specs.Tables.{table_of}
use Rattle.tabled_json.specs.declared.kind.Kind.TheVariants.{Array, Object}

pub one-cell : IsOne CellAt
one-cell = record { same = λ bytes after other x y a b. text-unique bytes x after y other a.is b.is }

text-not-close : (rest text after : List ℕ) → CellTextAt (93 ∷ rest) text after → ⊥
text-not-close rest text after (CellTextAt.scalar s) =
    not-scalar 93 rest (λ k. omega arith) (λ k. omega arith) (λ k. omega arith) (λ k. omega arith) refl text after s
text-not-close rest text after (CellTextAt.nested Array inner e v t) = let k : ◌≡◌ {A = ℕ} 93 91 = heads 93 91 rest inner e in omega arith
text-not-close rest text after (CellTextAt.nested Object inner e v t) = let k : ◌≡◌ {A = ℕ} 93 123 = heads 93 123 rest inner e in omega arith

cell-not-close : (rest : List ℕ) → NoneAt CellAt (93 ∷ rest)
cell-not-close rest text after c = text-not-close rest text after c.is

pub one-row : IsOne RowAt
one-row = one-list CellAt 91 93 one-cell (λ e. omega arith) cell-not-close

row-not-close : (rest : List ℕ) → NoneAt RowAt (93 ∷ rest)
row-not-close rest texts after (ListAt.none inner e f g) = let k : ◌≡◌ {A = ℕ} 93 91 = heads 93 91 rest inner e in omega arith
row-not-close rest texts after (ListAt.some inner e d) = let k : ◌≡◌ {A = ℕ} 93 91 = heads 93 91 rest inner e in omega arith

pub one-rows : IsOne (ListAt RowAt 91 93)
one-rows = one-list RowAt 91 93 one-row (λ e. omega arith) row-not-close

pub no-rows : (bytes : List ℕ) → NoneAt (ListAt RowAt 91 93) (behind_space bytes) → NoRows bytes
no-rows bytes none rows are = none rows are.after are.is

pub rows-not-ended : (bytes after : List ℕ) (found : List (List (List ℕ))) → ListAt RowAt 91 93 (behind_space bytes) found after → (behind_space after ≡ [] → ⊥) → NoRows bytes
rows-not-ended bytes after found list some rows are =
    some (ap behind_space (one-rows.same (behind_space bytes) after are.after found rows list are.is).1 ∙ are.ended)

-- ---- what an array begins with

list-begins : {A : Type 0} (IsElement : List ℕ → A → List ℕ → Type 0) (opener close : ℕ) (bytes after : List ℕ) (xs : List A) → ListAt IsElement opener close bytes xs after
    → (inner : List ℕ) × (bytes ≡ opener ∷ inner)
list-begins IsElement opener close bytes after xs (ListAt.none inner e f g) = (inner, e)
list-begins IsElement opener close bytes after xs (ListAt.some inner e d) = (inner, e)

-- an array of rows holds none, or begins with another one
row-begins : (inner after : List ℕ) (rows : List (List (List ℕ))) → ElementsAt RowAt 93 (behind_space inner) rows after → begins_rows (91 ∷ inner) ≡ true
row-begins inner after rows d =
    let b = elements-back RowAt 93 (behind_space inner) after rows d in
    let l = list-begins CellAt 91 93 (behind_space inner) b.2 b.0 b.3 in
    ap (begins_with 91) l.1

-- no object begins with an array
object-begins : (inner after : List ℕ) (objects : List (List (List ℕ × List ℕ))) → ElementsAt ObjectAt 93 (behind_space inner) objects after → begins_rows (91 ∷ inner) ≡ false
object-begins inner after objects d =
    let b = elements-back ObjectAt 93 (behind_space inner) after objects d in
    let l = list-begins _ 123 125 (behind_space inner) b.2 b.0 b.3 in
    ap (begins_with 91) l.1

records-begin : (bytes : List ℕ) (objects : List (List (List ℕ × List ℕ))) → IsRecords bytes objects → begins_rows (behind_space bytes) ≡ false
records-begin bytes objects (IsRecords.array after (ListAt.none inner e f g) h) = ap begins_rows e ∙ ap (begins_with 91) f
records-begin bytes objects (IsRecords.array after (ListAt.some inner e d) h) = ap begins_rows e ∙ object-begins inner after objects d
records-begin bytes objects (IsRecords.lines (AreLines.none e g)) = ap begins_rows e
records-begin bytes objects (IsRecords.lines (AreLines.line object more after d r g)) =
    let l = list-begins _ 123 125 (behind_space bytes) after object d in
    ap begins_rows l.1

pub rows-alone : (bytes : List ℕ) → begins_rows (behind_space bytes) ≡ true → NoRows bytes → HoldsNoTable bytes
rows-alone bytes e none rows (HoldsTable.of_records objects is same) = let k : true ≡ false = sym e ∙ records-begin bytes objects is in cc
rows-alone bytes e none rows (HoldsTable.of_rows are) = none rows are

-- rows of which none is an array first are no rows at all, and so no records
none-or-rows : (bytes after : List ℕ) (rows : List (List (List ℕ))) → ListAt RowAt 91 93 (behind_space bytes) rows after → behind_space after ≡ []
    → begins_rows (behind_space bytes) ≡ false → IsRecords bytes [] × (rows ≡ [])
none-or-rows bytes after rows (ListAt.none inner e f g) h not = (IsRecords.array after (ListAt.none inner e f refl) h, g)
none-or-rows bytes after rows (ListAt.some inner e d) h not = let k : false ≡ true = sym not ∙ (ap begins_rows e ∙ row-begins inner after rows d) in cc

pub records-alone : (bytes : List ℕ) → begins_rows (behind_space bytes) ≡ false → NoRecords bytes → HoldsNoTable bytes
records-alone bytes e none rows (HoldsTable.of_records objects is same) = none objects is
records-alone bytes e none rows (HoldsTable.of_rows are) = none [] (none-or-rows bytes are.after rows are.is are.ended e).0

-- ---- one meaning

both-same : (bytes : List ℕ) (rows : List (List (List ℕ))) (objects : List (List (List ℕ × List ℕ))) → IsRecords bytes objects → AreRows bytes rows → rows ≡ table_of objects
both-same bytes rows objects is are =
    let n = none-or-rows bytes are.after rows are.is are.ended (records-begin bytes objects is) in
    n.1 ∙ ap table_of (records-unique bytes [] objects n.0 is)

pub table-unique : (bytes : List ℕ) (rows others : List (List (List ℕ))) → HoldsTable bytes rows → HoldsTable bytes others → rows ≡ others
table-unique bytes rows others (HoldsTable.of_records objects is e) (HoldsTable.of_records more also f) =
    e ∙ (ap table_of (records-unique bytes objects more is also) ∙ sym f)
table-unique bytes rows others (HoldsTable.of_records objects is e) (HoldsTable.of_rows are) = e ∙ sym (both-same bytes others objects is are)
table-unique bytes rows others (HoldsTable.of_rows are) (HoldsTable.of_records objects is e) = both-same bytes rows objects is are ∙ sym e
table-unique bytes rows others (HoldsTable.of_rows are) (HoldsTable.of_rows also) =
    (one-rows.same (behind_space bytes) are.after also.after rows others are.is also.is).0
