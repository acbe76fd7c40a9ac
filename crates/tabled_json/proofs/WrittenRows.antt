-- Rows that are written are read back.
use Rattle.std.specs.List.{AllByRecursion, zip}
use Rattle.tabled_json.proofs.Common.{◌≡◌, ◌==◌, ◌∷◌, [], ℕ, List, false, refl, sym, subst, map, IsUtf8}
use Rattle.tabled_json.proofs.Tabled.{table-back}
use Rattle.tabled_json.proofs.WrittenRecords.{records-written}
use Rattle.tabled_json.specs.Grammar.{IsRecords}
use Rattle.tabled_json.specs.Laws.{IsTable}
use Rattle.tabled_json.specs.Records.{MeansRecords}
use Rattle.tabled_json.specs.Tables.{table_of}
use Rattle.tabled_json.specs.Writing.{AreRecords, IsMember, records_of, records_text}
use Rattle.tabled_json.specs.declared.form.Layout.{Layout}
use Rattle.tabled_json.specs.declared.form.Layout.TheVariants.{Array, Lines}
use Rattle.tabled_json.specs.declared.form.Values.{Values}
use Rattle.tabled_texts.specs.Marks.{begins_with_mark, behind_mark}

-- no byte order mark begins with this byte
no-mark : (b : ℕ) (bytes : List ℕ) → (b == 239) ≡ false → begins_with_mark (b ∷ bytes) ≡ false
no-mark b [] e = refl
no-mark b (c ∷ []) e = refl
no-mark b (c ∷ d ∷ bytes) e = rw e refl

unmarked : (layout : Layout) (values : Values) (objects : List (List (List ℕ × List ℕ))) → begins_with_mark (records_text layout values objects) ≡ false
unmarked Array values [] = refl
unmarked Array values (o ∷ objects) = no-mark 91 _ refl
unmarked Lines values [] = refl
unmarked Lines values (o ∷ objects) = no-mark 123 _ refl

pub records-mean : (layout : Layout) (values : Values) (objects : List (List (List ℕ × List ℕ))) → AreRecords objects → MeansRecords (records_text layout values objects) objects
records-mean layout values objects all =
    let same : behind_mark (records_text layout values objects) ≡ records_text layout values objects = rw (unmarked layout values objects) refl in
    subst (λ (l : List ℕ). IsRecords l objects) (sym same) (records-written layout values objects all)

members-texts : (keys row : List (List ℕ)) → AllByRecursion IsUtf8 keys → AllByRecursion IsUtf8 row → AllByRecursion IsMember (zip keys row)
members-texts [] row k r = tt
members-texts (key ∷ keys) [] k r = tt
members-texts (key ∷ keys) (text ∷ row) k r = (record { key = k.0; text = r.0 }, members-texts keys row k.1 r.1)

rows-texts : (keys : List (List ℕ)) (rows : List (List (List ℕ))) → AllByRecursion IsUtf8 keys → AllByRecursion (AllByRecursion IsUtf8) rows → AreRecords (map (zip keys) rows)
rows-texts keys [] k all = tt
rows-texts keys (row ∷ rows) k all = (members-texts keys row k all.0, rows-texts keys rows k all.1)

pub are-records : (rows : List (List (List ℕ))) → AllByRecursion (AllByRecursion IsUtf8) rows → AreRecords (records_of rows)
are-records [] all = tt
are-records (keys ∷ rows) all = rows-texts keys rows all.0 all.1

pub same-table : (rows : List (List (List ℕ))) → IsTable rows → table_of (records_of rows) ≡ rows
same-table [] is = absurd is
same-table (keys ∷ []) is = absurd is
same-table (keys ∷ row ∷ rows) is = table-back keys row rows is.0 is.1
