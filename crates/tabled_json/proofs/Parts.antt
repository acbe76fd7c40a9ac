-- What is written, one part after another.
use Rattle.std.proofs.Common.{ap₂}
use Rattle.std.proofs.lemmas.List.{take_all}
use Rattle.std.specs.List.{zip}
use Rattle.std.specs.Prelude.{slice_get}
use Rattle.tabled_json.proofs.Common.{◌≡◌, ◌≤◌, ◌<◌, ◌+◌, ◌-◌, ◌++◌, ◌∷◌, ◌∙◌, [], ℕ, zero, suc, List, Some, refl, sym, ap, arith, append-nil, append_assoc, get_or, length, map, same_Some, take, Err}
use Rattle.tabled_texts.specs.Texts.{row_at}
use Rattle.tabled_json.specs.Writing.{before_index, lines_text, object_text, parted, records_of}
use Rattle.tabled_json.specs.Writes.{IsRefused, OnFailed}
use Rattle.tabled_json.specs.declared.fault.WriteError.{WriteError}
use Rattle.tabled_json.specs.declared.fault.WriteError.TheVariants.{EqualKeys, Failed, LongRow, OutOfMemory}
use Rattle.tabled_json.specs.declared.form.Values.{Values}

-- texts with bytes between them, and one more
pub parted-next : {A : Type 0} (text : A → List ℕ) (between : List ℕ) (xs : List A) (i : ℕ) (x : A) → slice_get xs i ≡ Some x
    → parted between (map text (take i xs)) ++ (before_index i between ++ text x) ≡ parted between (map text (take (i + 1) xs))
parted-next text between [] i x e = cc
parted-next text between (y ∷ xs) zero x e = ap text (sym (same_Some y x e))
parted-next text between (y ∷ []) (suc i) x e = cc
parted-next text between (y ∷ z ∷ xs) (suc zero) x e = ap (λ (t : List ℕ). text y ++ (between ++ t)) (sym (ap text (same_Some z x e)))
parted-next text between (y ∷ z ∷ xs) (suc (suc i)) x e =
    let next : suc (suc i) + 1 ≡ suc (suc (i + 1)) = omega arith in
    let here : suc i + 1 ≡ suc (i + 1) = omega arith in
    let before = parted between (text z ∷ map text (take i xs)) in
    let more : before ++ (between ++ text x) ≡ parted between (map text (take (suc (i + 1)) (z ∷ xs))) = rw here at (parted-next text between (z ∷ xs) (suc i) x e) in
    rw next
    (append_assoc (text y) (between ++ before) (between ++ text x)
    ∙ ap (λ (l : List ℕ). text y ++ l) (append_assoc between before (between ++ text x) ∙ ap (λ (l : List ℕ). between ++ l) more))

pub zip-get : {A B : Type 0} (ks : List A) (vs : List B) (i : ℕ) (k : A) (v : B) → slice_get ks i ≡ Some k → slice_get vs i ≡ Some v → slice_get (zip ks vs) i ≡ Some (k, v)
zip-get [] vs i k v e f = cc
zip-get (x ∷ ks) [] i k v e f = cc
zip-get (x ∷ ks) (y ∷ vs) zero k v e f = ap₂ (λ a b. Some (a, b)) (same_Some x k e) (same_Some y v f)
zip-get (x ∷ ks) (y ∷ vs) (suc i) k v e f = zip-get ks vs i k v e f

map-get : {A B : Type 0} (f : A → B) (xs : List A) (i : ℕ) (d : A) → i < length xs → slice_get (map f xs) i ≡ Some (f (get_or xs i d))
map-get f [] i d inside = absurd (omega arith)
map-get f (x ∷ xs) zero d inside = refl
map-get f (x ∷ xs) (suc i) d inside = map-get f xs i d (omega arith)

-- the record of a row
pub record-get : (rows : List (List (List ℕ))) (i : ℕ) → 1 ≤ i → i < length rows → slice_get (records_of rows) (i - 1) ≡ Some (zip (row_at rows 0) (row_at rows i))
record-get [] i some inside = absurd (omega arith)
record-get (keys ∷ rows) zero some inside = absurd (omega arith)
record-get (keys ∷ rows) (suc i) some inside =
    let here : suc i - 1 ≡ i = omega arith in
    rw here (map-get (zip keys) rows i [] (omega arith))

pub length-map : {A B : Type 0} (f : A → B) (xs : List A) → length (map f xs) ≡ length xs
length-map f [] = refl
length-map f (x ∷ xs) = ap suc (length-map f xs)

-- the records of all rows
pub all-records : (rows : List (List (List ℕ))) (i : ℕ) → length rows ≤ i → take (i - 1) (records_of rows) ≡ records_of rows
all-records [] i end = take_all (i - 1) [] (omega arith)
all-records (keys ∷ rows) i end = take_all (i - 1) (map (zip keys) rows) (omega (arith, length-map (zip keys) rows))

pub lines-next : (values : Values) (xs : List (List (List ℕ × List ℕ))) (i : ℕ) (x : List (List ℕ × List ℕ)) → slice_get xs i ≡ Some x
    → lines_text values (take i xs) ++ (object_text values x ++ (10 ∷ [])) ≡ lines_text values (take (i + 1) xs)
lines-next values [] i x e = cc
lines-next values (y ∷ xs) zero x e =
    ap (λ (o : List (List ℕ × List ℕ)). object_text values o ++ (10 ∷ [])) (sym (same_Some y x e)) ∙ sym (append-nil (object_text values y ++ (10 ∷ [])))
lines-next values (y ∷ xs) (suc i) x e =
    let next : suc i + 1 ≡ suc (i + 1) = omega arith in
    let line = object_text values y ++ (10 ∷ []) in
    rw next
    (append_assoc line (lines_text values (take i xs)) (object_text values x ++ (10 ∷ [])) ∙ ap (λ (l : List ℕ). line ++ l) (lines-next values xs i x e))

-- where the writer didn't fail
pub unfailed-any : (e : WriteError) (P : Type 0) → IsRefused e → OnFailed (Err e) P
unfailed-any OutOfMemory P is = tt
unfailed-any (EqualKeys first second) P is = tt
unfailed-any (LongRow row) P is = tt
unfailed-any (Failed error) P is = absurd is
