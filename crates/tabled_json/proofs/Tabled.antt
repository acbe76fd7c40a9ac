-- Rows of a table, and their records.
use Rattle.std.proofs.Common.{ap₂}
use Rattle.std.proofs.lemmas.List.Folds.{list_any-append}
use Rattle.std.proofs.lemmas.Slice.Eq.{bytes_eq-Decides}
use Rattle.std.specs.List.{AllByRecursion, zip}
use Rattle.std.specs.Prelude.{set}
use Rattle.std.specs.Str.{bytes_eq}
use Rattle.tabled_json.proofs.Columns.{bytes_eq-same, bytes_eq-sym, first-false, none-among, same-bytes, second-false}
use Rattle.tabled_json.proofs.Common.{◌≡◌, ◌∷◌, ◌∙◌, ◌++◌, ◌||◌, [], ℕ, suc, Bool, cond, true, false, List, None, Option, Some, refl, sym, ap, subst, append-nil, append_assoc, arith, length, map, option_map, same_Some}
use Rattle.tabled_json.specs.Tables.{AreDistinct, find_key, is_among, keys_of, last_text, row_of, table_of, with_key, with_members, with_objects}
use Rattle.tabled_json.specs.Writing.{records_of}

-- ---- the row of an object

last-more : (key text : List ℕ) (ms : List (List ℕ × List ℕ)) (m : List ℕ × List ℕ) → last_text key text (ms ++ (m ∷ [])) ≡ cond (bytes_eq m.0 key) m.1 (last_text key text ms)
last-more key text [] m = refl
last-more key text (x ∷ ms) m = last-more key (cond (bytes_eq x.0 key) x.1 text) ms m

row-more : (keys : List (List ℕ)) (ms : List (List ℕ × List ℕ)) (m : List ℕ × List ℕ)
    → row_of keys (ms ++ (m ∷ [])) ≡ map (λ (key : List ℕ). cond (bytes_eq m.0 key) m.1 (last_text key [] ms)) keys
row-more [] ms m = refl
row-more (x ∷ keys) ms m = ap₂ (λ (t : List ℕ) (l : List (List ℕ)). t ∷ l) (last-more x [] ms m) (row-more keys ms m)

same-elsewhere : (f : List ℕ → List ℕ) (k t : List ℕ) (keys : List (List ℕ)) → is_among k keys ≡ false → map f keys ≡ map (λ (key : List ℕ). cond (bytes_eq k key) t (f key)) keys
same-elsewhere f k t [] e = refl
same-elsewhere f k t (x ∷ keys) e =
    let apart : bytes_eq k x ≡ false = bytes_eq-sym x k (first-false (bytes_eq x k) (is_among k keys) e) in
    rw apart (ap (λ (l : List (List ℕ)). f x ∷ l) (same-elsewhere f k t keys (second-false (bytes_eq x k) (is_among k keys) e)))

put-at : (f : List ℕ → List ℕ) (k t : List ℕ) (keys : List (List ℕ)) (c : ℕ) → AreDistinct keys → find_key k keys ≡ Some c
    → set (map f keys) c t ≡ map (λ (key : List ℕ). cond (bytes_eq k key) t (f key)) keys
put-at f k t [] c d e = cc
put-at f k t (x ∷ keys) c d e = of-first (bytes_eq x k) refl (λ j. put-at f k t keys j d.1)
  where
    of-rest : bytes_eq x k ≡ false → (o : Option ℕ) → find_key k keys ≡ o → option_map suc o ≡ Some c → ((j : ℕ) → find_key k keys ≡ Some j → set (map f keys) j t ≡ map (λ (key : List ℕ). cond (bytes_eq k key) t (f key)) keys)
        → set (map f (x ∷ keys)) c t ≡ map (λ (key : List ℕ). cond (bytes_eq k key) t (f key)) (x ∷ keys)
    of-rest g None h i more = cc
    of-rest g (Some j) h i more =
        let is : suc j ≡ c = same_Some (suc j) c i in
        let apart = bytes_eq-sym x k g in
        rw (← is, apart) (ap (λ (l : List (List ℕ)). f x ∷ l) (more j h))

    of-first : (b : Bool) → bytes_eq x k ≡ b → ((j : ℕ) → find_key k keys ≡ Some j → set (map f keys) j t ≡ map (λ (key : List ℕ). cond (bytes_eq k key) t (f key)) keys)
        → set (map f (x ∷ keys)) c t ≡ map (λ (key : List ℕ). cond (bytes_eq k key) t (f key)) (x ∷ keys)
    of-first true g more =
        let is : 0 ≡ c = same_Some 0 c (rw g at e) in
        let same = same-bytes x k g in
        let here : bytes_eq k x ≡ true = (bytes_eq-Decides k x).1 (sym same) in
        let others : is_among k keys ≡ false = subst (λ (q : List ℕ). is_among q keys ≡ false) same d.0 in
        rw (← is, here) (ap (λ (l : List (List ℕ)). t ∷ l) (same-elsewhere f k t keys others))
    of-first false g more = of-rest g (find_key k keys) refl (rw g at e) more

pub row-put : (keys : List (List ℕ)) (ms : List (List ℕ × List ℕ)) (m : List ℕ × List ℕ) (c : ℕ) → AreDistinct keys → find_key m.0 keys ≡ Some c → set (row_of keys ms) c m.1 ≡ row_of keys (ms ++ (m ∷ []))
row-put keys ms m c d e = put-at (λ (key : List ℕ). last_text key [] ms) m.0 m.1 keys c d e ∙ sym (row-more keys ms m)

pub row-other : (keys : List (List ℕ)) (ms : List (List ℕ × List ℕ)) (m : List ℕ × List ℕ) → find_key m.0 keys ≡ None → row_of keys ms ≡ row_of keys (ms ++ (m ∷ []))
row-other keys ms m e = same-elsewhere (λ (key : List ℕ). last_text key [] ms) m.0 m.1 keys (none-among m.0 keys e) ∙ sym (row-more keys ms m)

-- ---- keys are distinct

pub distinct-more : (keys : List (List ℕ)) (key : List ℕ) → AreDistinct keys → is_among key keys ≡ false → AreDistinct (keys ++ (key ∷ []))
distinct-more [] key d e = (refl, tt)
distinct-more (x ∷ keys) key d e =
    let apart : bytes_eq key x ≡ false = bytes_eq-sym x key (first-false (bytes_eq x key) (is_among key keys) e) in
    let first = d.0 in
    (list_any-append (λ (other : List ℕ). bytes_eq other x) keys (key ∷ []) ∙ rw (first, apart) refl, distinct-more keys key d.1 (second-false (bytes_eq x key) (is_among key keys) e))

-- ---- the table of the records of rows

-- a key behind others differs from them
apart-first : (before : List (List ℕ)) (k : List ℕ) (ks : List (List ℕ)) → AreDistinct (before ++ (k ∷ ks)) → is_among k before ≡ false
apart-first [] k ks d = refl
apart-first (x ∷ before) k ks d =
    let among : (is_among x before || (bytes_eq k x || is_among x ks)) ≡ false = sym (list_any-append (λ (other : List ℕ). bytes_eq other x) before (k ∷ ks)) ∙ d.0 in
    let apart : bytes_eq x k ≡ false = bytes_eq-sym k x (first-false (bytes_eq k x) (is_among x ks) (second-false (is_among x before) (bytes_eq k x || is_among x ks) among)) in
    let others = apart-first before k ks d.1 in
    rw (apart, others) refl

new-keys : (before ks vs : List (List ℕ)) → length vs ≡ length ks → AreDistinct (before ++ ks) → with_members before (zip ks vs) ≡ before ++ ks
new-keys before [] vs same d = sym (append-nil before)
new-keys before (k ∷ ks) [] same d = absurd (omega arith)
new-keys before (k ∷ ks) (v ∷ vs) same d =
    let new : is_among k before ≡ false = apart-first before k ks d in
    let joined : (before ++ (k ∷ [])) ++ ks ≡ before ++ (k ∷ ks) = append_assoc before (k ∷ []) ks in
    let with : with_key before k ≡ before ++ (k ∷ []) = rw new refl in
    ap (λ (l : List (List ℕ)). with_members l (zip ks vs)) with ∙ new-keys (before ++ (k ∷ [])) ks vs (omega arith) (subst AreDistinct (sym joined) d) ∙ joined

abbrev AllAmong : List (List ℕ) → List (List ℕ) → Type 0
AllAmong known keys = AllByRecursion (λ (k : List ℕ). is_among k known ≡ true) keys

among-more : (x : List ℕ) (known keys : List (List ℕ)) → AllAmong known keys → AllAmong (x ∷ known) keys
among-more x known [] all = tt
among-more x known (k ∷ keys) all = (second (bytes_eq x k) (is_among k known) all.0, among-more x known keys all.1)
  where
    second : (a b : Bool) → b ≡ true → (a || b) ≡ true
    second true b e = refl
    second false b e = e

among-themselves : (keys : List (List ℕ)) → AllAmong keys keys
among-themselves [] = tt
among-themselves (x ∷ keys) = let same = bytes_eq-same x in (rw same refl, among-more x keys keys (among-themselves keys))

known-keys : (known ks vs : List (List ℕ)) → AllAmong known ks → with_members known (zip ks vs) ≡ known
known-keys known [] vs all = refl
known-keys known (k ∷ ks) [] all = refl
known-keys known (k ∷ ks) (v ∷ vs) all =
    let there = all.0 in
    let with : with_key known k ≡ known = rw there refl in
    ap (λ (l : List (List ℕ)). with_members l (zip ks vs)) with ∙ known-keys known ks vs all.1

all-known : (keys : List (List ℕ)) (rows : List (List (List ℕ))) → with_objects keys (map (zip keys) rows) ≡ keys
all-known keys [] = refl
all-known keys (row ∷ rows) = ap (λ (l : List (List ℕ)). with_objects l (map (zip keys) rows)) (known-keys keys keys row (among-themselves keys)) ∙ all-known keys rows

pub keys-back : (keys row : List (List ℕ)) (rows : List (List (List ℕ))) → AreDistinct keys → length row ≡ length keys → keys_of (records_of (keys ∷ row ∷ rows)) ≡ keys
keys-back keys row rows d same = ap (λ (l : List (List ℕ)). with_objects l (map (zip keys) rows)) (new-keys [] keys row same d) ∙ all-known keys rows

last-apart : (k text : List ℕ) (ks vs : List (List ℕ)) → is_among k ks ≡ false → last_text k text (zip ks vs) ≡ text
last-apart k text [] vs e = refl
last-apart k text (x ∷ ks) [] e = refl
last-apart k text (x ∷ ks) (v ∷ vs) e =
    let apart = first-false (bytes_eq x k) (is_among k ks) e in
    ap (λ (b : Bool). last_text k (cond b v text) (zip ks vs)) apart ∙ last-apart k text ks vs (second-false (bytes_eq x k) (is_among k ks) e)

without-first : (k v : List ℕ) (members : List (List ℕ × List ℕ)) (keys : List (List ℕ)) → is_among k keys ≡ false → row_of keys ((k, v) ∷ members) ≡ row_of keys members
without-first k v members [] e = refl
without-first k v members (x ∷ keys) e =
    let apart : bytes_eq k x ≡ false = bytes_eq-sym x k (first-false (bytes_eq x k) (is_among k keys) e) in
    ap₂ (λ (t : List ℕ) (l : List (List ℕ)). t ∷ l) (ap (λ (b : Bool). last_text x (cond b v []) members) apart) (without-first k v members keys (second-false (bytes_eq x k) (is_among k keys) e))

row-back : (keys row : List (List ℕ)) → AreDistinct keys → length row ≡ length keys → row_of keys (zip keys row) ≡ row
row-back [] [] d same = refl
row-back [] (v ∷ row) d same = absurd (omega arith)
row-back (k ∷ keys) [] d same = absurd (omega arith)
row-back (k ∷ keys) (v ∷ row) d same =
    let here = bytes_eq-same k in
    let text : last_text k [] (zip (k ∷ keys) (v ∷ row)) ≡ v = ap (λ (b : Bool). last_text k (cond b v []) (zip keys row)) here ∙ last-apart k v keys row d.0 in
    ap₂ (λ (t : List ℕ) (l : List (List ℕ)). t ∷ l) text (without-first k v (zip keys row) keys d.0 ∙ row-back keys row d.1 (omega arith))

rows-back : (keys : List (List ℕ)) (rows : List (List (List ℕ))) → AreDistinct keys → AllByRecursion (λ (row : List (List ℕ)). length row ≡ length keys) rows → map (row_of keys) (map (zip keys) rows) ≡ rows
rows-back keys [] d all = refl
rows-back keys (row ∷ rows) d all = ap₂ (λ (r : List (List ℕ)) (l : List (List (List ℕ))). r ∷ l) (row-back keys row d all.0) (rows-back keys rows d all.1)

pub table-back : (keys row : List (List ℕ)) (rows : List (List (List ℕ))) → AreDistinct keys → AllByRecursion (λ (row : List (List ℕ)). length row ≡ length keys) (row ∷ rows)
    → table_of (records_of (keys ∷ row ∷ rows)) ≡ keys ∷ row ∷ rows
table-back keys row rows d all =
    let same = keys-back keys row rows d all.0 in
    ap₂ (λ (ks : List (List ℕ)) (l : List (List (List ℕ))). ks ∷ l) same
    (ap (λ (ks : List (List ℕ)). map (row_of ks) (records_of (keys ∷ row ∷ rows))) same ∙ rows-back keys (row ∷ rows) d all)
