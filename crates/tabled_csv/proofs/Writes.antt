-- What is written, part by part.
use Rattle.tabled_csv.proofs.Common.{AllByRecursion, AreTexts, Err, Ok, OnErr, OnOk, Result, ◌≡◌, ◌<◌, ◌≤◌, ◌+◌, ◌-◌, ◌&&◌, ◌||◌, ◌==◌, ◌++◌, ◌∷◌, ◌∙◌, [], ℕ, zero, suc, List, Bool, false, true, refl, sym, ap, subst, arith, append-nil, append_assoc, begins_with_mark, csv_of, doubled, drop, field_of, get_or, holds_special, is_none, length, length-drop, lines_of, ne_eqb, others_of, quoted, record_of, same_Some, slice_get, Some, take, take-append-drop, take_all, take_more, take_rest}

-- ---- between quotes

-- all bytes up to the end, the last of them without a quote
pub whole-quoted : (text : List ℕ) (w i : ℕ) → length text ≤ i → doubled (take i text) ≡ doubled (take w text) ++ take (i - w) (drop w text)
    → ((34 ∷ doubled (take w text)) ++ take (length text - w) (drop w text)) ++ (34 ∷ []) ≡ quoted text
whole-quoted text w i end quiet =
    let rest : take (length text - w) (drop w text) ≡ take (i - w) (drop w text) = take_rest text w ∙ sym (take_all (i - w) (drop w text) (omega (arith, length-drop w text))) in
    ap (λ (l : List ℕ). 34 ∷ (l ++ (34 ∷ [])))
    (ap (λ (l : List ℕ). doubled (take w text) ++ l) rest ∙ sym quiet ∙ ap doubled (take_all i text end))

-- ---- fields

pub taken : {A : Type 0} (xs : List A) (k : ℕ) (x : A) → slice_get xs k ≡ Some x → take (k + 1) xs ≡ take k xs ++ (x ∷ [])
taken [] k x e = cc
taken (y ∷ ys) zero x e = ap (λ z. z ∷ []) (same_Some y x e)
taken (y ∷ ys) (suc k) x e =
    let next : suc k + 1 ≡ suc (k + 1) = omega arith in
    rw next (ap (λ l. y ∷ l) (taken ys k x e))

-- all fields behind the first
pub all-behind : (row : List (List ℕ)) (j : ℕ) → length row ≤ j → take (j - 1) (drop 1 row) ≡ drop 1 row
all-behind [] j end = take_all (j - 1) [] (omega arith)
all-behind (first ∷ others) j end = take_all (j - 1) others (omega arith)

-- one more field of those behind the first
pub one-more : (row : List (List ℕ)) (j : ℕ) (text : List ℕ) → 1 ≤ j → slice_get row j ≡ Some text → take (j + 1 - 1) (drop 1 row) ≡ take (j - 1) (drop 1 row) ++ (text ∷ [])
one-more row zero text some e = absurd (omega arith)
one-more [] (suc j) text some e = cc
one-more (first ∷ others) (suc j) text some e =
    let next : suc j + 1 - 1 ≡ j + 1 = omega arith in
    let here : suc j - 1 ≡ j = omega arith in
    rw (next, here) (taken others j text e)

others-append : (s : ℕ) (xs ys : List (List ℕ)) → others_of s (xs ++ ys) ≡ others_of s xs ++ others_of s ys
others-append s [] ys = refl
others-append s (text ∷ xs) ys =
    ap (λ (l : List ℕ). s ∷ (field_of (holds_special s text) text ++ l)) (others-append s xs ys)
    ∙ ap (λ (l : List ℕ). s ∷ l) (sym (append_assoc (field_of (holds_special s text) text) (others_of s xs) (others_of s ys)))

pub others-more : (s : ℕ) (xs ys : List (List ℕ)) (text : List ℕ) → ys ≡ xs ++ (text ∷ []) → others_of s xs ++ ((s ∷ []) ++ field_of (holds_special s text) text) ≡ others_of s ys
others-more s xs ys text is =
    ap (λ (l : List ℕ). others_of s xs ++ (s ∷ l)) (sym (append-nil (field_of (holds_special s text) text)))
    ∙ sym (ap (others_of s) is ∙ others-append s xs (text ∷ []))

lone : (text : List ℕ) (others : List (List ℕ)) → (length (text ∷ others) == 1) ≡ is_none others
lone text [] = refl
lone text (next ∷ others) = ne_eqb (length (text ∷ next ∷ others)) 1 (λ e. omega arith)

pub record-is : (s : ℕ) (f q : Bool) (row : List (List ℕ)) (width : ℕ) (text : List ℕ) → slice_get row 0 ≡ Some text → width ≡ length row
    → q ≡ holds_special s text || (((width == 1) && is_none text) || (f && begins_with_mark text)) → (field_of q text ++ others_of s (drop 1 row)) ++ (10 ∷ []) ≡ record_of s f row
record-is s f q [] width text e w is = cc
record-is s f q (first ∷ others) width text e w is = rw (is, w, lone first others, same_Some first text e) refl

pub no-fields : (s : ℕ) (f : Bool) (row : List (List ℕ)) → length row ≡ 0 → 10 ∷ [] ≡ record_of s f row
no-fields s f [] is = refl
no-fields s f (x ∷ row) is = absurd (omega arith)

-- ---- rows

lines-append : (s : ℕ) (f : Bool) (xs ys : List (List (List ℕ))) → lines_of s f (xs ++ ys) ≡ lines_of s f xs ++ lines_of s (f && is_none xs) ys
lines-append s true [] ys = refl
lines-append s false [] ys = refl
lines-append s true (x ∷ xs) ys =
    ap (λ (l : List ℕ). record_of s true x ++ l) (lines-append s false xs ys) ∙ sym (append_assoc (record_of s true x) (lines_of s false xs) (lines_of s false ys))
lines-append s false (x ∷ xs) ys =
    ap (λ (l : List ℕ). record_of s false x ++ l) (lines-append s false xs ys) ∙ sym (append_assoc (record_of s false x) (lines_of s false xs) (lines_of s false ys))

-- the lines of the first rows, and then those of the others
pub lines-parts : (s : ℕ) (rows : List (List (List ℕ))) (i : ℕ) → csv_of s rows ≡ csv_of s (take i rows) ++ lines_of s (is_none (take i rows)) (drop i rows)
lines-parts s rows i = ap (csv_of s) (sym (take-append-drop i rows)) ∙ lines-append s true (take i rows) (drop i rows)

none-taken : {A : Type 0} (xs : List A) (i : ℕ) → i < length xs → is_none (take i xs) ≡ (i == 0)
none-taken [] i inside = absurd (omega arith)
none-taken (x ∷ xs) zero inside = refl
none-taken (x ∷ xs) (suc i) inside = sym (ne_eqb (suc i) 0 (λ e. omega arith))

pub lines-more : (s : ℕ) (rows : List (List (List ℕ))) (i : ℕ) → i < length rows → csv_of s (take i rows) ++ record_of s (i == 0) (get_or rows i []) ≡ csv_of s (take (i + 1) rows)
lines-more s rows i inside =
    ap (λ (f : Bool). csv_of s (take i rows) ++ record_of s f (get_or rows i [])) (sym (none-taken rows i inside))
    ∙ sym (ap (csv_of s) (take_more rows i [] inside) ∙ lines-append s true (take i rows) (get_or rows i [] ∷ []) ∙ ap (λ (l : List ℕ). csv_of s (take i rows) ++ l) (append-nil (record_of s (is_none (take i rows)) (get_or rows i []))))

-- ---- what holds of each text

pub any-err : {A E : Type 0} (r : Result A E) (P : Type 0) → P → OnErr r P
any-err (Ok x) P h = tt
any-err (Err e) P h = h

pub on-ok : {A E : Type 0} (r : Result A E) (P Q : Type 0) → (P → Q) → OnOk r P → OnOk r Q
on-ok (Ok x) P Q f h = f h
on-ok (Err e) P Q f h = h

pub all-append : {A : Type 0} (P : A → Type 0) (xs ys : List A) → AllByRecursion P xs → AllByRecursion P ys → AllByRecursion P (xs ++ ys)
all-append P [] ys a b = b
all-append P (x ∷ xs) ys a b = (a.0, all-append P xs ys a.1 b)

pub all-more : {A : Type 0} (P : A → Type 0) (xs ys : List A) (x : A) → ys ≡ xs ++ (x ∷ []) → AllByRecursion P xs → P x → AllByRecursion P ys
all-more P xs ys x is all this = subst (AllByRecursion P) (sym is) (all-append P xs (x ∷ []) all (this, tt))

pub row-texts : (row : List (List ℕ)) (text : List ℕ) → slice_get row 0 ≡ Some text → AreTexts (text ∷ []) → AreTexts (drop 1 row) → AreTexts row
row-texts [] text e first others = tt
row-texts (x ∷ row) text e first others = ((subst (λ (t : List ℕ). AreTexts (t ∷ [])) (sym (same_Some x text e)) first).0, others)

pub no-texts : (row : List (List ℕ)) → length row ≡ 0 → AreTexts row
no-texts [] is = tt
no-texts (x ∷ row) is = absurd (omega arith)
