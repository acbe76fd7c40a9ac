-- Sizes that are set at rising places, and what spans make of them.
use Rattle.tabled_spans.proofs.Common.{[], ◌++◌, ◌+◌, ◌-◌, ◌<◌, ◌∙◌, ◌∷◌, ◌≡◌, ◌≢◌, ◌≤◌, AreSorted, Axis, Below, Bool, Columns, Less, List, Position, Rectangle, Rows, Size, SpanMap, ap, append_assoc, are_visible, arith, both, cases_Bool, change_at, column_span-is, common_steps, count_of, false, grown_each, halves, if◌then◌else◌, inl, inr, is_eq, less, line_of, min, position_cmp, positions_total, rectangle, refl, resized, row_span-is, size_at, size_at-with_size-other, sized, subst, sym, tied_itself, true, with_size, with_sizes, with_span, with_visible_span, ℕ}

pub with_sizes-append : (m : SpanMap) (xs ys : List Rectangle) → with_sizes m (xs ++ ys) ≡ with_sizes (with_sizes m xs) ys
with_sizes-append m [] ys = refl
with_sizes-append m (x ∷ xs) ys = with_sizes-append (with_size m x.first x.size) xs ys

-- what stands below all of a list stands below each of it
below_here : (k : Position) (xs : List Rectangle) (p : Position) (s : Size) (rest : List Rectangle) → Below k (xs ++ rectangle p s ∷ rest) → position_cmp k p ≡ Less
below_here k [] p s rest b = less _ (halves _ _ b).0
below_here k (x ∷ xs) p s rest b = below_here k xs p s rest (halves _ _ b).1

-- with another size at one of rising places, or with that place left out, they still rise
module _ (p : Position) (s t : Size) (rest : List Rectangle) (stays : Bool) where
  abbrev changed : List Rectangle
  changed = if stays then rectangle p t ∷ [] else []

  below_changed : (k : Position) (xs : List Rectangle) → Below k (xs ++ rectangle p s ∷ rest) → Below k (xs ++ (changed ++ rest))
  below_changed k [] b = elim stays as (λ c. Below k ((if c then rectangle p t ∷ [] else []) ++ rest)) [ true ↦ b | false ↦ (halves _ _ b).1 ]
  below_changed k (x ∷ xs) b = both _ _ (halves _ _ b).0 (below_changed k xs (halves _ _ b).1)

  sorted_changed : (xs : List Rectangle) → AreSorted (xs ++ rectangle p s ∷ rest) → AreSorted (xs ++ (changed ++ rest))
  sorted_changed [] up = elim stays as (λ c. AreSorted ((if c then rectangle p t ∷ [] else []) ++ rest)) [ true ↦ up | false ↦ (halves _ _ up).1 ]
  sorted_changed (x ∷ xs) up = both _ _ (below_changed x.first xs (halves _ _ up).0) (sorted_changed xs (halves _ _ up).1)

-- sizes set at places before do not touch a place
pub size-before : (m : SpanMap) (xs : List Rectangle) (p : Position) (s : Size) (rest : List Rectangle) → AreSorted (xs ++ rectangle p s ∷ rest) → size_at (with_sizes m xs) p ≡ size_at m p
size-before m [] p s rest up = refl
size-before m (x ∷ xs) p s rest up = size-before (with_size m x.first x.size) xs p s rest (halves _ _ up).1 ∙ size_at-with_size-other m x.first x.size p apart
  where
    apart : p ≢ x.first
    apart e =
        let below : position_cmp p p ≡ Less = subst (λ (q : Position). position_cmp q p ≡ Less) (sym e) (below_here x.first xs p s rest (halves _ _ up).0) in
        let never : false ≡ true = sym (ap is_eq below) ∙ ap is_eq (tied_itself positions_total p) in cc

-- a height or a width of at least 1 is a size
pub span-is : (axis : Axis) (m : SpanMap) (p : Position) (many : ℕ) → 1 ≤ many → with_span axis m p many ≡ with_size m p (resized axis (size_at m p) many)
span-is Rows m p many some = row_span-is m p many some
span-is Columns m p many some = column_span-is m p many some

-- the change at a place makes the span there
pub change-is : (axis : Axis) (m : SpanMap) (p : Position) (many : ℕ) → 1 ≤ many → with_sizes m (change_at axis m p many) ≡ with_visible_span axis m p many
change-is axis m p many some = elim (cases_Bool (are_visible axis m p many)) [ inl t ↦ rw t (sym (span-is axis m p many some)) | inr f ↦ rw f refl ]

-- after the change at a place, the next places still rise
pub sorted-change : (axis : Axis) (m : SpanMap) (p : Position) (many : ℕ) (xs rest : List Rectangle) → AreSorted (xs ++ rectangle p (sized 1 1) ∷ rest) → AreSorted ((xs ++ change_at axis m p many) ++ rest)
sorted-change axis m p many xs rest up = subst AreSorted (sym (append_assoc xs (change_at axis m p many) rest)) (sorted_changed p (sized 1 1) (resized axis (size_at m p) many) rest (are_visible axis m p many) xs up)

-- the change at a place, and spans at those that follow
pub changes-more : (cfg : SpanMap) (xs new : List Rectangle) (p : Position) (rest : List Position) (axis : Axis) (size n many : ℕ) → many ≡ min size (n - line_of axis p) → 1 ≤ many → new ≡ xs ++ change_at axis (with_sizes cfg xs) p many → grown_each axis size n (with_sizes cfg new) rest ≡ grown_each axis size n (with_sizes cfg xs) (p ∷ rest)
changes-more cfg xs new p rest axis size n many is some added = grind (arith, common_steps, with_sizes-append, change-is)

pub index_within : (axis : Axis) (p : Position) (rows columns : ℕ) → p.row < rows → p.col < columns → line_of axis p < count_of axis rows columns
index_within Rows p rows columns row col = row
index_within Columns p rows columns row col = col

-- the sizes set so far, with the change at a place
pub changed-sizes : (cfg : SpanMap) (xs new : List Rectangle) (axis : Axis) (p : Position) (many : ℕ) → new ≡ xs ++ change_at axis (with_sizes cfg xs) p many → with_sizes (with_sizes cfg xs) (change_at axis (with_sizes cfg xs) p many) ≡ with_sizes cfg new
changed-sizes cfg xs new axis p many added = sym (ap (with_sizes cfg) added ∙ with_sizes-append cfg xs (change_at axis (with_sizes cfg xs) p many))
