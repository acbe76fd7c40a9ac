-- The arms of corners: the borders that meet where four places do.
use Rattle.tabled_draw.proofs.Common.{Arms, Bool, None, Option, Position, Rectangle, Some, Style, [], ap, ap₂, are_none, arms, cases_Bool, cond, corner, corner_if, differ, false, inl, inr, marked, not, refl, replicate, same_place, same_place-self, same_place-true, size_if, sym, true, ◌∙◌, ◌≡◌, ◌⊎◌, false≢true, List, ◌∷◌}
use Rattle.tabled_draw.specs.Borders.{are_one}

pub differ-comm : (a b : Option Rectangle) → differ a b ≡ differ b a
differ-comm None None = refl
differ-comm None (Some q) = refl
differ-comm (Some p) None = refl
differ-comm (Some p) (Some q) = ap not (same-comm p.first q.first (cases_Bool (same_place p.first q.first)) (cases_Bool (same_place q.first p.first)))
  where
    same-comm : (x y : Position) → (same_place x y ≡ true) ⊎ (same_place x y ≡ false) → (same_place y x ≡ true) ⊎ (same_place y x ≡ false) → same_place x y ≡ same_place y x
    same-comm x y (inl t) (inl u) = t ∙ sym u
    same-comm x y (inr f) (inr h) = f ∙ sym h
    same-comm x y (inl t) (inr f) = absurd (false≢true (sym f ∙ ap (λ z. same_place z x) (sym (same_place-true x y t)) ∙ same_place-self x))
    same-comm x y (inr f) (inl t) = absurd (false≢true (sym f ∙ ap (λ z. same_place z y) (sym (same_place-true y x t)) ∙ same_place-self y))

pub differ-past : (a b c : Option Rectangle) → differ a b ≡ false → differ b c ≡ false → differ a c ≡ false
differ-past None None c e f = f
differ-past None (Some q) c e f = absurd (false≢true (sym e))
differ-past (Some p) None c e f = absurd (false≢true (sym e))
differ-past (Some p) (Some q) None e f = absurd (false≢true (sym f))
differ-past (Some p) (Some q) (Some r) e f = ap (λ x. not (same_place x r.first)) (same_place-true p.first q.first (not-false _ e)) ∙ f
  where
    not-false : (b : Bool) → not b ≡ false → b ≡ true
    not-false true h = refl
    not-false false h = absurd (false≢true (sym h))

-- where three arms are missing, so is the fourth
alone-not : (x : Arms) → (x.right ≡ false → x.down ≡ false → x.left ≡ false → x.up ≡ false) → (x.up ≡ false → x.down ≡ false → x.left ≡ false → x.right ≡ false) → (x.up ≡ false → x.right ≡ false → x.left ≡ false → x.down ≡ false) → (x.up ≡ false → x.right ≡ false → x.down ≡ false → x.left ≡ false) → are_one x ≡ false
alone-not x up right down left = not-one x.up x.right x.down x.left up right down left
  where
    not-one : (u r d l : Bool) → (r ≡ false → d ≡ false → l ≡ false → u ≡ false) → (u ≡ false → d ≡ false → l ≡ false → r ≡ false) → (u ≡ false → r ≡ false → l ≡ false → d ≡ false) → (u ≡ false → r ≡ false → d ≡ false → l ≡ false) → are_one (record { up = u; right = r; down = d; left = l }) ≡ false
    not-one true false false false up right down left = absurd (false≢true (sym (up refl refl refl)))
    not-one false true false false up right down left = absurd (false≢true (sym (right refl refl refl)))
    not-one false false true false up right down left = absurd (false≢true (sym (down refl refl refl)))
    not-one false false false true up right down left = absurd (false≢true (sym (left refl refl refl)))
    not-one false false false false up right down left = refl
    not-one true true false false up right down left = refl
    not-one true false true false up right down left = refl
    not-one true false false true up right down left = refl
    not-one false true true false up right down left = refl
    not-one false true false true up right down left = refl
    not-one false false true true up right down left = refl
    not-one true true true false up right down left = refl
    not-one true true false true up right down left = refl
    not-one true false true true up right down left = refl
    not-one false true true true up right down left = refl
    not-one true true true true up right down left = refl

pub none-alone : (a b c d : Option Rectangle) → are_one (arms a b c d) ≡ false
none-alone a b c d = alone-not (arms a b c d)
    (λ bd cd ac. differ-past a c b ac (differ-past c d b cd (differ-comm d b ∙ bd)))
    (λ ab cd ac. differ-past b a d (differ-comm b a ∙ ab) (differ-past a c d ac cd))
    (λ ab bd ac. differ-past c a d (differ-comm c a ∙ ac) (differ-past a b d ab bd))
    (λ ab bd cd. differ-past a b c ab (differ-past b d c bd (differ-comm d c ∙ cd)))

-- ---- no arm

pub differ-self : (a : Option Rectangle) → differ a a ≡ false
differ-self None = refl
differ-self (Some p) = ap not (same_place-self p.first)

-- only outside the table no border lies beside a place outside
pub differ-none : (b : Option Rectangle) → differ None b ≡ false → b ≡ None
differ-none None h = refl
differ-none (Some q) h = absurd (false≢true (sym h))

-- where there is no arm, no two places differ that lie beside each other
pub none-parts : (x : Arms) → are_none x ≡ true → (x.up ≡ false) × (x.right ≡ false) × (x.down ≡ false) × (x.left ≡ false)
none-parts x h = all-false x.up x.right x.down x.left h
  where
    all-false : (u r d l : Bool) → are_none (record { up = u; right = r; down = d; left = l }) ≡ true → (u ≡ false) × (r ≡ false) × (d ≡ false) × (l ≡ false)
    all-false false false false false h = (refl, refl, refl, refl)
    all-false true r d l h = absurd (false≢true h)
    all-false false true d l h = absurd (false≢true h)
    all-false false false true l h = absurd (false≢true h)
    all-false false false false true h = absurd (false≢true h)

none-from : (u r d l : Bool) → u ≡ false → r ≡ false → d ≡ false → l ≡ false → are_none (record { up = u; right = r; down = d; left = l }) ≡ true
none-from u r d l e f h k = rw (e, f, h, k) refl

-- one owner all round has no arm
pub none-one : (a b c d : Option Rectangle) (o : Rectangle) → a ≡ Some o → b ≡ Some o → c ≡ Some o → d ≡ Some o → are_none (arms a b c d) ≡ true
none-one a b c d o e f h k = none-from (differ a b) (differ b d) (differ c d) (differ a c) (one a b e f) (one b d f k) (one c d h k) (one a c e h)
  where
    one : (x y : Option Rectangle) → x ≡ Some o → y ≡ Some o → differ x y ≡ false
    one x y e f = ap₂ differ e f ∙ differ-self (Some o)

pub same-arms : (a b c d a' b' c' d' : Bool) → a ≡ a' → b ≡ b' → c ≡ c' → d ≡ d' → (let x : Arms = record { up = a; right = b; down = c; left = d } in x) ≡ record { up = a'; right = b'; down = c'; left = d' }
same-arms a b c d a' b' c' d' e f h k = rw (e, f, h, k) refl

-- a corner as it is drawn
pub marked-corner : (style : Style) (drawn : Bool) (x : Arms) → cond (are_none x) [] (replicate (size_if drawn) (corner style x)) ≡ marked drawn (corner_if style x)
marked-corner style drawn x = elim (are_none x) as (λ b. cond b [] (replicate (size_if drawn) (corner style x)) ≡ marked drawn (cond b None (Some (corner style x)))) [ true ↦ refl | false ↦ refl ]

-- ---- each set of arms

abbrev pub both : {A : Type 0} → (Bool → A) → List A
both f = f true ∷ f false ∷ []

same-both : {A : Type 0} (f h : Bool → A) → both f ≡ both h → (b : Bool) → f b ≡ h b
same-both f h e true = cc
same-both f h e false = cc

abbrev pub with_arms : Bool → Bool → Bool → Bool → Arms
with_arms u r d l = record { up = u; right = r; down = d; left = l }

-- what a function gives of each set of arms
abbrev pub all_arms : {A : Type 0} → (Arms → A) → List (List (List (List A)))
all_arms f = both (λ u. both (λ r. both (λ d. both (λ l. f (with_arms u r d l)))))

pub equal-arms : {A : Type 0} (f h : Arms → A) → all_arms f ≡ all_arms h → (a : Arms) → f a ≡ h a
equal-arms f h e a =
    same-both (λ l. f (with_arms a.up a.right a.down l)) (λ l. h (with_arms a.up a.right a.down l))
    (same-both (λ d. both (λ l. f (with_arms a.up a.right d l))) (λ d. both (λ l. h (with_arms a.up a.right d l)))
    (same-both (λ r. both (λ d. both (λ l. f (with_arms a.up r d l)))) (λ r. both (λ d. both (λ l. h (with_arms a.up r d l))))
    (same-both (λ u. both (λ r. both (λ d. both (λ l. f (with_arms u r d l))))) (λ u. both (λ r. both (λ d. both (λ l. h (with_arms u r d l))))) e a.up) a.right) a.down) a.left
