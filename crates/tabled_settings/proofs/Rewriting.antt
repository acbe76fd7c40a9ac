-- Writes in turn, one more at a time, to places apart.
use Rattle.tabled_settings.proofs.Common.{[], ◌++◌, ◌+◌, ◌-◌, ◌<◌, ◌∙◌, ◌∷◌, ◌≡◌, ◌≢◌, AllByRecursion, AnswersInTurn, Asking, Bool, Entity, FoldsTo, Grid, List, Position, RewritesAt, RewritesUntil, Write, all-append, ap, append-nil, arith, block, cell_at-with_cell_other, cond, false, filter, fold-append, get_or, inside, length, length-append, map, map-append, names, place, places, range_with_len, refl, set, set-get_or, slice_get, subst, suc, sym, take, text_at, true, unwrap_or, with_cell, with_writes, zero, ℕ}
use Rattle.std.proofs.Math.Seq.{take-append_seam}
use Rattle.tabled_select.proofs.Sifted.{all-filter}

-- one step more
folds-more : {P A : Type 0} (R : P → A → P → Type 0) (p : P) (xs : List A) (q : P) (x : A) (r : P) → FoldsTo R p xs q → R q x r → FoldsTo R p (xs ++ x ∷ []) r
folds-more R p [] q x r f s = (r, rw f s, refl)
folds-more R p (y ∷ ys) q x r f s = (f.0, f.1, folds-more R f.0 ys q x r f.2 s)

-- what was written so far, at these places, and what answers next
pub record Rewritten {S : Type 0} (asks : Asking S) (first : S) (places : List Position) (g h : Grid (List ℕ)) (last : S) : Type 0 where
  pub writes : List Write
  pub at : map (λ (w : Write). w.place) writes ≡ places
  pub answers : AnswersInTurn asks first g writes last
  pub is : h ≡ with_writes writes g

pub rewritten-none : {S : Type 0} (asks : Asking S) (first : S) (g : Grid (List ℕ)) → Rewritten asks first [] g g first
rewritten-none asks first g = record { writes = []; at = refl; answers = refl; is = refl }

-- one more answer, written
pub rewritten-more : {S : Type 0} (asks : Asking S) (first : S) (places : List Position) (g h : Grid (List ℕ)) (s t : S) (p : Position) (text : List ℕ) → Rewritten asks first places g h s → asks s p (text_at g p) text t → Rewritten asks first (places ++ p ∷ []) g (with_cell h p text) t
rewritten-more asks first places g h s t p text done asked =
    let one : Write = record { place = p; text = text } in
    record {
      writes = done.writes ++ one ∷ [];
      at = map-append (λ (w : Write). w.place) done.writes (one ∷ []) ∙ ap (λ ps. ps ++ p ∷ []) done.at;
      answers = folds-more _ first done.writes s one t done.answers asked;
      is = ap (λ (x : Grid (List ℕ)). with_cell x p text) done.is ∙ sym (fold-append (λ (x : Grid (List ℕ)) (w : Write). with_cell x w.place w.text) g done.writes (one ∷ []));
    }

-- what is set where it stands already
set_own : {A : Type 0} (d : A) (xs : List A) (i : ℕ) → set xs i (unwrap_or (slice_get xs i) d) ≡ xs
set_own d [] i = refl
set_own d (x ∷ xs) zero = refl
set_own d (x ∷ xs) (suc i) = ap (λ ys. x ∷ ys) (set_own d xs i)

-- a grid with a text where it stands already
own_text : (g : Grid (List ℕ)) (p : Position) → with_cell g p (text_at g p) ≡ g
own_text g p = rw (set_own [] (get_or g.cells p.row []) p.col, set-get_or g.cells p.row []) refl

-- one more answer, which is the old text
pub rewritten-kept : {S : Type 0} (asks : Asking S) (first : S) (places : List Position) (g h : Grid (List ℕ)) (s : S) (p : Position) → Rewritten asks first places g h s → asks s p (text_at g p) (text_at h p) s → Rewritten asks first (places ++ p ∷ []) g h s
rewritten-kept asks first places g h s p done asked =
    subst (λ (x : Grid (List ℕ)). Rewritten asks first (places ++ p ∷ []) g x s) (own_text h p) (rewritten-more asks first places g h s s p (text_at h p) done asked)

-- all is written
pub rewritten-all : {S : Type 0} (asks : Asking S) (first : S) (done all : List Position) (g h : Grid (List ℕ)) (last : S) → done ++ [] ≡ all → Rewritten asks first done g h last → RewritesAt asks first all g h
rewritten-all asks first done all g h last e r = record { writes = r.writes; last = last; at = r.at ∙ sym (append-nil done) ∙ e; answers = r.answers; is = r.is }

-- what is before a place is written
pub rewritten-until : {S : Type 0} (asks : Asking S) (first : S) (done rest all : List Position) (p : Position) (g h : Grid (List ℕ)) (last : S) → done ++ p ∷ rest ≡ all → Rewritten asks first done g h last → RewritesUntil asks first all g h
rewritten-until asks first done rest all p g h last e r =
    let taken : take (length done) all ≡ done = ap (take (length done)) (sym e) ∙ take-append_seam done (p ∷ rest) in
    record {
      count = length done;
      within = rw (← e) (rw (length-append done (p ∷ rest)) (omega arith));
      before = record { writes = r.writes; last = last; at = r.at ∙ sym taken; answers = r.answers; is = r.is };
    }

-- a write leaves the texts of other places
pub untouched : (g h k : Grid (List ℕ)) (p : Position) (text : List ℕ) (rest : List Position) → k ≡ with_cell h p text → AllByRecursion (λ q. q ≢ p) rest → AllByRecursion (λ q. text_at h q ≡ text_at g q) rest → AllByRecursion (λ q. text_at k q ≡ text_at g q) rest
untouched g h k p text [] is apart same = tt
untouched g h k p text (q ∷ rest) is apart same = (rw (is, cell_at-with_cell_other h p q text apart.0) same.0, untouched g h k p text rest is apart.1 same.1)

pub same-texts : (g : Grid (List ℕ)) (ps : List Position) → AllByRecursion (λ q. text_at g q ≡ text_at g q) ps
same-texts g [] = tt
same-texts g (p ∷ ps) = (refl, same-texts g ps)

-- no place comes again
abbrev pub Apart : List Position → Type 0
Apart [] = Unit {0}
Apart (p ∷ ps) = AllByRecursion (λ q. q ≢ p) ps × Apart ps

-- what all members are, as something weaker
all-weaker : {A : Type 0} (P Q : A → Type 0) → ((x : A) → P x → Q x) → (xs : List A) → AllByRecursion P xs → AllByRecursion Q xs
all-weaker P Q f [] h = tt
all-weaker P Q f (x ∷ xs) h = (f x h.0, all-weaker P Q f xs h.1)

apart-filter : (f : Position → Bool) (ps : List Position) → Apart ps → Apart (filter f ps)
apart-filter f [] h = tt
apart-filter f (p ∷ ps) h = kept (f p) (apart-filter f ps h.1)
  where
    kept : (b : Bool) → Apart (filter f ps) → Apart (cond b (p ∷ filter f ps) (filter f ps))
    kept true rest = (all-filter (λ q. q ≢ p) f ps h.0, rest)
    kept false rest = rest

-- of two lists, the second past a row
apart-append : (a : ℕ) (ps qs : List Position) → AllByRecursion (λ (p : Position). p.row ≡ a) ps → AllByRecursion (λ (q : Position). a < q.row) qs → Apart ps → Apart qs → Apart (ps ++ qs)
apart-append a [] qs here past h k = k
apart-append a (p ∷ ps) qs here past h k =
    let others : AllByRecursion (λ q. q ≢ p) qs = all-weaker (λ (q : Position). a < q.row) (λ q. q ≢ p) (λ q l e. let same = ap (λ (x : Position). x.row) e in omega (arith, l, same, here.0)) qs past in
    (all-append (λ q. q ≢ p) ps qs h.0 others, apart-append a ps qs here.1 past h.1 k)

-- places of one row, from a column on
in_row : (a : ℕ) (js : List ℕ) → AllByRecursion (λ (p : Position). p.row ≡ a) (map (place a) js)
in_row a [] = tt
in_row a (j ∷ js) = (refl, in_row a js)

right_of : (a j c m : ℕ) → j < c → AllByRecursion (λ q. q ≢ place a j) (map (place a) (range_with_len c m))
right_of a j c zero h = tt
right_of a j c (suc m) h = ((λ e. let same = ap (λ (x : Position). x.col) e in omega (arith, same)), right_of a j (c + 1) m (omega (arith, h)))

row-apart : (a c m : ℕ) → Apart (map (place a) (range_with_len c m))
row-apart a c zero = tt
row-apart a c (suc m) = (right_of a c (c + 1) m (omega arith), row-apart a (c + 1) m)

-- places of several rows, past a row
below : (k a n : ℕ) (js : List ℕ) → k < a → AllByRecursion (λ (p : Position). k < p.row) (places (range_with_len a n) js)
below k a zero js h = tt
below k a (suc n) js h =
    all-append (λ (p : Position). k < p.row) (map (place a) js) (places (range_with_len (a + 1) n) js)
    (all-weaker (λ (p : Position). p.row ≡ a) (λ (p : Position). k < p.row) (λ p e. omega (arith, e, h)) (map (place a) js) (in_row a js))
    (below k (a + 1) n js (omega (arith, h)))

places-apart : (a n c m : ℕ) → Apart (places (range_with_len a n) (range_with_len c m))
places-apart a zero c m = tt
places-apart a (suc n) c m =
    apart-append a (map (place a) (range_with_len c m)) (places (range_with_len (a + 1) n) (range_with_len c m))
    (in_row a (range_with_len c m))
    (below a (a + 1) n (range_with_len c m) (omega arith))
    (row-apart a c m)
    (places-apart (a + 1) n c m)

pub inside-apart : (e : Entity) (r c : ℕ) → Apart (inside e r c)
inside-apart e r c = apart-filter (names e) (block 0 r 0 c) (places-apart 0 (r - 0) 0 (c - 0))
