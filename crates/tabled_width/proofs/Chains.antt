-- Consecutive pieces of a line: their columns add up.
use Rattle.std.proofs.Common.{[], ◌++◌, ◌+◌, ◌==◌, ◌∙◌, ◌∷◌, ◌≡◌, ◌≢◌, Bool, List, ap, ap₂, append-nil, append_assoc, arith, cond, false, not, refl, subst, sym, true, ℕ}
use Rattle.std.proofs.lemmas.Bool.{and_parts, eqb-false, not-true}
use Rattle.std.proofs.lemmas.List.Sums.{sum_by-append, sum_by-cons}
use Rattle.std.specs.List.{concat, list_all}
use Rattle.tabled_width.proofs.Alone.{stands-alone}
use Rattle.tabled_width.proofs.Cuts.{cut, piece-adds}
use Rattle.tabled_width.proofs.Flags.{ended}
use Rattle.tabled_width.proofs.PieceTexts.{concat-pieces}
use Rattle.tabled_width.proofs.Scanning.{more-last}
use Rattle.tabled_width.specs.Columns.{text_width}
use Rattle.tabled_width.specs.Laws.{AddsUp, BeginsWide, IsLine}
use Rattle.tabled_width.specs.Pieces.{columns_in, last_of, pieces, pieces_from, stays}
use Rattle.unicode_width.specs.Width.{str_width}

-- ---- consecutive pieces

pub record IsSome (p : List ℕ) : Type 0 where
  pub head : ℕ
  pub tail : List ℕ
  pub is : p ≡ head ∷ tail

-- a piece, and the next one, with which it does not stay
pub record Follows (p q : List ℕ) : Type 0 where
  pub some : IsSome q
  pub parted : stays p some.head ≡ false

abbrev pub Next : List ℕ → List (List ℕ) → Type 0
Next p [] = Unit {0}
Next p (q ∷ ps) = Follows p q

abbrev pub Chain : List (List ℕ) → Type 0
Chain [] = Unit {0}
Chain (p ∷ ps) = IsSome p × (Next p ps × Chain ps)

-- the first piece begins as it has begun
pub from_head : (c : ℕ) (xs cs : List ℕ) → (ys : List ℕ) × (rest : List (List ℕ)) × (pieces_from (c ∷ xs) cs ≡ (c ∷ ys) ∷ rest)
from_head c xs [] = (xs, [], refl)
from_head c xs (d ∷ cs) = head-kept (stays (c ∷ xs) d) (from_head c (xs ++ d ∷ []) cs)
  where
    head-kept : (b : Bool) → (ys : List ℕ) × (rest : List (List ℕ)) × (pieces_from (c ∷ xs ++ d ∷ []) cs ≡ (c ∷ ys) ∷ rest) → (ys : List ℕ) × (rest : List (List ℕ)) × (cond b (pieces_from (c ∷ xs ++ d ∷ []) cs) ((c ∷ xs) ∷ pieces_from (d ∷ []) cs) ≡ (c ∷ ys) ∷ rest)
    head-kept true more = more
    head-kept false more = (xs, pieces_from (d ∷ []) cs, refl)

chain-from : (c : ℕ) (xs cs : List ℕ) → Chain (pieces_from (c ∷ xs) cs)
chain-from c xs [] = (record { head = c; tail = xs; is = refl }, (tt, tt))
chain-from c xs (d ∷ cs) = chain-next (stays (c ∷ xs) d) refl (chain-from c (xs ++ d ∷ []) cs) (chain-from d [] cs)
  where
    next : stays (c ∷ xs) d ≡ false → Next (c ∷ xs) (pieces_from (d ∷ []) cs)
    next apart =
        let h = from_head d [] cs in
        subst (Next (c ∷ xs)) (sym h.2) (record { some = record { head = d; tail = h.0; is = refl }; parted = apart })

    chain-next : (b : Bool) → stays (c ∷ xs) d ≡ b → Chain (pieces_from (c ∷ xs ++ d ∷ []) cs) → Chain (pieces_from (d ∷ []) cs) → Chain (cond b (pieces_from (c ∷ xs ++ d ∷ []) cs) ((c ∷ xs) ∷ pieces_from (d ∷ []) cs))
    chain-next true is more rest = more
    chain-next false is more rest = (record { head = c; tail = xs; is = refl }, (next is, rest))

pub chain : (cs : List ℕ) → Chain (pieces cs)
chain [] = tt
chain (c ∷ cs) = chain-from c [] cs

pub chain-front : (ps qs : List (List ℕ)) → Chain (ps ++ qs) → Chain ps
chain-front [] qs h = tt
chain-front (p ∷ []) qs h = (h.0, (tt, tt))
chain-front (p ∷ q ∷ ps) qs h = (h.0, (h.1.0, chain-front (q ∷ ps) qs h.1.1))

pub chain-back : (ps qs : List (List ℕ)) → Chain (ps ++ qs) → Chain qs
chain-back [] qs h = h
chain-back (p ∷ ps) qs h = chain-back ps qs h.1.1

-- ---- without newlines

pub line-parts : (xs ys : List ℕ) → IsLine (xs ++ ys) → IsLine xs × IsLine ys
line-parts [] ys h = (refl, h)
line-parts (x ∷ xs) ys h =
    let parts = and_parts (not (x == 10)) (list_all (λ c. not (c == 10)) (xs ++ ys)) h in
    let more = line-parts xs ys parts.1 in
    (rw parts.0 more.0, more.1)

pub line-head : (c : ℕ) (cs : List ℕ) → IsLine (c ∷ cs) → c ≢ 10
line-head c cs h = eqb-false c 10 (not-true (c == 10) (and_parts (not (c == 10)) (list_all (λ d. not (d == 10)) cs) h).0)

pub line-last : (c : ℕ) (cs : List ℕ) → IsLine (c ∷ cs) → last_of (c ∷ cs) ≢ 10
line-last c cs h e =
    let end = ended c cs in
    let whole : IsLine (end.front ++ end.end ∷ []) = subst IsLine end.is h in
    line-head end.end [] (line-parts end.front (end.end ∷ []) whole).1 (sym (ap last_of end.is ∙ more-last end.front end.end) ∙ e)

pub concat-append : (ps qs : List (List ℕ)) → concat (ps ++ qs) ≡ concat ps ++ concat qs
concat-append [] qs = refl
concat-append (p ∷ ps) qs = ap (λ xs. p ++ xs) (concat-append ps qs) ∙ sym (append_assoc p (concat ps) (concat qs))

-- ---- the columns of consecutive pieces

no-columns : text_width [] ≡ 0
unfolding str_width
no-columns = refl

two-add : (p q rest : List ℕ) → IsSome p → Follows p q → IsLine (p ++ (q ++ rest)) → text_width (p ++ (q ++ rest)) ≡ text_width p + text_width (q ++ rest)
two-add p q rest some f line =
    subst (λ x. text_width (x ++ (q ++ rest)) ≡ text_width x + text_width (q ++ rest)) (sym some.is)
    (subst (λ y. text_width ((some.head ∷ some.tail) ++ (y ++ rest)) ≡ text_width (some.head ∷ some.tail) + text_width (y ++ rest)) (sym f.some.is)
    (piece-adds some.head some.tail f.some.head (f.some.tail ++ rest)
    (line-head f.some.head (f.some.tail ++ rest) parts.1)
    (line-last some.head some.tail parts.0)
    (subst (λ x. stays x f.some.head ≡ false) some.is f.parted)))
  where
    parts : IsLine (some.head ∷ some.tail) × IsLine (f.some.head ∷ f.some.tail ++ rest)
    parts = line-parts (some.head ∷ some.tail) (f.some.head ∷ f.some.tail ++ rest) (subst (λ x. IsLine (x ++ (f.some.head ∷ f.some.tail ++ rest))) some.is (subst (λ y. IsLine (p ++ (y ++ rest))) f.some.is line))

pub chain-sum : (ps : List (List ℕ)) → Chain ps → IsLine (concat ps) → text_width (concat ps) ≡ columns_in ps
chain-sum [] h line = no-columns
chain-sum (p ∷ []) h line = ap text_width (append-nil p) ∙ (let e : text_width p ≡ text_width p + 0 = omega arith in e) ∙ sym (sum_by-cons text_width p [])
chain-sum (p ∷ q ∷ ps) h line =
    two-add p q (concat ps) h.0 h.1.0 line
    ∙ ap (λ n. text_width p + n) (chain-sum (q ∷ ps) h.1.1 (line-parts p (concat (q ∷ ps)) line).1)
    ∙ sym (sum_by-cons text_width p (q ∷ ps))

pub adds-up : (line : List ℕ) → IsLine line → AddsUp line
adds-up line h = record {
  whole = concat-pieces line;
  sum = sum;
  cuts = λ before behind is.
      let parts = lines before behind is in
      sum ∙ ap columns_in is ∙ sum_by-append text_width before behind
      ∙ sym (ap₂ (λ a b. a + b) (chain-sum before (chain-front before behind (subst Chain is (chain line))) parts.0) (chain-sum behind (chain-back before behind (subst Chain is (chain line))) parts.1));
  begins = λ before behind one next is.
      let here : Chain (one ∷ next ∷ behind) = chain-back before (one ∷ next ∷ behind) (subst Chain is (chain line)) in
      wide one next behind here (lines before (one ∷ next ∷ behind) is).1;
}
  where
    sum : text_width line ≡ columns_in (pieces line)
    sum = ap text_width (sym (concat-pieces line)) ∙ chain-sum (pieces line) (chain line) (subst IsLine (sym (concat-pieces line)) h)

    lines : (before behind : List (List ℕ)) → pieces line ≡ before ++ behind → IsLine (concat before) × IsLine (concat behind)
    lines before behind is = line-parts (concat before) (concat behind) (subst IsLine (sym (concat-pieces line) ∙ ap concat is ∙ concat-append before behind) h)

    wide : (one next : List ℕ) (behind : List (List ℕ)) → Chain (one ∷ next ∷ behind) → IsLine (one ++ (next ++ concat behind)) → BeginsWide next
    wide one next behind c whole =
        let f = c.1.0 in
        let parts = line-parts one (next ++ concat behind) whole in
        let second : IsLine (f.some.head ∷ f.some.tail) = subst IsLine f.some.is (line-parts next (concat behind) parts.1).0 in
        let first : IsLine (c.0.head ∷ c.0.tail) = subst IsLine c.0.is parts.0 in
        let is = cut (c.0.head ∷ c.0.tail) f.some.head (line-head f.some.head f.some.tail second) (line-last c.0.head c.0.tail first) (subst (λ x. stays x f.some.head ≡ false) c.0.is f.parted) in
        (f.some.head, f.some.tail, f.some.is, (stands-alone f.some.head is.begins).some)
