-- Writes of spans, one after another.
use Rattle.tabled_spans.proofs.Common.{[], ◌++◌, ◌+◌, ◌-◌, ◌<◌, ◌∙◌, ◌∷◌, ◌≡◌, Axis, FirstWrites, Grid, List, Option, Position, Some, Write, ap, ap₂, arith, cell_at, common_steps, count_of, emptying, in_line, line_of, pull_writes, pulling, refl, subst, suc, sym, taken, with_cell, with_writes, ℕ}
use Rattle.tabled_options.proofs.Writes.{some-first, some-later, some-next, some-none, writes-append}

-- with some of all writes done, the rest leads where all lead, and where its first lead
pub record Continues (all : List Write) (old : Grid (List ℕ)) (rest : List Write) (new : Grid (List ℕ)) : Type 0 where
  pub ok : with_writes rest new ≡ with_writes all old
  pub err : (h : Grid (List ℕ)) → FirstWrites rest new h → FirstWrites all old h

pub continues-start : (all : List Write) (old : Grid (List ℕ)) → Continues all old all old
continues-start all old = record { ok = refl; err = λ h f. f }

-- one more write
pub continues-next : (all : List Write) (old : Grid (List ℕ)) (p : Position) (text : List ℕ) (rest : List Write) (g m : Grid (List ℕ)) → m ≡ with_cell g p text → Continues all old (record { place = p; text = text } ∷ rest) g → Continues all old rest m
continues-next all old p text rest g m is so_far = grind (arith, common_steps, some-next)

-- a refused write
pub continues-refused : (all : List Write) (old : Grid (List ℕ)) (w : Write) (rest : List Write) (g : Grid (List ℕ)) → Continues all old (w ∷ rest) g → FirstWrites all old g
continues-refused all old w rest g so_far = so_far.err g (some-none w rest g)

-- one more place is emptied
pub emptying-more : (axis : Axis) (p : Position) (k end : ℕ) → k < end → emptying axis p k (end - k) ≡ record { place = in_line axis p k; text = [] } ∷ emptying axis p (k + 1) (end - (k + 1))
emptying-more axis p k end h = let one : end - k ≡ suc (end - (k + 1)) = omega arith in ap (emptying axis p k) one

-- the text that is pulled, and then what is left to be emptied
pub pulling-rest : (axis : Axis) (p : Position) (first many : ℕ) (g : Grid (List ℕ)) (text : List ℕ) → cell_at g p ≡ Some text → pulling axis p (first, many) g ≡ record { place = in_line axis p first; text = text } ∷ emptying axis p (first + 1) ((first + many) - (first + 1))
pulling-rest axis p first many g text is = grind (arith, common_steps)

-- after the text was pulled
pub pull-start : (axis : Axis) (p : Position) (first many : ℕ) (g m : Grid (List ℕ)) (found text : List ℕ) (q : Position) → cell_at g p ≡ Some found → text ≡ found → q ≡ in_line axis p first → m ≡ with_cell g q text → Continues (pulling axis p (first, many) g) g (emptying axis p (first + 1) ((first + many) - (first + 1))) m
pull-start axis p first many g m found text q is copied here made = continues-next (pulling axis p (first, many) g) g (in_line axis p first) text (emptying axis p (first + 1) ((first + many) - (first + 1))) g m (made ∙ ap (λ x. with_cell g x text) here) (subst (λ ws. Continues (pulling axis p (first, many) g) g ws g) (pulling-rest axis p first many g text (is ∙ ap Some (sym copied))) (continues-start (pulling axis p (first, many) g) g))

-- after one more cell was emptied
pub pull-more : (all : List Write) (old : Grid (List ℕ)) (axis : Axis) (p : Position) (k end : ℕ) (g m : Grid (List ℕ)) (text : List ℕ) (q : Position) → k < end → text ≡ [] → q ≡ in_line axis p k → m ≡ with_cell g q text → Continues all old (emptying axis p k (end - k)) g → Continues all old (emptying axis p (k + 1) (end - (k + 1))) m
pull-more all old axis p k end g m text q low none here made so_far = continues-next all old (in_line axis p k) [] (emptying axis p (k + 1) (end - (k + 1))) g m (made ∙ ap₂ (with_cell g) here none) (subst (λ ws. Continues all old ws g) (emptying-more axis p k end low) so_far)

-- one is refused
pub pull-refused : (all : List Write) (old : Grid (List ℕ)) (axis : Axis) (p : Position) (k end : ℕ) (g : Grid (List ℕ)) → k < end → Continues all old (emptying axis p k (end - k)) g → FirstWrites all old g
pull-refused all old axis p k end g low so_far = continues-refused all old _ _ g (subst (λ ws. Continues all old ws g) (emptying-more axis p k end low) so_far)

-- the cells that a span takes, by the values that a body has
pub cells_is : (axis : Axis) (p : Position) (back : Option ℕ) (count at rows columns all_rows all_columns : ℕ) (cells : ℕ × ℕ) → cells ≡ taken back count at → count ≡ count_of axis rows columns → rows ≡ all_rows → columns ≡ all_columns → at ≡ line_of axis p → cells ≡ taken back (count_of axis all_rows all_columns) (line_of axis p)
cells_is axis p back count at rows columns all_rows all_columns cells is all r c here = is ∙ ap₂ (taken back) (all ∙ ap₂ (count_of axis) r c) here

module _ (all : List Write) (old : Grid (List ℕ)) (axis : Axis) (back : Option ℕ) (n : ℕ) (p : Position) (places : List Position) (cells : ℕ × ℕ) (is : cells ≡ taken back n (line_of axis p)) (g : Grid (List ℕ)) (so_far : Continues all old (pull_writes axis back n (p ∷ places) g) g) where
  here : pull_writes axis back n (p ∷ places) g ≡ pulling axis p cells g ++ pull_writes axis back n places (with_writes (pulling axis p cells g) g)
  here = ap (λ (c : ℕ × ℕ). pulling axis p c g ++ pull_writes axis back n places (with_writes (pulling axis p c g) g)) (sym is)

  -- the texts of a place were pulled
  pub pulled-here : (m : Grid (List ℕ)) → m ≡ with_writes (pulling axis p cells g) g → Continues all old (pull_writes axis back n places m) m
  pulled-here m after = subst (λ (k : Grid (List ℕ)). Continues all old (pull_writes axis back n places k) k) (sym after) (record {
    ok = sym (writes-append (pulling axis p cells g) (pull_writes axis back n places (with_writes (pulling axis p cells g) g)) g) ∙ ap (λ ws. with_writes ws g) (sym here) ∙ so_far.ok;
    err = λ h f. so_far.err h (subst (λ (ws : List Write). FirstWrites ws g h) (sym here) (some-later (pulling axis p cells g) (pull_writes axis back n places (with_writes (pulling axis p cells g) g)) g h f));
  })

  -- they were pulled in part
  pub pulled-first : (h : Grid (List ℕ)) → FirstWrites (pulling axis p cells g) g h → FirstWrites all old h
  pulled-first h f = so_far.err h (subst (λ (ws : List Write). FirstWrites ws g h) (sym here) (some-first (pulling axis p cells g) (pull_writes axis back n places (with_writes (pulling axis p cells g) g)) g h f))
