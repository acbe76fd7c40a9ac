-- Texts written to cells, one more or a part more at a time.
use Rattle.tabled_options.proofs.Common.{◌++◌, ◌+◌, ◌∷◌, ◌≡◌, FirstWrites, Grid, List, Write, arith, common_steps, length, length-append, refl, suc, take, take-append-add, take-append-le, with_cell, with_writes, ℕ}
use Rattle.std.proofs.lemmas.Grind.{fold-append}

-- no write is the first of them
pub some-none : (w : Write) (writes : List Write) (g : Grid (List ℕ)) → FirstWrites (w ∷ writes) g g
some-none w writes g = record { count = 0; within = omega arith; is = refl }

-- one write, and the first of the others
pub some-next : (w : Write) (writes : List Write) (g h : Grid (List ℕ)) → FirstWrites writes (with_cell g w.place w.text) h → FirstWrites (w ∷ writes) g h
some-next w writes g h s = record { count = suc s.count; within = omega (arith, s.within); is = s.is }

-- writes, and then others
pub writes-append : (a b : List Write) (g : Grid (List ℕ)) → with_writes (a ++ b) g ≡ with_writes b (with_writes a g)
writes-append a b g = fold-append (λ (x : Grid (List ℕ)) (w : Write). with_cell x w.place w.text) g a b

-- some of the first writes
pub some-first : (a b : List Write) (g h : Grid (List ℕ)) → FirstWrites a g h → FirstWrites (a ++ b) g h
some-first a b g h s = grind (arith, common_steps, length-append, take-append-le)

-- all first writes, and some of the others
pub some-later : (a b : List Write) (g h : Grid (List ℕ)) → FirstWrites b (with_writes a g) h → FirstWrites (a ++ b) g h
some-later a b g h s = record {
  count = length a + s.count;
  within = rw (length-append a b) (omega (arith, s.within));
  is = rw (take-append-add a b s.count, writes-append a (take s.count b) g) s.is;
}
