-- How many cells entities name in a table, and the writes of texts that are duplicated.
use Rattle.std.proofs.lemmas.Grind.{common_steps}
use Rattle.tabled_settings.proofs.Common.{[], ◌%◌, ◌*◌, ◌++◌, ◌+◌, ◌-◌, ◌<◌, ◌∙◌, ◌∷◌, ◌≡◌, ◌≤◌, ◌⊎◌, AllByRecursion, Cell, Column, Duplicates, DuplicatesFirst, Entity, FirstWrites, Global, Grid, List, Position, Row, Write, ap, ap₂, arith, block, cases_lt, get_or, get_or-take, inl, inr, inside, inside-Cell, inside-Column, inside-Global, inside-Row, inside-no_cell, inside-no_column, inside-no_row, length, length-take-le, map_grid, mod-eq_of_lt, nil_from_length, places, refl, round_from, round_writes, rounds, source_texts, subst, suc, sym, take, take_all, with_writes, zero, ℕ}
use Rattle.tabled_carry.proofs.Pigeonhole.{length-block}

-- the first n of a list that begins with the first n of another
pub take-append-take : {X : Type 0} (n : ℕ) (xs ys : List X) → take n (take n xs ++ ys) ≡ take n (xs ++ ys)
take-append-take zero xs ys = refl
take-append-take (suc n) [] ys = refl
take-append-take (suc n) (x ∷ xs) ys = ap (λ zs. x ∷ zs) (take-append-take n xs ys)

-- places that take only some of the first n texts
few_places : (i n : ℕ) (texts : List (List ℕ)) (places : List Position) → i + length places ≤ n → n ≤ length texts → round_from i (take n texts) places ≡ round_from i texts places
few_places i n texts [] few many = refl
few_places i n texts (p ∷ places) few many =
    let below : i < n = omega (arith, few) in
    let here : i % length (take n texts) ≡ i = mod-eq_of_lt (rw (length-take-le n texts many) below) in
    let there : i % length texts ≡ i = mod-eq_of_lt (omega (arith, below, many)) in
    let text = ap (λ k. get_or (take n texts) k []) here ∙ get_or-take n texts i [] below ∙ ap (λ k. get_or texts k []) (sym there) in
    ap₂ (λ (t : List ℕ) (writes : List Write). record { place = p; text = t } ∷ writes) text (few_places (i + 1) n texts places (omega (arith, few)) many)

few_first : (n : ℕ) (texts : List (List ℕ)) (places : List Position) → length places ≤ n → (length texts < n) ⊎ (n ≤ length texts) → round_from 0 (take n texts) places ≡ round_from 0 texts places
few_first n texts places few (inl short) = ap (λ ts. round_from 0 ts places) (take_all n texts (omega (arith, short)))
few_first n texts places few (inr many) = few_places 0 n texts places (omega (arith, few)) many

-- entities that name no more than n cells each
abbrev pub Few : ℕ → ℕ → ℕ → List Entity → Type 0
Few n rows columns targets = AllByRecursion (λ e. length (inside e rows columns) ≤ n) targets

few_writes : (n : ℕ) (texts : List (List ℕ)) (rows columns : ℕ) (targets : List Entity) → Few n rows columns targets → round_writes (take n texts) rows columns targets ≡ round_writes texts rows columns targets
few_writes n texts rows columns [] few = refl
few_writes n texts rows columns (e ∷ targets) few =
    ap₂ (λ (first others : List Write). first ++ others) (few_first n texts (inside e rows columns) few.0 (cases_lt (length texts) n)) (few_writes n texts rows columns targets few.1)

no_writes : (texts : List (List ℕ)) (rows columns : ℕ) (targets : List Entity) → Few 0 rows columns targets → round_writes texts rows columns targets ≡ []
no_writes texts rows columns [] few = refl
no_writes texts rows columns (e ∷ targets) few = rw (nil_from_length (inside e rows columns) (omega (arith, few.0))) (no_writes texts rows columns targets few.1)

-- the first n texts are written as all are
pub few_rounds : (n : ℕ) (texts : List (List ℕ)) (rows columns : ℕ) (targets : List Entity) → Few n rows columns targets → rounds (take n texts) rows columns targets ≡ rounds texts rows columns targets
few_rounds zero [] rows columns targets few = refl
few_rounds (suc n) [] rows columns targets few = refl
few_rounds zero (text ∷ texts) rows columns targets few = sym (no_writes (text ∷ texts) rows columns targets few)
few_rounds (suc n) (text ∷ texts) rows columns targets few = few_writes (suc n) (text ∷ texts) rows columns targets few

some_rounds : (texts : List (List ℕ)) (rows columns : ℕ) (targets : List Entity) → 0 < length texts → round_writes texts rows columns targets ≡ rounds texts rows columns targets
some_rounds [] rows columns targets some = absurd (omega (arith, some))
some_rounds (text ∷ texts) rows columns targets some = refl

-- what is read before a text is written: what a source and a destination list, and the first n texts of the source
pub record IsRead {A : Type 0} (text_of : A → List ℕ) (destination source : Grid A → List Entity → Type 0) (sources targets : List Entity) (texts : List (List ℕ)) (n : ℕ) (g : Grid A) : Type 0 where
  pub from : source g sources
  pub to : destination g targets
  pub are : texts ≡ take n (source_texts (map_grid text_of g) sources)
  pub few : Few n g.rows g.columns targets

-- these texts are written as all of the source's
module _ {A C : Type 0} (text_of : A → List ℕ) (destination source : Grid A → List Entity → Type 0) (sources targets : List Entity) (texts : List (List ℕ)) (n : ℕ) (g h : Grid A) (c : C)
    (read : IsRead text_of destination source sources targets texts n g) where
  written : rounds texts g.rows g.columns targets ≡ rounds (source_texts (map_grid text_of g) sources) g.rows g.columns targets
  written = ap (λ ts. rounds ts g.rows g.columns targets) read.are ∙ few_rounds n (source_texts (map_grid text_of g) sources) g.rows g.columns targets read.few

  pub none_left : texts ≡ [] → Duplicates text_of destination source g c g c
  none_left none = (sources, targets, read.from, read.to, (ap (λ writes. with_writes writes (map_grid text_of g)) (sym (ap (λ ts. rounds ts g.rows g.columns targets) none) ∙ written), refl))

  pub left_all : 0 < length texts → map_grid text_of h ≡ with_writes (round_writes texts g.rows g.columns targets) (map_grid text_of g) → Duplicates text_of destination source g c h c
  left_all some done = (sources, targets, read.from, read.to, (done ∙ ap (λ writes. with_writes writes (map_grid text_of g)) (some_rounds texts g.rows g.columns targets some ∙ written), refl))

  pub left_first : 0 < length texts → FirstWrites (round_writes texts g.rows g.columns targets) (map_grid text_of g) (map_grid text_of h) → DuplicatesFirst text_of destination source g c h c
  left_first some first = inr (sources, targets, read.from, read.to, (subst (λ (writes : List Write). FirstWrites writes (map_grid text_of g) (map_grid text_of h)) (some_rounds texts g.rows g.columns targets some ∙ written) first, refl))

block_length : (a b c d n m : ℕ) → b - a ≡ n → d - c ≡ m → length (block a b c d) ≡ n * m
block_length a b c d n m high far = length-block a b c d ∙ ap₂ (λ (x y : ℕ). x * y) high far

pub most-Global : (r c : ℕ) → length (inside Global r c) ≤ r * c
most-Global r c = omega (arith, ap length (inside-Global r c), block_length 0 r 0 c r c (omega arith) (omega arith))

pub most-Column : (j r c : ℕ) → length (inside (Column j) r c) ≤ r
most-Column j r c = grind (arith, common_steps, inside-Column, block_length, inside-no_column)

pub most-Row : (i r c : ℕ) → length (inside (Row i) r c) ≤ c
most-Row i r c = grind (arith, common_steps, inside-Row, block_length, inside-no_row)

pub most-Cell : (i j r c : ℕ) → length (inside (Cell i j) r c) ≤ 1
most-Cell i j r c = grind (arith, common_steps, inside-Cell, block_length, inside-no_cell)
