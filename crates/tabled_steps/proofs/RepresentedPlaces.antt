-- The places that entities name in a table, and those of what stands for them.
use Rattle.tabled_steps.proofs.Common.{[], ◌++◌, ◌∙◌, ◌∷◌, ◌≡◌, AllByRecursion, AreGroups, AreRepresentatives, Duplicates, DuplicatesFirst, Entity, FirstWrites, Grid, Group, IsGroup, List, Names, Position, Select, SpanMap, ap, append-nil, ap₂, cells_of, dup_writes, flat, flat_map, flat_map-append, inl, inr, inside, map, map_grid, named_places, refl, replicate, representatives_of, round_from, round_writes, rounds, selected, source_texts, subst, suc, sym, text_at, unrolled, with_writes, zero, ℕ}

-- what is made of the places that each entity names, and is nothing where it names none
module _ {X : Type 0} (make : List Position → List X) (nothing : make [] ≡ []) (rows columns : ℕ) where
  abbrev made : List Entity → List X
  made es = flat_map (λ (e : Entity). make (inside e rows columns)) es

  made-places : (es : List Entity) → made es ≡ flat_map make (named_places rows columns es)
  made-places [] = refl
  made-places (e ∷ es) = ap (λ xs. make (inside e rows columns) ++ xs) (made-places es)

  made-none : (n : ℕ) → flat_map make (replicate n []) ≡ []
  made-none zero = refl
  made-none (suc n) = ap₂ (λ xs ys. xs ++ ys) nothing (made-none n)

  made-group : (group : Group) → IsGroup rows columns group → flat_map make (replicate group.count (inside group.entity rows columns)) ≡ make (inside group.entity rows columns)
  made-group group (inl one) = ap (λ n. flat_map make (replicate n (inside group.entity rows columns))) one ∙ append-nil (make (inside group.entity rows columns))
  made-group group (inr (some, none)) = ap (λ ps. flat_map make (replicate group.count ps)) none ∙ made-none group.count ∙ sym (ap make none ∙ nothing)

  made-groups : (groups : List Group) → AllByRecursion (IsGroup rows columns) groups → flat_map make (unrolled rows columns groups) ≡ made (representatives_of groups)
  made-groups [] each = refl
  made-groups (group ∷ groups) each =
      flat_map-append make (replicate group.count (inside group.entity rows columns)) (unrolled rows columns groups)
      ∙ ap₂ (λ xs ys. xs ++ ys) (made-group group each.0) (made-groups groups each.1)

  pub made-alike : (es : List Entity) (groups : List Group) → AreGroups rows columns es groups → flat_map (λ (e : Entity). make (inside e rows columns)) (representatives_of groups) ≡ flat_map (λ (e : Entity). make (inside e rows columns)) es
  made-alike es groups grouped = sym (made-groups groups grouped.each) ∙ ap (flat_map make) (sym grouped.same) ∙ sym (made-places es)

-- the places of all
pub flat-alike : (rows columns : ℕ) (es : List Entity) (groups : List Group) (representatives : List Entity) → representatives ≡ representatives_of groups → AreGroups rows columns es groups → flat representatives rows columns ≡ flat es rows columns
flat-alike rows columns es groups representatives are grouped = ap (λ fs. flat fs rows columns) are ∙ made-alike (λ ps. ps) refl rows columns es groups grouped

-- what stands for the entities that a selector names has their places
pub flat-represented : {A : Type 0} (text_of : A → List ℕ) (select : Select) (g : Grid A) (all : List Entity) → AreRepresentatives text_of select g all → flat all g.rows g.columns ≡ flat (selected (map_grid text_of g) select) g.rows g.columns
flat-represented text_of select g all (groups, grouped, are) = flat-alike g.rows g.columns (selected (map_grid text_of g) select) groups all are grouped

-- cells that are made of the places of what stands for two selections are made of those of what they name
pub cells_alike : {A : Type 0} (text_of : A → List ℕ) (x y : Select) (g : Grid A) (make : List Position → List Position → List Position) (lhs rhs a b items : List Entity)
    → AreRepresentatives text_of x g lhs → AreRepresentatives text_of y g rhs → a ≡ lhs → b ≡ rhs → items ≡ cells_of (make (flat a g.rows g.columns) (flat b g.rows g.columns))
    → items ≡ cells_of (make (flat (selected (map_grid text_of g) x) g.rows g.columns) (flat (selected (map_grid text_of g) y) g.rows g.columns))
cells_alike text_of x y g make lhs rhs a b items first second left right is =
    is
    ∙ ap₂ (λ (ps ts : List Position). cells_of (make ps ts))
    (ap (λ es. flat es g.rows g.columns) left ∙ flat-represented text_of x g lhs first)
    (ap (λ es. flat es g.rows g.columns) right ∙ flat-represented text_of y g rhs second)

module _ {A : Type 0} (text_of : A → List ℕ) (destination source : Select) (old : Grid A) (cfg : SpanMap) (new : Grid A) (new_cfg : SpanMap) where
  abbrev texts : Grid (List ℕ)
  texts = map_grid text_of old

  source-alike : (sources : List Entity) → AreRepresentatives text_of source old sources → source_texts texts sources ≡ source_texts texts (selected texts source)
  source-alike sources (groups, grouped, are) = ap (map (text_at texts)) (flat-alike old.rows old.columns (selected texts source) groups sources are grouped)

  round-alike : (found : List (List ℕ)) (targets : List Entity) → AreRepresentatives text_of destination old targets → rounds found old.rows old.columns targets ≡ rounds found old.rows old.columns (selected texts destination)
  round-alike [] targets stand = refl
  round-alike (text ∷ found) targets (groups, grouped, are) = ap (round_writes (text ∷ found) old.rows old.columns) are ∙ made-alike (round_from 0 (text ∷ found)) refl old.rows old.columns (selected texts destination) groups grouped

  -- the writes are those of the named entities
  writes-alike : (sources targets : List Entity) → AreRepresentatives text_of source old sources → rounds (source_texts texts sources) old.rows old.columns targets ≡ rounds (source_texts texts sources) old.rows old.columns (selected texts destination) → dup_writes sources targets texts ≡ dup_writes (selected texts source) (selected texts destination) texts
  writes-alike sources targets stand aim = aim ∙ ap (λ found. rounds found old.rows old.columns (selected texts destination)) (source-alike sources stand)

  pub duplicated_represented : Duplicates text_of (AreRepresentatives text_of destination) (AreRepresentatives text_of source) old cfg new new_cfg → Duplicates text_of (Names text_of destination) (Names text_of source) old cfg new new_cfg
  duplicated_represented (sources, targets, stand, aimed, did) =
      (selected texts source, selected texts destination, refl, refl, (did.0 ∙ ap (λ ws. with_writes ws texts) (writes-alike sources targets stand (round-alike (source_texts texts sources) targets aimed)), did.1))

  pub duplicated_represented_refused : DuplicatesFirst text_of (AreRepresentatives text_of destination) (AreRepresentatives text_of source) old cfg new new_cfg → DuplicatesFirst text_of (Names text_of destination) (Names text_of source) old cfg new new_cfg
  duplicated_represented_refused (inl none) = inl none
  duplicated_represented_refused (inr (sources, targets, stand, aimed, first)) =
      inr (selected texts source, selected texts destination, refl, refl, (subst (λ ws. FirstWrites ws texts (map_grid text_of new)) (writes-alike sources targets stand (round-alike (source_texts texts sources) targets aimed)) first.0, first.1))
