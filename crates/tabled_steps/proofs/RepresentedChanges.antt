-- Changes for entities that stand for others are those for the others.
use Rattle.tabled_steps.proofs.Common.{[], ◌++◌, ◌-◌, ◌∙◌, ◌∷◌, ◌≡◌, ◌⊎◌, AllByRecursion, AreRepresentatives, Change, Each, EachListed, EachListedUntil, EachUntil, Entity, Grid, Group, IsGroup, IsLocal, LeavesFirst, List, Names, Position, Same, SameOr, Select, Some, SpanMap, ap, arith, inl, inr, inside, map_grid, named_places, refl, replicate, representatives_of, same_Some, selected, subst, suc, unrolled, zero, ℕ}
use Rattle.tabled_steps.proofs.StepsUntil.{first_refused, later_refused}

module _ {A : Type 0} (does leaves : Entity → Change A SpanMap) (local : IsLocal does leaves) (rows columns : ℕ) where
  -- a grid has this shape
  record Has (g : Grid A) : Type 0 where
    rows_are : g.rows ≡ rows
    columns_are : g.columns ≡ columns

  has_then : (e : Entity) (old : Grid A) (cfg : SpanMap) (new : Grid A) (new_cfg : SpanMap) → Has old → does e old cfg new new_cfg → Has new
  has_then e old cfg new new_cfg shape done = record { rows_are = local.rows e old cfg new new_cfg done ∙ shape.rows_are; columns_are = local.columns e old cfg new new_cfg done ∙ shape.columns_are }

  at_shape : (e f : Entity) (g : Grid A) → Has g → inside e rows columns ≡ inside f rows columns → inside e g.rows g.columns ≡ inside f g.rows g.columns
  at_shape e f g shape same = rw (shape.rows_are, shape.columns_are) same

  none_at : (e : Entity) (g : Grid A) → Has g → inside e rows columns ≡ [] → inside e g.rows g.columns ≡ []
  none_at e g shape none = rw (shape.rows_are, shape.columns_are) none

  -- what the changes for some entities lead to, those for others lead to
  abbrev Leads : List Entity → List Entity → Type 0
  Leads representatives es = (old : Grid A) (cfg : SpanMap) (new : Grid A) (new_cfg : SpanMap) → Has old → Each does representatives old cfg new new_cfg → Each does es old cfg new new_cfg

  -- and where they are refused
  abbrev Refuses : List Entity → List Entity → Type 0
  Refuses representatives es = (old : Grid A) (cfg : SpanMap) (new : Grid A) (new_cfg : SpanMap) → Has old → EachUntil does (λ e. SameOr (leaves e)) representatives old cfg new new_cfg → EachUntil does (λ e. SameOr (leaves e)) es old cfg new new_cfg

  left_at : (e f : Entity) (old : Grid A) (cfg : SpanMap) (new : Grid A) (new_cfg : SpanMap) → Has old → inside e rows columns ≡ inside f rows columns → SameOr (leaves f) old cfg new new_cfg → SameOr (leaves e) old cfg new new_cfg
  left_at e f old cfg new new_cfg shape same (inl none) = inl none
  left_at e f old cfg new new_cfg shape same (inr left) = inr (local.left_alike e f old cfg new new_cfg (at_shape e f old shape same) left)

  -- entities stand for others: each for the next of these, and one that names nothing for some more
  abbrev Stand : List Entity → List Entity → Type 0
  Stand representatives [] = representatives ≡ []
  Stand representatives (e ∷ es) = (f : Entity) × (fs : List Entity) × (representatives ≡ f ∷ fs) × (inside e rows columns ≡ inside f rows columns) × (Stand fs es ⊎ ((inside f rows columns ≡ []) × Stand (f ∷ fs) es))

  leads : (representatives es : List Entity) → Stand representatives es → Leads representatives es
  leads representatives [] none old cfg new new_cfg shape did = rw none at did
  leads representatives (e ∷ es) (f, fs, are, here, next) old cfg new new_cfg shape did =
      let all : Each does (f ∷ fs) old cfg new new_cfg = rw are at did in
      let between = all.0 in
      let between_cfg = all.1 in
      let kept = has_then f old cfg between between_cfg shape all.2 in (
        between,
        between_cfg,
        local.alike e f old cfg between between_cfg (at_shape e f old shape here) all.2,
        elim next [
          | inl rest ↦ leads fs es rest between between_cfg new new_cfg kept all.3
          | inr rest ↦ leads (f ∷ fs) es rest.1 between between_cfg new new_cfg kept (between, between_cfg, local.again f old cfg between between_cfg (none_at f old shape rest.0) all.2, all.3)
        ],
      )

  refuses : (representatives es : List Entity) → Stand representatives es → Refuses representatives es
  refuses representatives [] none old cfg new new_cfg shape until = rw none at until
  refuses representatives (e ∷ es) (f, fs, are, here, next) old cfg new new_cfg shape until = refused_from_here (rw are at until) (λ between between_cfg first left. elim next [
    | inl rest ↦ refuses fs es rest between between_cfg new new_cfg (has_then f old cfg between between_cfg shape first) left
    | inr rest ↦ refuses (f ∷ fs) es rest.1 between between_cfg new new_cfg (has_then f old cfg between between_cfg shape first) (suc left.0, later_refused does (λ e. SameOr (leaves e)) f fs between between_cfg between between_cfg left.0 new new_cfg (local.again f old cfg between between_cfg (none_at f old shape rest.0) first) left.1)
  ])
    where
      refused : (x : Entity) → Some f ≡ Some x → (between : Grid A) (between_cfg : SpanMap) → Same old cfg between between_cfg → SameOr (leaves x) between between_cfg new new_cfg → SameOr (leaves e) old cfg new new_cfg
      refused x is between between_cfg same left =
          let at_first : SameOr (leaves f) old cfg new new_cfg = rw (same_Some f x is, ← same.0, ← same.1) left in
          left_at e f old cfg new new_cfg shape here at_first

      refused_from_here : EachUntil does (λ e. SameOr (leaves e)) (f ∷ fs) old cfg new new_cfg → ((between : Grid A) (between_cfg : SpanMap) → does f old cfg between between_cfg → EachUntil does (λ e. SameOr (leaves e)) fs between between_cfg new new_cfg → EachUntil does (λ e. SameOr (leaves e)) es between between_cfg new new_cfg) → EachUntil does (λ e. SameOr (leaves e)) (e ∷ es) old cfg new new_cfg
      refused_from_here (zero, at) later = (zero, first_refused does (λ e. SameOr (leaves e)) e es old cfg new new_cfg (refused at.item at.is at.grid at.configuration at.before at.left))
      refused_from_here (suc i, at) later =
          let between = at.before.0 in
          let between_cfg = at.before.1 in
          let rest = later between between_cfg at.before.2 (i, record { item = at.item; is = at.is; grid = at.grid; configuration = at.configuration; before = at.before.3; left = at.left }) in
          (suc rest.0, later_refused does (λ e. SameOr (leaves e)) e es old cfg between between_cfg rest.0 new new_cfg (local.alike e f old cfg between between_cfg (at_shape e f old shape here) at.before.2) rest.1)

  -- a group's entity stands for those of the group
  stand_group : (f : Entity) (fs : List Entity) (places : List (List Position)) (n : ℕ) (es : List Entity) → named_places rows columns es ≡ replicate (suc n) (inside f rows columns) ++ places → (suc n ≡ 1) ⊎ (inside f rows columns ≡ []) → ((rest : List Entity) → named_places rows columns rest ≡ places → Stand fs rest) → Stand (f ∷ fs) es
  stand_group f fs places n [] same one later = cc
  stand_group f fs places zero (e ∷ es) same one later = (f, fs, refl, (cc), inl (later es (cc)))
  stand_group f fs places (suc n) (e ∷ es) same (inl one) later = absurd (omega (arith, one))
  stand_group f fs places (suc n) (e ∷ es) same (inr none) later = (f, fs, refl, (cc), inr (none, stand_group f fs places n es (cc) (inr none) later))

  -- a group has a first entity, and more only where they name nothing
  counted : (group : Group) → IsGroup rows columns group → (n : ℕ) × (group.count ≡ suc n) × ((suc n ≡ 1) ⊎ (inside group.entity rows columns ≡ []))
  counted group (inl one) = (0, one, inl refl)
  counted group (inr (some, none)) = (group.count - 1, omega (arith, some), inr none)

  stand : (groups : List Group) (es : List Entity) → named_places rows columns es ≡ unrolled rows columns groups → AllByRecursion (IsGroup rows columns) groups → Stand (representatives_of groups) es
  stand [] [] same each = refl
  stand [] (e ∷ es) same each = cc
  stand (group ∷ groups) es same each =
      let n = counted group each.0 in
      stand_group group.entity (representatives_of groups) (unrolled rows columns groups) n.0 es (same ∙ ap (λ k. replicate k (inside group.entity rows columns) ++ unrolled rows columns groups) n.1) n.2 (λ rest is. stand groups rest is each.1)

module _ {A : Type 0} (text_of : A → List ℕ) (select : Select) (does leaves : Entity → Change A SpanMap) (local : IsLocal does leaves) (old : Grid A) (cfg : SpanMap) (new : Grid A) (new_cfg : SpanMap) where
  -- a change for each entity that stands for named ones is one for each named entity
  pub represented : EachListed (AreRepresentatives text_of select) does old cfg new new_cfg → EachListed (Names text_of select) does old cfg new new_cfg
  represented (representatives, (groups, grouped, are), each) =
      (selected (map_grid text_of old) select, refl, leads does leaves local old.rows old.columns (representatives_of groups) (selected (map_grid text_of old) select) (stand does leaves local old.rows old.columns groups _ grouped.same grouped.each) old cfg new new_cfg (record { rows_are = refl; columns_are = refl }) (subst (λ es. Each does es old cfg new new_cfg) are each))

  -- and so it is where it is refused
  pub represented_refused : SameOr (EachListedUntil (AreRepresentatives text_of select) does (λ e. SameOr (leaves e))) old cfg new new_cfg → LeavesFirst text_of select does leaves old cfg new new_cfg
  represented_refused (inl none) = inl none
  represented_refused (inr (representatives, (groups, grouped, are), until)) =
      inr (selected (map_grid text_of old) select, refl, refuses does leaves local old.rows old.columns (representatives_of groups) (selected (map_grid text_of old) select) (stand does leaves local old.rows old.columns groups _ grouped.same grouped.each) old cfg new new_cfg (record { rows_are = refl; columns_are = refl }) (subst (λ es. EachUntil does (λ e. SameOr (leaves e)) es old cfg new new_cfg) are until))
