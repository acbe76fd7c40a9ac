-- What options do and leave on an entity depends on the places that it names.
use Rattle.tabled_steps.proofs.Common.{[], ◌∙◌, ◌≡◌, ◌⊎◌, Axis, Bool, DoesFirstWrites, DoesWrites, Entity, FirstWrites, Grid, IsLocal, List, None, Position, SpanMap, Spans, SpansFirst, Write, ap, back_of, cases_Bool, cond, count_of, drop_hidden, false, get, grown_each, hidden-from, hidden_by, inl, inr, inside, is_hidden, is_visible, map_grid, mapped_writes, pos, pull_writes, pulled_each, refl, same_map, shape_texts, span_writes, spanned, subst, suc, sym, true, with_writes, ℕ, ℤ}
use Rattle.tabled_grid.proofs.SpanMaps.{get-drop_hidden, kept}
use Rattle.tabled_steps.proofs.LocalMerges.{local_merges}
use Rattle.tabled_steps.specs.Kinds.{EntityChange, Merge, Rewrite, RewriteIf, Span, rewritten, rewritten_if}
use Rattle.tabled_steps.specs.Steps.{ChangeDoes, ChangeLeaves}

-- writes on an entity that depend on the places alone that it names, and are none where it names none
record AreLocal (writes : Entity → Grid (List ℕ) → List Write) : Type 0 where
  pub alike : (e f : Entity) (g : Grid (List ℕ)) → inside e g.rows g.columns ≡ inside f g.rows g.columns → writes e g ≡ writes f g
  pub none : (e : Entity) (g : Grid (List ℕ)) → inside e g.rows g.columns ≡ [] → writes e g ≡ []

local_rewritten : (f : List ℕ → List ℕ) → AreLocal (rewritten f)
local_rewritten f = record { alike = λ first second g same. ap (mapped_writes f g) same; none = λ e g none. ap (mapped_writes f g) none }

local_rewritten_if : (some : Bool) (f : List ℕ → List ℕ) → AreLocal (rewritten_if some f)
local_rewritten_if true f = local_rewritten f
local_rewritten_if false f = record { alike = λ first second g same. refl; none = λ e g none. refl }

module _ {A : Type 0} (text_of : A → List ℕ) where
  -- writes of texts
  local_writes : (writes : Entity → Grid (List ℕ) → List Write) → AreLocal writes → IsLocal (λ e. DoesWrites {A = A} {C = SpanMap} text_of (writes e)) (λ e. DoesFirstWrites text_of (writes e))
  local_writes writes local = record {
    rows = λ e old cfg new new_cfg w. (shape_texts text_of (writes e (map_grid text_of old)) old new cfg new_cfg w.0 w.1).0;
    columns = λ e old cfg new new_cfg w. (shape_texts text_of (writes e (map_grid text_of old)) old new cfg new_cfg w.0 w.1).1;
    alike = λ e f old cfg new new_cfg same w. (w.0 ∙ ap (λ ws. with_writes ws (map_grid text_of old)) (sym (local.alike e f (map_grid text_of old) same)), w.1);
    again = λ e old cfg new new_cfg none w. (
      (let shape = shape_texts text_of (writes e (map_grid text_of old)) old new cfg new_cfg w.0 w.1 in
          let there : inside e new.rows new.columns ≡ [] = rw (shape.0, shape.1) none in
          ap (λ ws. with_writes ws (map_grid text_of new)) (sym (local.none e (map_grid text_of new) there))),
      refl,
    );
    left_alike = λ e f old cfg new new_cfg same w. (subst (λ ws. FirstWrites ws (map_grid text_of old) (map_grid text_of new)) (sym (local.alike e f (map_grid text_of old) same)) w.0, w.1);
  }

local_span_writes : (axis : Axis) (size : ℤ) → AreLocal (span_writes axis size)
local_span_writes axis (pos (suc size)) = record { alike = λ e f g same. refl; none = λ e g none. refl }
local_span_writes axis size = record { alike = λ e f g same. ap (λ ps. pull_writes axis (back_of size) (count_of axis g.rows g.columns) ps g) same; none = λ e g none. ap (λ ps. pull_writes axis (back_of size) (count_of axis g.rows g.columns) ps g) none }

-- what is hidden once hidden anchors were dropped was hidden before
hidden_before : (m : SpanMap) (p : Position) → is_hidden (drop_hidden m) p ≡ true → is_hidden m p ≡ true
hidden_before m p hidden =
    let hider = hidden_by (drop_hidden m) p hidden in
    hidden-from m hider.anchor p hider.size (kept m hider.anchor hider.size hider.has).had hider.holds hider.other

-- hidden anchors that were dropped are dropped no more
dropped_once : (m : SpanMap) → drop_hidden (drop_hidden m) ≡ drop_hidden m
dropped_once m = same_map (drop_hidden (drop_hidden m)) (drop_hidden m) (λ q. get-drop_hidden (drop_hidden m) q ∙ stays q (cases_Bool (is_hidden (drop_hidden m) q)))
  where
    stays : (q : Position) → (is_hidden (drop_hidden m) q ≡ true) ⊎ (is_hidden (drop_hidden m) q ≡ false) → cond (is_visible (drop_hidden m) q) (get (drop_hidden m) q) None ≡ get (drop_hidden m) q
    stays q (inr shown) = rw shown refl
    stays q (inl hidden) =
        let before = hidden_before m q hidden in
        let gone : get (drop_hidden m) q ≡ None = get-drop_hidden m q ∙ (rw before refl) in
        rw hidden (sym gone)

spanned_alike : (axis : Axis) (size : ℤ) (e f : Entity) (rows columns : ℕ) (m : SpanMap) → inside e rows columns ≡ inside f rows columns → spanned axis size e rows columns m ≡ spanned axis size f rows columns m
spanned_alike axis (pos (suc size)) e f rows columns m same = ap (λ ps. drop_hidden (grown_each axis (suc size) (count_of axis rows columns) m ps)) same
spanned_alike axis size e f rows columns m same = ap (λ ps. drop_hidden (pulled_each axis (back_of size) (count_of axis rows columns) m ps)) same

spanned_none : (axis : Axis) (size : ℤ) (e : Entity) (rows columns : ℕ) (m : SpanMap) → inside e rows columns ≡ [] → spanned axis size e rows columns m ≡ drop_hidden m
spanned_none axis (pos (suc size)) e rows columns m none = ap (λ ps. drop_hidden (grown_each axis (suc size) (count_of axis rows columns) m ps)) none
spanned_none axis size e rows columns m none = ap (λ ps. drop_hidden (pulled_each axis (back_of size) (count_of axis rows columns) m ps)) none

-- spans
module _ {A : Type 0} (text_of : A → List ℕ) (axis : Axis) (size : ℤ) where
  writes_local : AreLocal (span_writes axis size)
  writes_local = local_span_writes axis size

  shaped : (e : Entity) (old : Grid A) (cfg : SpanMap) (new : Grid A) (new_cfg : SpanMap) → Spans text_of axis size e old cfg new new_cfg → (new.rows ≡ old.rows) × (new.columns ≡ old.columns) × (cfg ≡ cfg)
  shaped e old cfg new new_cfg w = shape_texts text_of (span_writes axis size e (map_grid text_of old)) old new cfg cfg w.texts refl

  left_alike : (e f : Entity) (old : Grid A) (cfg : SpanMap) (new : Grid A) (new_cfg : SpanMap) → inside e old.rows old.columns ≡ inside f old.rows old.columns → SpansFirst text_of axis size f old cfg new new_cfg → SpansFirst text_of axis size e old cfg new new_cfg
  left_alike e f old cfg new new_cfg same (inl none) = inl none
  left_alike e f old cfg new new_cfg same (inr first) = inr (subst (λ ws. FirstWrites ws (map_grid text_of old) (map_grid text_of new)) (sym (writes_local.alike e f (map_grid text_of old) same)) first.0, first.1)

  again : (e : Entity) (old : Grid A) (cfg : SpanMap) (new : Grid A) (new_cfg : SpanMap) → inside e old.rows old.columns ≡ [] → Spans text_of axis size e old cfg new new_cfg → Spans text_of axis size e new new_cfg new new_cfg
  again e old cfg new new_cfg none w =
      let shape = shaped e old cfg new new_cfg w in
      let there : inside e new.rows new.columns ≡ [] = rw (shape.0, shape.1) none in
      let dropped : new_cfg ≡ drop_hidden cfg = w.spans ∙ spanned_none axis size e old.rows old.columns cfg none in
      record {
        texts = ap (λ ws. with_writes ws (map_grid text_of new)) (sym (writes_local.none e (map_grid text_of new) there));
        cells = λ grows. refl;
        spans = dropped ∙ sym (dropped_once cfg) ∙ ap drop_hidden (sym dropped) ∙ sym (spanned_none axis size e new.rows new.columns new_cfg there);
      }

  local_spans : IsLocal (Spans text_of axis size) (SpansFirst text_of axis size)
  local_spans = record {
    rows = λ e old cfg new new_cfg w. (shaped e old cfg new new_cfg w).0;
    columns = λ e old cfg new new_cfg w. (shaped e old cfg new new_cfg w).1;
    alike = λ e f old cfg new new_cfg same w. record {
      texts = w.texts ∙ ap (λ ws. with_writes ws (map_grid text_of old)) (sym (writes_local.alike e f (map_grid text_of old) same));
      cells = w.cells;
      spans = w.spans ∙ sym (spanned_alike axis size e f old.rows old.columns cfg same);
    };
    again = again;
    left_alike = left_alike;
  }

-- any change of an entity's cells
pub local_change : {A : Type 0} (text_of : A → List ℕ) (change : EntityChange) → IsLocal (ChangeDoes text_of change) (ChangeLeaves text_of change)
local_change text_of (Rewrite f) = local_writes text_of (rewritten f) (local_rewritten f)
local_change text_of (RewriteIf some f) = local_writes text_of (rewritten_if some f) (local_rewritten_if some f)
local_change text_of (Span axis size) = local_spans text_of axis size
local_change text_of (Merge axis) = local_merges text_of axis
