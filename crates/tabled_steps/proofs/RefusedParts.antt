-- A refused step is refused in one of its parts, and the parts before that one are done.
use Rattle.tabled_steps.proofs.Common.{[], ◌++◌, ◌+◌, ◌∙◌, ◌∷◌, ◌≡◌, Change, Does, Each, EachUntil, EachUntilAt, Grid, IsEven-map_grid, Leaves, List, Some, SpanMap, Step, ap, append-nil, append_assoc, arith, flattened, inl, inr, length, length-append, parts, refl, same_Some, slice_get, state_of, suc, sym, take, zero, ℕ}
use Rattle.std.proofs.lemmas.List.{take-append-le}
use Rattle.std.proofs.lemmas.Option.{slice_get_within}
use Rattle.tabled_grid.proofs.AddedLines.{front_read}
use Rattle.tabled_grid.specs.Grid.{IsEven}
use Rattle.tabled_steps.proofs.AfterSteps.{after_each}
use Rattle.tabled_steps.proofs.EvenStates.{undone_midway}
use Rattle.tabled_steps.proofs.StepsUntil.{first_refused, later_refused}
use Rattle.tabled_steps.specs.States.{SplitsAreUndoneBefore}
use Rattle.tabled_steps.specs.Steps.{RefusedAt}
use Rattle.tabled_steps.specs.declared.step.Step.TheVariants as step

module _ {A C X : Type 0} (does leaves : X → Change A C) where
  each_both : (xs ys : List X) (old : Grid A) (cfg : C) (between : Grid A) (between_cfg : C) (new : Grid A) (new_cfg : C) → Each does xs old cfg between between_cfg → Each does ys between between_cfg new new_cfg → Each does (xs ++ ys) old cfg new new_cfg
  each_both [] ys old cfg between between_cfg new new_cfg (cells, spans) each = rw (← cells, ← spans) each
  each_both (x ∷ xs) ys old cfg between between_cfg new new_cfg (behind, behind_cfg, first, rest) each = (behind, behind_cfg, first, each_both xs ys behind behind_cfg between between_cfg new new_cfg rest each)

  -- items that follow change nothing
  until_first : (xs ys : List X) (n : ℕ) (old : Grid A) (cfg : C) (new : Grid A) (new_cfg : C) → EachUntilAt does leaves xs n old cfg new new_cfg → EachUntilAt does leaves (xs ++ ys) n old cfg new new_cfg
  until_first xs ys n old cfg new new_cfg at =
      let within = slice_get_within xs n at.item at.is in
      let same = take-append-le n xs ys (omega (arith, within)) in
      record { item = at.item; is = front_read xs ys n within ∙ at.is; grid = at.grid; configuration = at.configuration; before = rw same at.before; left = at.left }

  -- items are done before
  until_later : (xs ys : List X) (n k : ℕ) (old : Grid A) (cfg : C) (between : Grid A) (between_cfg : C) (new : Grid A) (new_cfg : C) → k ≡ length xs + n → Each does xs old cfg between between_cfg → EachUntilAt does leaves ys n between between_cfg new new_cfg → EachUntilAt does leaves (xs ++ ys) k old cfg new new_cfg
  until_later [] ys n k old cfg between between_cfg new new_cfg is (cells, spans) at = let same : k ≡ n = omega (arith, is) in rw (same, ← cells, ← spans) at
  until_later (x ∷ xs) ys n k old cfg between between_cfg new new_cfg is (behind, behind_cfg, first, rest) at =
      let next : k ≡ suc (length xs + n) = omega (arith, is) in
      rw next (later_refused does leaves x (xs ++ ys) old cfg behind behind_cfg (length xs + n) new new_cfg first (until_later xs ys n (length xs + n) behind behind_cfg between between_cfg new new_cfg refl rest at))

-- the parts of steps are those of the steps before one, of that one, and of the others
flattened_at : (xs : List Step) (k : ℕ) (x : Step) → slice_get xs k ≡ Some x → (rest : List Step) × (flattened xs ≡ flattened (take k xs) ++ (parts x ++ rest)) × (flattened (take (suc k) xs) ≡ flattened (take k xs) ++ parts x)
flattened_at [] k x is = absurd (omega (arith, slice_get_within [] k x is))
flattened_at (y ∷ ys) zero x is = let same = same_Some _ _ is in (flattened ys, ap (λ z. parts z ++ flattened ys) same, append-nil (parts y) ∙ ap parts same)
flattened_at (y ∷ ys) (suc k) x is =
    let rest = flattened_at ys k x is in
    let before = flattened (take k ys) in
    (rest.0, ap (λ zs. parts y ++ zs) rest.1 ∙ sym (append_assoc (parts y) before (parts x ++ rest.0)), ap (λ zs. parts y ++ zs) rest.2 ∙ sym (append_assoc (parts y) before (parts x)))

module _ {A : Type 0} (is_blank : A → Type 0) (text_of : A → List ℕ) where
  each_part : (x : Step) (old : Grid A) (cfg : SpanMap) (new : Grid A) (new_cfg : SpanMap) → Does is_blank text_of x old cfg new new_cfg → Each (Does is_blank text_of) (parts x) old cfg new new_cfg
  each_part (step.Both' _ first _ second) old cfg new new_cfg (between, between_cfg, one, other) = each_both (Does is_blank text_of) (Leaves is_blank text_of) (parts first) (parts second) old cfg between between_cfg new new_cfg (each_part first old cfg between between_cfg one) (each_part second between between_cfg new new_cfg other)
  each_part _ old cfg new new_cfg does = (new, new_cfg, does, (refl, refl))

  each_flattened : (xs : List Step) (old : Grid A) (cfg : SpanMap) (new : Grid A) (new_cfg : SpanMap) → Each (Does is_blank text_of) xs old cfg new new_cfg → Each (Does is_blank text_of) (flattened xs) old cfg new new_cfg
  each_flattened [] old cfg new new_cfg same = same
  each_flattened (x ∷ xs) old cfg new new_cfg (between, between_cfg, first, rest) = each_both (Does is_blank text_of) (Leaves is_blank text_of) (parts x) (flattened xs) old cfg between between_cfg new new_cfg (each_part x old cfg between between_cfg first) (each_flattened xs between between_cfg new new_cfg rest)

  refused_part : (x : Step) (old : Grid A) (cfg : SpanMap) (new : Grid A) (new_cfg : SpanMap) → Leaves is_blank text_of x old cfg new new_cfg → EachUntil (Does is_blank text_of) (Leaves is_blank text_of) (parts x) old cfg new new_cfg
  refused_part (step.Both' _ first _ second) old cfg new new_cfg (inl left) =
      let at = refused_part first old cfg new new_cfg left in
      (at.0, until_first (Does is_blank text_of) (Leaves is_blank text_of) (parts first) (parts second) at.0 old cfg new new_cfg at.1)
  refused_part (step.Both' _ first _ second) old cfg new new_cfg (inr (between, between_cfg, one, other)) =
      let at = refused_part second between between_cfg new new_cfg other in
      (length (parts first) + at.0, until_later (Does is_blank text_of) (Leaves is_blank text_of) (parts first) (parts second) at.0 (length (parts first) + at.0) old cfg between between_cfg new new_cfg refl (each_part first old cfg between between_cfg one) at.1)
  refused_part x old cfg new new_cfg left = (0, first_refused (Does is_blank text_of) (Leaves is_blank text_of) x [] old cfg new new_cfg left)

  -- the splits before a refused part of a step are undone by gluing
  pub undone_before : (steps : List Step) (k : ℕ) (old : Grid A) (cfg : SpanMap) (new : Grid A) (new_cfg : SpanMap) → IsEven old → RefusedAt is_blank text_of steps k old cfg new new_cfg → SplitsAreUndoneBefore is_blank text_of steps k old cfg new new_cfg
  undone_before steps k old cfg new new_cfg even at =
      let part = refused_part at.item at.grid at.configuration new new_cfg at.left.0 in
      let cut = flattened_at steps k at.item at.is in
      let others = flattened (take k steps) in
      let first = until_first (Does is_blank text_of) (Leaves is_blank text_of) (parts at.item) cut.0 part.0 at.grid at.configuration new new_cfg part.1 in
      let later = until_later (Does is_blank text_of) (Leaves is_blank text_of) others (parts at.item ++ cut.0) part.0 (length others + part.0) old cfg at.grid at.configuration new new_cfg refl (each_flattened (take k steps) old cfg at.grid at.configuration at.before) first in
      let until : EachUntilAt (Does is_blank text_of) (Leaves is_blank text_of) (flattened steps) (length others + part.0) old cfg new new_cfg = rw cut.1 later in
      let many = slice_get_within (parts at.item) part.0 part.1.item part.1.is in
      let long = ap length cut.2 ∙ length-append others (parts at.item) in
      record {
        part = length others + part.0;
        not_before = omega arith;
        within = omega (arith, many, long);
        refused = until;
        undone = λ first rest split are. undone_midway (take (length others + part.0) (flattened steps)) first rest split (state_of text_of old cfg) (state_of text_of until.grid until.configuration) (IsEven-map_grid text_of old even) are (after_each text_of is_blank (take (length others + part.0) (flattened steps)) old cfg until.grid until.configuration until.before);
      }
