-- What options keep, where their parts keep it.
use Rattle.std.proofs.Common.{arith}
use Rattle.tabled_options.proofs.Common.{[], ◌∷◌, ◌≡◌, All-from_recursion, AllByRecursion, Change, Each, EachListed, EachListedUntil, EachUntil, Grid, Keeps, List, OptionKeeps, Same, SameOr, Some, Then, ThenLeaves, common_steps, get_or_from_slice_get, slice_get, subst, suc, sym, take, zero, ℕ}
use Rattle.std.proofs.lemmas.List.Elements.{All-get_or}
use Rattle.std.proofs.lemmas.Option.{slice_get_within}

-- what holds of everything holds of all members
all_of : {X : Type 0} (P : X → Type 0) (xs : List X) → ((x : X) → P x) → AllByRecursion P xs
all_of P [] each = tt
all_of P (x ∷ xs) each = (each x, all_of P xs each)

-- what holds of all members holds of the one at a place
at_place : {X : Type 0} (P : X → Type 0) (xs : List X) (k : ℕ) (x : X) → slice_get xs k ≡ Some x → AllByRecursion P xs → P x
at_place P xs k x is all = subst P (get_or_from_slice_get xs k x x is) (All-get_or P xs k x (slice_get_within xs k x is) (All-from_recursion P xs all))

module _ {A C : Type 0} (holds : Grid A → C → Type 0) where
  pub keeps_same : Keeps holds Same
  keeps_same old cfg new new_cfg p same = subst (λ k. holds new k) (sym same.1) (subst (λ m. holds m cfg) (sym same.0) p)

  pub keeps_then : (first second : Change A C) → Keeps holds first → Keeps holds second → Keeps holds (Then first second)
  keeps_then first second keeps keeps_second old cfg new new_cfg p done = keeps_second done.0 done.1 new new_cfg (keeps old cfg done.0 done.1 p done.2) done.3

  pub keeps_same_or : (leaves : Change A C) → Keeps holds leaves → Keeps holds (SameOr leaves)
  keeps_same_or leaves keeps old cfg new new_cfg p left = grind (arith, common_steps, keeps_same)

  -- two options one after the other
  pub keeps_in_order : (first first_leaves second second_leaves : Change A C) → OptionKeeps holds first first_leaves → OptionKeeps holds second second_leaves → OptionKeeps holds (Then first second) (ThenLeaves first first_leaves second_leaves)
  keeps_in_order first first_leaves second second_leaves keeps keeps_second = grind (arith, common_steps, keeps_then)

  -- a copy of an option, which may be refused
  pub keeps_copied : (does leaves : Change A C) → OptionKeeps holds does leaves → OptionKeeps holds does (SameOr leaves)
  keeps_copied does leaves keeps = record { done = keeps.done; refused = keeps_same_or leaves keeps.refused }

  module _ {X : Type 0} (does leaves : X → Change A C) where
    pub keeps_each : (items : List X) → AllByRecursion (λ x. OptionKeeps holds (does x) (leaves x)) items → Keeps holds (Each does items)
    keeps_each [] keeps = keeps_same
    keeps_each (x ∷ xs) keeps = keeps_then (does x) (Each does xs) keeps.0.done (keeps_each xs keeps.1)

    keeps_before : (items : List X) (k : ℕ) → AllByRecursion (λ x. OptionKeeps holds (does x) (leaves x)) items → Keeps holds (Each does (take k items))
    keeps_before items zero keeps = keeps_same
    keeps_before [] (suc k) keeps = keeps_same
    keeps_before (x ∷ xs) (suc k) keeps = keeps_then (does x) (Each does (take k xs)) keeps.0.done (keeps_before xs k keeps.1)

    -- options in a list
    pub keeps_all : (items : List X) → AllByRecursion (λ x. OptionKeeps holds (does x) (leaves x)) items → OptionKeeps holds (Each does items) (EachUntil does leaves items)
    keeps_all items keeps = grind (arith, common_steps, keeps_each, at_place, keeps_before)

    -- copies of options in a list
    pub keeps_all_copied : (items : List X) → AllByRecursion (λ x. OptionKeeps holds (does x) (leaves x)) items → AllByRecursion (λ x. OptionKeeps holds (does x) (SameOr (leaves x))) items
    keeps_all_copied [] keeps = tt
    keeps_all_copied (x ∷ xs) keeps = (keeps_copied (does x) (leaves x) keeps.0, keeps_all_copied xs keeps.1)

    -- one option at each item that is listed
    pub keeps_listed : (lists : Grid A → List X → Type 0) → ((x : X) → OptionKeeps holds (does x) (leaves x)) → OptionKeeps holds (EachListed lists does) (EachListedUntil lists does leaves)
    keeps_listed lists keeps = record {
      done = λ old cfg new new_cfg p done. keeps_each done.0 (all_of (λ x. OptionKeeps holds (does x) (leaves x)) done.0 keeps) old cfg new new_cfg p done.2;
      refused = λ old cfg new new_cfg p left. (keeps_all left.0 (all_of (λ x. OptionKeeps holds (does x) (leaves x)) left.0 keeps)).refused old cfg new new_cfg p left.2;
    }
