-- Options that act like others.
use Rattle.std.proofs.Common.{ℕ, zero, suc, List, [], ◌∷◌, Option, inl, inr, refl, sym, ap, subst}
use Rattle.std.specs.List.{AllByRecursion, AllZip}
use Rattle.std.specs.Option.{unwrap_or}
use Rattle.tabled_grid.specs.Grid.{Grid}
use Rattle.tabled_options.specs.Does.{ActsLike, Change, Each, EachUntil, EachUntilAt, TableActsLike, Then, ThenLeaves}

-- two options act like two others, where each acts like the other in its place
pub act_like_in_order : {A C X can can' more more' : Type 0} {does does' leaves leaves' next next' last last' : X → Change A C} → ActsLike can can' does does' leaves leaves' → ActsLike more more' next next' last last' → ActsLike (can × more) (can' × more') (λ x. Then (does x) (next x)) (λ x. Then (does' x) (next' x)) (λ x. ThenLeaves (does x) (leaves x) (last x)) (λ x. ThenLeaves (does' x) (leaves' x) (last' x))
act_like_in_order first second = record {
  can_be_used = λ can. (first.can_be_used can.0, second.can_be_used can.1);
  does_alike = λ x old cfg new new_cfg e. (e.0, e.1, first.does_alike x old cfg e.0 e.1 e.2, second.does_alike x e.0 e.1 new new_cfg e.3);
  leaves_alike = λ x old cfg new new_cfg e. elim e [
    | inl l ↦ inl (first.leaves_alike x old cfg new new_cfg l)
    | inr l ↦ inr (l.0, l.1, first.does_alike x old cfg l.0 l.1 l.2, second.leaves_alike x l.0 l.1 new new_cfg l.3)
  ];
}

-- so do the options of two lists
module _ {A C X : Type 0} {can : X → Type 0} {does leaves : X → Change A C} {like : X → X → Type 0} (same : (x y : X) → like x y → TableActsLike (can x) (can y) (does x) (does y) (leaves x) (leaves y)) where
  until_alike : (xs ys : List X) → AllZip like xs ys → (old : Grid A) (cfg : C) (new : Grid A) (new_cfg : C) (k : ℕ) → EachUntilAt does leaves ys k old cfg new new_cfg → EachUntil does leaves xs old cfg new new_cfg
  until_alike [] [] alike old cfg new new_cfg k at = (k, at)
  until_alike [] (y ∷ ys) alike old cfg new new_cfg k at = absurd alike
  until_alike (x ∷ xs) [] alike old cfg new new_cfg k at = absurd alike
  until_alike (x ∷ xs) (y ∷ ys) alike old cfg new new_cfg zero at = (
    zero,
    record {
      item = x;
      is = refl;
      grid = at.grid;
      configuration = at.configuration;
      before = at.before;
      left = (same x y alike.0).leaves_alike tt at.grid at.configuration new new_cfg (subst (λ item. leaves item at.grid at.configuration new new_cfg) (sym (ap (λ (o : Option X). unwrap_or o y) at.is)) at.left);
    },
  )
  until_alike (x ∷ xs) (y ∷ ys) alike old cfg new new_cfg (suc k) at =
      let first = at.before in
      let rest = until_alike xs ys alike.1 first.0 first.1 new new_cfg k (record { item = at.item; is = at.is; grid = at.grid; configuration = at.configuration; before = first.3; left = at.left }) in (
        suc rest.0,
        record {
          item = rest.1.item;
          is = rest.1.is;
          grid = rest.1.grid;
          configuration = rest.1.configuration;
          before = (first.0, first.1, (same x y alike.0).does_alike tt old cfg first.0 first.1 first.2, rest.1.before);
          left = rest.1.left;
        },
      )

  pub act_like_each : (xs ys : List X) → AllZip like xs ys → TableActsLike (AllByRecursion can xs) (AllByRecursion can ys) (Each does xs) (Each does ys) (EachUntil does leaves xs) (EachUntil does leaves ys)
  act_like_each xs ys alike = record {
    can_be_used = each_can xs ys alike;
    does_alike = λ u. each_does xs ys alike;
    leaves_alike = λ u old cfg new new_cfg left. until_alike xs ys alike old cfg new new_cfg left.0 left.1;
  }
    where
      each_can : (xs ys : List X) → AllZip like xs ys → AllByRecursion can xs → AllByRecursion can ys
      each_can [] [] alike can = tt
      each_can [] (y ∷ ys) alike can = absurd alike
      each_can (x ∷ xs) [] alike can = absurd alike
      each_can (x ∷ xs) (y ∷ ys) alike can = ((same x y alike.0).can_be_used can.0, each_can xs ys alike.1 can.1)

      each_does : (xs ys : List X) → AllZip like xs ys → (old : Grid A) (cfg : C) (new : Grid A) (new_cfg : C) → Each does ys old cfg new new_cfg → Each does xs old cfg new new_cfg
      each_does [] [] alike old cfg new new_cfg e = e
      each_does [] (y ∷ ys) alike old cfg new new_cfg e = absurd alike
      each_does (x ∷ xs) [] alike old cfg new new_cfg e = absurd alike
      each_does (x ∷ xs) (y ∷ ys) alike old cfg new new_cfg e = (e.0, e.1, (same x y alike.0).does_alike tt old cfg e.0 e.1 e.2, each_does xs ys alike.1 e.0 e.1 new new_cfg e.3)
