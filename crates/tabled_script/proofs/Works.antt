-- Pens whose writers work.
use Rattle.std.specs.declared.io.Error.{Error}
use Rattle.tabled_held.specs.Pens.{Sends}
use Rattle.tabled_held.specs.declared.pen.Pen.{Pen}
use Rattle.tabled_script.proofs.Common.{◌∙◌, ◌≡◌, List, None, Option, Some, refl, sym, ℕ}

-- a pen whose writer works has not failed before
pub works-earlier : {W : Type 0} {contents : W → Option (List ℕ)} {a b : Pen W} {bytes : List ℕ} → Sends contents a b bytes → b.held.failure ≡ None → a.held.failure ≡ None
works-earlier {W} {contents} {a} {b} {bytes} sent works = working a.held.failure refl
  where
    working : (failure : Option Error) → a.held.failure ≡ failure → a.held.failure ≡ None
    working None is = is
    working (Some e) is = absurd (differ (sym (rw is at sent.grows.are).1 ∙ works))
      where
        differ : Some e ≡ None → ⊥
        differ same = cc
