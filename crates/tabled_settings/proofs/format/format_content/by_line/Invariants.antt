use Rattle.tabled_settings.proofs.Common.{◌++◌, ◌∷◌, ◌≡◌, AlwaysYields, Asked, AskedInTurn, List, flat_map, joined_lines, lines, lines_steps, string_bytes, ℕ}
use Rattle.tabled_settings.proofs.format.format_content.by_line.Given as goal

abbrev pub invariant-loop-line : goal.invariant-loop-line
invariant-loop-line g l =
    let asked = Asked (goal.F-step g) in
    record {
      can : goal.F-IsAlwaysCallable g l.f;
      next : (goal.iterator-loop-line g).can_next l.line-iterator;
      ends : (goal.iterator-loop-line g).is_finite l.line-iterator;
      rest : (left : List (List ℕ)) × AlwaysYields lines_steps (λ x. x.now) l.line-iterator left
          × ((answers : List (List ℕ)) (last : _) → AskedInTurn asked l.f left answers last → (all : List (List ℕ)) × AskedInTurn asked l.fn.f (lines l.fn.text) all last × (joined_lines all ≡ string_bytes l.joined ++ flat_map (λ more. 10 ∷ more) answers));
    }
