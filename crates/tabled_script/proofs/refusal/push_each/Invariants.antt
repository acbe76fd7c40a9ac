use Rattle.std.specs.List.{flat_map}
use Rattle.std.specs.Prelude.{◌≡◌, ◌++◌, ◌∷◌, take}
use Rattle.std.specs.String.{string_bytes}
use Rattle.tabled_script.proofs.refusal.push_each.Given as goal

abbrev pub invariant-loop-name : goal.invariant-loop-name
invariant-loop-name l = string_bytes l.line ≡ string_bytes l.initial.line ++ flat_map (λ name. 32 ∷ name.now) (take l.name-index l.names)
