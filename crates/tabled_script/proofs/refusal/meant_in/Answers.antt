-- The option that is like a word, by its bytes.
use Rattle.std.specs.List.{find}
use Rattle.std.specs.Option.{option_map, option_or}
use Rattle.std.specs.Prelude.{Bool, cond, false, if◌then◌else◌, nat_le, true}
use Rattle.tabled_help.specs.Near.{is_within}
use Rattle.tabled_script.proofs.Common.{[], ◌∙◌, ◌∷◌, ◌≡◌, List, None, Option, Some, ap, ap₂, length, map, refl, ℕ}
use Rattle.std.proofs.Common.{Bor}
use Rattle.tabled_script.proofs.refusal.meant_in.Goals as goal
use Rattle.tabled_script.specs.Refusals.{meant_in}

abbrev bytes : Bor (List ℕ) → List ℕ
bytes word = word.now

first : (is_found : Bool) (word : Bor (List ℕ)) (o : Option (Bor (List ℕ))) (others : Option (List ℕ)) → option_map bytes o ≡ others → option_map bytes (cond is_found (Some word) o) ≡ cond is_found (Some word.now) others
first true word o others is = refl
first false word o others is = is

found : (test : List ℕ → Bool) (words : List (Bor (List ℕ))) → option_map bytes (find (λ word. test word.now) words) ≡ find test (map bytes words)
found test [] = refl
found test (word ∷ words) = first (test word.now) word (find (λ w. test w.now) words) (find test (map bytes words)) (found test words)

chosen : (is_long : Bool) (one two : Option (Bor (List ℕ))) → option_map bytes (if is_long then option_or one two else one) ≡ (if is_long then option_or (option_map bytes one) (option_map bytes two) else option_map bytes one)
chosen true None two = refl
chosen true (Some word) two = refl
chosen false one two = refl

pub returns : goal.returns
unfolding meant_in
returns c =
    let word = c.args.word.now in
    let words = c.args.options.now in
    ap (option_map bytes) c.nearest.ensures
    ∙ (chosen (nat_le 5 (length word)) (find (λ w. is_within 1 word w.now) words) (find (λ w. is_within 2 word w.now) words)
    ∙ ap₂ (λ (one two : Option (List ℕ)). if nat_le 5 (length word) then option_or one two else one) (found (is_within 1 word) words) (found (is_within 2 word) words))
