use Rattle.std.proofs.Common.{Bor}
use Rattle.std.specs.Option.{option_map}
use Rattle.std.specs.Prelude.{Bool, false, if◌then◌else◌}
use Rattle.std.specs.Str.{bytes_eq}
use Rattle.std.specs.String.{string_bytes}
use Rattle.tabled_script.proofs.Common.{◌++◌, ◌∙◌, ◌≡◌, List, Option, Some, ap, append_assoc, codes, sym, ℕ}
use Rattle.tabled_script.proofs.refusal.push_cure.Goals as goal
use Rattle.tabled_script.specs.Refusals.{cure_of}

joined : (a b c d : List ℕ) → ((a ++ b) ++ c) ++ d ≡ a ++ (b ++ (c ++ d))
joined a b c d = simp append_assoc

another : (option : List ℕ) (known : Option (Bor (List ℕ))) (meant : Bor (List ℕ)) → known ≡ Some meant → bytes_eq meant.now option ≡ false
    → cure_of option (option_map (λ (it : Bor (List ℕ)). it.now) known) ≡ codes "; maybe " ++ (meant.now ++ codes " is meant")
another option known meant is differs =
    ap (λ (it : Option (Bor (List ℕ))). cure_of option (option_map (λ (word : Bor (List ℕ)). word.now) it)) is
    ∙ ap (λ (same : Bool). if same then codes " here: it stands first" else codes "; maybe " ++ (meant.now ++ codes " is meant")) differs

pub returns : goal.returns
returns c =
    let meant = c.in-Some.meant.now in
    let before = string_bytes c.args.text.now in
    c.in_ok-push_str-3.ensures.bytes
    ∙ ap (λ (bytes : List ℕ). bytes ++ codes " is meant") (c.in_ok-push_str-2.ensures.bytes ∙ ap (λ (bytes : List ℕ). bytes ++ meant) c.in_ok-push_str.ensures.bytes)
    ∙ joined before (codes "; maybe ") meant (codes " is meant")
    ∙ ap (λ (cure : List ℕ). before ++ cure) (sym (another c.args.option.now c.args.meant c.in-Some.meant c.in-Some.is (sym c.eq.ensures ∙ c.if-eq.false)))
