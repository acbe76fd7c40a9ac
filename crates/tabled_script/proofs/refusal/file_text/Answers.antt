use Rattle.tabled_script.proofs.Common.{[], ◌++◌, ◌∙◌, ◌∷◌, ◌≡◌, List, ap, ap₂, append_assoc, codes, ℕ}
use Rattle.tabled_script.proofs.refusal.file_text.Goals as goal
use Rattle.tabled_script.specs.Refusals.{reading_options}

joined : (a b c d e : List ℕ) → (((a ++ b) ++ c) ++ d) ++ e ≡ a ++ (b ++ (c ++ (d ++ e)))
joined a b c d e = simp append_assoc

pub returns : goal.returns
returns c =
    let name = c.args.name.now in
    c.in_ok-push_str-4.ensures.bytes
    ∙ ap (λ (bytes : List ℕ). bytes ++ name) (c.in_ok-push_str-3.ensures.bytes
    ∙ ap (λ (bytes : List ℕ). bytes ++ 32 ∷ []) (c.in_ok-push_str-2.ensures.bytes
    ∙ ap₂ (λ (bytes options : List ℕ). bytes ++ options) (c.in_ok-push_str.ensures.bytes
    ∙ ap (λ (bytes : List ℕ). bytes ++ codes " is a file: ") c.in_ok-text.ensures.ok) c.reading_options.ensures))
    ∙ joined name (codes " is a file: ") (reading_options name) (32 ∷ []) name
