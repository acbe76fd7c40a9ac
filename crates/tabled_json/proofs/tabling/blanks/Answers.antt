use Rattle.tabled_json.proofs.Common.{◌∷◌, ◌∙◌, ◌++◌, [], ℕ, List, ap, map, map-append}
use Rattle.tabled_json.proofs.Taken.{one-text-more}
use Rattle.tabled_texts.specs.Texts.{text_of}
use Rattle.tabled_json.proofs.tabling.blanks.Goals as goal

pub loop-key-preserved : goal.loop-key-preserved
loop-key-preserved c =
    ap (map text_of) c.in_ok-push.ensures.items ∙ map-append text_of c.loop-key.row.items (_ ∷ [])
    ∙ ap (λ (l : List (List ℕ)). l ++ ([] ∷ [])) c.loop-key.invariant ∙ one-text-more text_of c.args.keys.now c.loop-key.key-index c.loop-key-test.true
