use Rattle.tabled_script.proofs.Common.{◌++◌, ◌∙◌, ◌≡◌, ap, ap₂, escaped, escaped_byte, flat_map-append, rules, sym, take-append-drop}
use Rattle.tabled_script.proofs.words.is_plain.Goals as goal

pub loop-rest-preserved : goal.loop-rest-preserved
loop-rest-preserved c = λ plain.
    let part = c.split_at.result.0.now in
    let others = c.split_at.result.1.now in
    let whole : part ++ others ≡ c.loop-rest.rest.now = rw (c.split_at.ensures.front, c.split_at.ensures.back) (take-append-drop 8 c.loop-rest.rest.now) in
    let first : escaped part ≡ part = search rules in
    let both : escaped (part ++ others) ≡ part ++ others = flat_map-append escaped_byte part others ∙ ap₂ (λ xs ys. xs ++ ys) first plain in
    c.loop-rest.invariant (ap escaped (sym whole) ∙ both ∙ whole)
