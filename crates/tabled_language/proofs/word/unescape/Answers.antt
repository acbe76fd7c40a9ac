use Rattle.tabled_language.proofs.Common.{None, [], ap, arith, before, drop, drop_all, drop_more, escape, get_or, length, length-drop, option_and_then, refl, sym, take_rest, unescaped, ◌+◌, ◌∙◌, ◌∷◌, ◌≡◌}
use Rattle.tabled_language.proofs.Escapes.{all_before-none, escape_at, first_backslash, from_backslash, no_escape_at, unescaped-last}
use Rattle.tabled_language.proofs.word.unescape.Goals as goal

pub loop-place-init : goal.loop-place-init
loop-place-init c = rw (c.clear.ensures.items) (all_before-none (unescaped c.args.word.now))

pub returns-in_default-behind : goal.returns-in_default-behind
returns-in_default-behind c =
    let word = c.loop-place.rest.now in
    let place = c.in-Some.place in
    let backslash = first_backslash word place c.in-Some.ensures.0 c.in-Some.ensures.1 in
    let nothing : drop (place + 1) word ≡ [] = drop_all (place + 1) word (omega (arith, c.in_default-behind.len_below, ap length c.split_at.ensures.back, length-drop place word)) in
    let alone : drop place word ≡ 92 ∷ [] = drop_more word place 0 c.in-Some.ensures.1 ∙ rw (backslash, nothing) refl in
    sym (no_escape_at c.loop-place.bytes.items word (92 ∷ []) place c.in-Some.ensures.0 alone refl) ∙ c.loop-place.invariant

pub returns-in_default-escape : goal.returns-in_default-escape
returns-in_default-escape c =
    let word = c.loop-place.rest.now in
    let behind = c.split_at.result.1.now in
    let begins = from_backslash word behind c.in-Some.place c.in-Some.ensures.0 c.in-Some.ensures.1 c.split_at.ensures.back c.in-len2-up.len_at_least in
    let none = ap (option_and_then (λ e. before e (unescaped (drop 2 behind)))) (sym c.in_default-escape.ensures) in
    sym (no_escape_at c.loop-place.bytes.items word _ c.in-Some.place c.in-Some.ensures.0 begins none) ∙ c.loop-place.invariant

pub loop-place-preserved : goal.loop-place-preserved
loop-place-preserved c =
    let word = c.loop-place.rest.now in
    let behind = c.split_at.result.1.now in
    let begins = from_backslash word behind c.in-Some.place c.in-Some.ensures.0 c.in-Some.ensures.1 c.split_at.ensures.back c.in-len2-up.len_at_least in
    let more = escape_at c.loop-place.bytes.items word (drop 2 behind) c.in-Some.place (get_or behind 1 0) c.in-Some-escape.escaped c.in-Some.ensures.0 begins (sym c.in-Some-escape.ensures) in
    rw (take_rest behind 2, c.in_ok-push.ensures.items, c.in_ok-extend_from_slice.ensures.items, c.split_at.ensures.front) (sym more ∙ c.loop-place.invariant)

pub returns : goal.returns
returns c = rw (c.in_ok-extend_from_slice-2.ensures.items) (sym (unescaped-last c.loop-place.bytes.items c.loop-place.rest.now c.in_default.ensures) ∙ c.loop-place.invariant)
