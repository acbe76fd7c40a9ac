use Rattle.std.proofs.lemmas.List.{get_or-take, length-take-le, take_more}
use Rattle.std.proofs.lemmas.Option.{get_or_from_slice_get}
use Rattle.tabled_json.proofs.Columns.{found-at, found-inside, with-new}
use Rattle.tabled_json.proofs.Common.{◌+◌, ◌<◌, ◌≡◌, ◌∷◌, ◌∙◌, ◌++◌, [], ℕ, List, None, Some, ap, arith, length, sym, take}
use Rattle.tabled_json.specs.Tables.{find_key, with_key}
use Rattle.tabled_texts.specs.Texts.{row_at}
use Rattle.tabled_json.proofs.keyed.check_keys.Goals as goal

pub returns-in-Some-clause-why : goal.returns-in-Some-clause-why
returns-in-Some-clause-why g c =
    let row = row_at (g.R.Rows.texts c.args.rows.now) 0 in
    let j = c.loop-j.j in
    let text = c.text-text.result.now in
    let first = c.in-Some.first in
    let within : j < length row = omega (arith, c.loop-j-test.true, c.width-j-end.ensures) in
    let found : find_key text (take j row) ≡ Some first = ap (find_key text) (sym c.loop-j.invariant.keys) ∙ (sym c.in_ok-first.ensures.found ∙ c.in-Some.is) in
    let inside : first < length (take j row) = found-inside text (take j row) first found in
    let count : length (take j row) ≡ j = length-take-le j row (omega (arith, within)) in
    let before : first < j = omega (arith, inside, count) in
    (before, within, sym (get_or-take j row first [] before) ∙ (found-at text (take j row) first found ∙ sym (get_or_from_slice_get row j text [] c.text-text.ensures)))

pub loop-j-preserved : goal.loop-j-preserved
loop-j-preserved g c =
    let row = row_at (g.R.Rows.texts c.args.rows.now) 0 in
    let j = c.loop-j.j in
    let text = c.text-text.result.now in
    let within : j < length row = omega (arith, c.loop-j-test.true, c.width-j-end.ensures) in
    let none : find_key text (take j row) ≡ None = ap (find_key text) (sym c.loop-j.invariant.keys) ∙ (sym c.in_ok-first.ensures.found ∙ c.in_default.is) in
    let more : take (j + 1) row ≡ take j row ++ (text ∷ []) = take_more row j [] within ∙ ap (λ (t : List ℕ). take j row ++ (t ∷ [])) (get_or_from_slice_get row j text [] c.text-text.ensures) in
    record {
      keys = c.in_ok-first.ensures.with ∙ (ap (λ (ks : List (List ℕ)). with_key ks text) c.loop-j.invariant.keys ∙ (sym (with-new text (take j row) none) ∙ sym more));
      listed = c.in_ok-first.ensures.listed;
    }
