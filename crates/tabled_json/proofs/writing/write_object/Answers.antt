use Rattle.std.proofs.Common.{ap₂}
use Rattle.std.proofs.lemmas.List.{take_all}
use Rattle.std.proofs.lemmas.Slice.Zip.{length-zip}
use Rattle.std.specs.List.{zip}
use Rattle.std.specs.Prelude.{min}
use Rattle.tabled_held.proofs.Pens.{sends-as, sends-then}
use Rattle.tabled_json.proofs.Common.{◌++◌, ◌∙◌, ◌∷◌, ◌≡◌, [], ℕ, List, ap, arith, length, map, sym, take}
use Rattle.tabled_json.proofs.Parts.{parted-next, zip-get}
use Rattle.tabled_texts.specs.Texts.{row_at}
use Rattle.tabled_json.specs.Writing.{member_text, parted}
use Rattle.tabled_json.proofs.writing.write_object.Goals as goal

pub loop-j-preserved : goal.loop-j-preserved
loop-j-preserved g c =
    let texts = g.R.Rows.texts c.args.rows.now in
    let keys = row_at texts 0 in
    let row = row_at texts c.args.i in
    let j = c.loop-j.j in
    let key = c.text.result.now in
    let text = c.text-in-loop-j.result.now in
    let at = zip-get keys row j key text c.text.ensures c.text-in-loop-j.ensures in
    sends-as (ap (λ (l : List ℕ). 123 ∷ l) (parted-next (member_text c.args.values) (44 ∷ []) (zip keys row) j (key, text) at))
    (sends-then c.loop-j.invariant (sends-then c.write_between.ensures c.write_member.ensures))

pub returns : goal.returns
returns g c =
    let texts = g.R.Rows.texts c.args.rows.now in
    let members = zip (row_at texts 0) (row_at texts c.args.i) in
    let count : length members ≡ c.min-j-end.result =
    length-zip (row_at texts 0) (row_at texts c.args.i) ∙ sym (c.min-j-end.ensures ∙ ap₂ min c.width-keys.ensures c.width-width.ensures) in
    let all : take c.loop-j.j members ≡ members = take_all c.loop-j.j members (omega (arith, count, c.loop-j-test.false)) in
    sends-as (ap (λ (l : List (List ℕ × List ℕ)). 123 ∷ (parted (44 ∷ []) (map (member_text c.args.values) l) ++ (125 ∷ []))) all)
    (sends-then c.loop-j.invariant c.send_byte-2.ensures)
