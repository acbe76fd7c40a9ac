use Rattle.std.specs.List.{zip}
use Rattle.tabled_held.proofs.Pens.{sends-as, sends-then}
use Rattle.tabled_json.proofs.Common.{◌+◌, ◌-◌, ◌<◌, ◌++◌, ◌∙◌, ◌∷◌, ◌≡◌, [], ℕ, List, ap, arith, length, map, take}
use Rattle.tabled_json.proofs.Parts.{all-records, parted-next, record-get}
use Rattle.tabled_texts.specs.Texts.{row_at}
use Rattle.tabled_json.specs.Writing.{object_text, parted, records_of}
use Rattle.tabled_json.proofs.writing.write_array.Goals as goal

pub loop-i-preserved : goal.loop-i-preserved
loop-i-preserved g c =
    let texts = g.R.Rows.texts c.args.rows.now in
    let values = c.args.values in
    let i = c.loop-i.i in
    let inside : i < length texts = omega (arith, c.loop-i-test.true, c.count-i-end.ensures) in
    let object = zip (row_at texts 0) (row_at texts i) in
    let next : i - 1 + 1 ≡ i + 1 - 1 = omega (arith, c.loop-i.auto.i) in
    sends-as
    (ap (λ (l : List ℕ). 91 ∷ l)
    (parted-next (object_text values) (44 ∷ 10 ∷ []) (records_of texts) (i - 1) object (record-get texts i c.loop-i.auto.i inside)
    ∙ ap (λ (n : ℕ). parted (44 ∷ 10 ∷ []) (map (object_text values) (take n (records_of texts)))) next))
    (sends-then c.loop-i.invariant (sends-then c.write_between.ensures c.write_object.ensures))

pub returns : goal.returns
returns g c =
    let texts = g.R.Rows.texts c.args.rows.now in
    let all = all-records texts c.loop-i.i (omega (arith, c.loop-i-test.false, c.count-i-end.ensures)) in
    sends-as (ap (λ (l : List (List (List ℕ × List ℕ))). 91 ∷ (parted (44 ∷ 10 ∷ []) (map (object_text c.args.values) l) ++ (93 ∷ 10 ∷ []))) all)
    (sends-then c.loop-i.invariant c.send.ensures)
