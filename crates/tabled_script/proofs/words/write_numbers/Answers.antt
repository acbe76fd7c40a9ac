use Rattle.tabled_held.proofs.Pens.{sends-as, sends-then}
use Rattle.tabled_script.proofs.Common.{[], ◌++◌, ◌<◌, ◌^◌, ◌∙◌, ◌∷◌, ap, append-nil, arith, decimal, escaped, flat_map, get_or_default, refl, slice_index_or, sym, take, take_all, ℕ}
use Rattle.tabled_script.proofs.OutputLines.{escaped-decimal, line-pieces, pushed_more}
use Rattle.tabled_script.proofs.words.write_numbers.Goals as goal

pub loop-number-init : goal.loop-number-init
loop-number-init g c = sends-as (c.as_bytes.ensures.value ∙ sym (append-nil c.args.name.now)) c.send.ensures

pub loop-number-preserved : goal.loop-number-preserved
loop-number-preserved g c =
    let numbers = c.args.numbers.now in
    let i = c.loop-number.number-index in
    let n = slice_index_or numbers i 0 in
    let fits : n < 2 ^ 64 = omega (arith, (c.type_inv.numbers i).fits) in
    let word = λ (m : ℕ). 9 ∷ escaped (decimal m) in
    let before = c.args.name.now ++ flat_map word (take i numbers) in
    sends-as (ap (λ ds. before ++ 9 ∷ ds) (sym (escaped-decimal n fits)) ∙ pushed_more word c.args.name.now before numbers i n c.loop-number-test.true (get_or_default numbers i _ n c.loop-number-test.true) refl)
    (sends-then c.loop-number.invariant c.write_number.ensures)

pub returns : goal.returns
returns g c =
    let numbers = c.args.numbers.now in
    let name = c.args.name.now in
    let word = λ (m : ℕ). 9 ∷ escaped (decimal m) in
    let all = take_all c.loop-number.number-index numbers (omega arith) in
    sends-as (ap (λ ns. (name ++ flat_map word ns) ++ 10 ∷ []) all ∙ ap (λ first. (first ++ flat_map word numbers) ++ 10 ∷ []) (sym c.requires) ∙ sym (line-pieces decimal name numbers))
    (sends-then c.loop-number.invariant c.send_byte.ensures)
