use Rattle.std.proofs.Common.{ap₂}
use Rattle.tabled_held.proofs.Pens.{sends-as}
use Rattle.tabled_json.proofs.Common.{◌∷◌, ◌∙◌, [], sym}
use Rattle.tabled_json.proofs.Written.{escape-control, escape-sign, leb-false, leb-true}
use Rattle.tabled_json.proofs.writing.write_escape.Goals as goal

pub returns-then-is_sign : goal.returns-then-is_sign
returns-then-is_sign g c = sends-as (sym (escape-sign c.args.byte c.requires (leb-true c.args.byte c.if-is_sign.true))) c.send.ensures

pub returns : goal.returns
returns g c =
    sends-as (ap₂ (λ x y. 92 ∷ 117 ∷ 48 ∷ 48 ∷ x ∷ y ∷ []) c.hex_letter.ensures c.hex_letter-2.ensures ∙ sym (escape-control c.args.byte c.requires (leb-false c.args.byte c.if-is_sign.false)))
    c.send-2.ensures
