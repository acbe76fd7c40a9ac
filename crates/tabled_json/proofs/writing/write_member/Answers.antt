use Rattle.tabled_held.proofs.Pens.{sends-as, sends-then}
use Rattle.tabled_json.proofs.Common.{◌++◌, ◌∙◌, ◌∷◌, [], ℕ, List, ap, append_assoc}
use Rattle.tabled_json.specs.Writing.{string_of, value_of}
use Rattle.tabled_json.proofs.writing.write_member.Goals as goal

pub returns : goal.returns
returns g c =
    let value = value_of c.args.values c.args.text.now in
    sends-as (ap (λ (key : List ℕ). (string_of key ++ (58 ∷ [])) ++ value) c.as_bytes.ensures.value ∙ append_assoc (string_of c.args.key.now) (58 ∷ []) value)
    (sends-then (sends-then c.write_string.ensures c.send_byte.ensures) c.write_value.ensures)
