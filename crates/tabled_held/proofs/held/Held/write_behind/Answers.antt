use Rattle.std.proofs.lemmas.Grind.{common_steps}
use Rattle.std.proofs.lemmas.List.{length-set, take_more_set}
use Rattle.std.proofs.lemmas.Slice.{take-put_mid}
use borrow.Rule.Slice.PartMut.{put_mid}
use Rattle.std.proofs.Common.{[], ◌+◌, ◌-◌, ◌++◌, ◌<◌, ◌∙◌, ◌∷◌, ◌≡◌, List, ap, append_assoc, arith, length, refl, take, ℕ}
use Rattle.std.proofs.Math.ListN.{set}
use Rattle.tabled_held.specs.Sent.{Kept}
use Rattle.tabled_held.proofs.SentBytes.{grows-held}
use Rattle.tabled_held.proofs.held.Held.write_behind.Goals as goal

-- what is put behind a byte stands behind it
put-behind : (room : List ℕ) (i k : ℕ) (byte : ℕ) (bytes : List ℕ) → i < length room → take (i + 1 + length bytes) (put_mid (i + 1) k (set room i byte) bytes) ≡ take i room ++ byte ∷ bytes
put-behind room i k byte bytes less =
    take-put_mid (i + 1) k (set room i byte) bytes (i + 1 + length bytes) refl (omega (arith, length-set room i byte, less))
    ∙ ap (λ (xs : List ℕ). xs ++ bytes) (take_more_set room i byte less)
    ∙ append_assoc (take i room) (byte ∷ []) bytes

pub returns : goal.returns
returns g c =
    let kept = put-behind c.self.inside.room.items c.self.inside.len (c.self.inside.len + 1 + length c.args.bytes.now - (c.self.inside.len + 1)) c.args.byte c.args.bytes.now (omega (arith, c.self.invariant.1, c.if-self-bytes.false)) in
    grows-held c.args.self.now _ (c.args.byte ∷ c.args.bytes.now) (ap (λ (k : Kept). k.failure) c.self.view_is) (grind (arith, common_steps, kept))
