use Rattle.std.proofs.Common.{◌∙◌, ap, sym, take}
use Rattle.tabled_held.specs.Sent.{Kept}
use Rattle.tabled_held.proofs.SentBytes.{no-failure, grows-failed, grows-then, grows-written}
use Rattle.tabled_held.proofs.held.Held.send_after.Goals as goal

pub returns-then-is_ok : goal.returns-then-is_ok
returns-then-is_ok g c =
    let works = ap (λ (k : Kept). k.failure) (sym c.self.view_is) ∙ no-failure c.self.inside.outcome (sym c.is_ok.ensures.value ∙ c.if-is_ok.true) in
    let empty = ap (λ (k : Kept). k.bytes) c.self.view_is ∙ c.send.ensures.empty in
    grows-then c.send.ensures.sends
    (grows-written _ _ c.send.new.self (take c.self.inside.len c.self.inside.room.items) c.write_all-self-inside.result c.args.bytes.now c.send.ensures.empty works empty c.write_all-self-inside.ensures.written c.write_all-self-inside.ensures.failed)

pub returns-else-is_ok : goal.returns-else-is_ok
returns-else-is_ok g c =
    let failed = ap (λ (k : Kept). k.failure) (sym c.self.view_is) in
    grows-then c.send.ensures.sends (grows-failed _ c.send.new.self c.self.inside.outcome c.args.bytes.now failed (sym c.is_ok.ensures.value ∙ c.if-is_ok.false))
