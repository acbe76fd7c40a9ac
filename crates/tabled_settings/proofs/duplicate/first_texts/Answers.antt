use Rattle.tabled_settings.proofs.Common.{[], ◌∙◌, ◌≡◌, append-nil, append_assoc, arith, common_steps, into_iter_items, length-map, map, map-append, nil_from_length, refl, string_bytes, sym, take_all}
use Rattle.tabled_settings.proofs.Duplicated.{take-append-take}
use Rattle.tabled_settings.proofs.duplicate.first_texts.Goals as goal

pub loop-entity-init : goal.loop-entity-init
loop-entity-init g c = record { texts = rw (c.new-texts.ensures.items, c.into_iter-rest.ensures.rest) refl; few = rw c.new-texts.ensures.items (omega arith) }

pub loop-entity-preserved : goal.loop-entity-preserved
loop-entity-preserved g c =
    record {
      texts = rw (c.in_ok-push_texts.ensures.texts, take-append-take, append_assoc) (rw (c.in-Some.ensures.items, map-append) at c.loop-entity.invariant.texts);
      few = c.in_ok-push_texts.ensures.few;
    }

pub returns : goal.returns
returns g c =
    let nothing : into_iter_items c.loop-entity.rest ≡ [] = grind (arith, common_steps, nil_from_length) in
    let all = sym (take_all c.args.many (map string_bytes c.loop-entity.texts.items) (rw (length-map c.loop-entity.texts.items string_bytes) c.loop-entity.invariant.few)) in
    all ∙ (rw (nothing, append-nil) at c.loop-entity.invariant.texts)
