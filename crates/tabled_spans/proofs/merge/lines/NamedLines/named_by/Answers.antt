use Rattle.std.proofs.Common.{◌||◌, Ok, rules}
use Rattle.tabled_options.proofs.Turns.{last_at, turn}
use Rattle.tabled_spans.proofs.Common.{[], ◌∙◌, ◌∷◌, ◌≡◌, Bool, Entity, List, ap, refl, sym}
use Rattle.tabled_spans.proofs.Marks.{or_false, or_or}
use Rattle.tabled_spans.specs.Lines.{is_among, is_named_by, names_line}
use Rattle.tabled_spans.proofs.merge.lines.NamedLines.named_by.Goals as goal

pub loop-entity-preserved : goal.loop-entity-preserved
loop-entity-preserved g c = record {
  can = search rules;
  ends = search rules;
  many = c.in_ok-lines.ensures.many;
  lasts = λ all gives.
      let i = c.loop-entity.invariant.lasts all gives in
      let t = turn g.I.Iterator.next_gives c.loop-entity.entities c.in-Some.entity c.next.new.self i.0 i.1 c.in-Some.ensures.steps in (
        t.rest,
        t.gives,
        λ line within.
            ap (λ (b : Bool). b || is_named_by c.args.axis t.rest line) (c.in_ok-lines.ensures.named line within)
            ∙ or_or (is_among c.args.axis c.loop-entity.lines line) (names_line c.args.axis c.in-Some.entity line) (is_named_by c.args.axis t.rest line)
            ∙ ap (λ (es : List Entity). is_among c.args.axis c.loop-entity.lines line || is_named_by c.args.axis es line) (sym t.is)
            ∙ i.2 line within,
        λ none. absurd (not_empty c.in-Some.entity t.rest (sym t.is ∙ (i.3 none).0)),
      );
}
  where
    not_empty : (e : Entity) (es : List Entity) → e ∷ es ≡ [] → ⊥
    not_empty e es is = cc

pub returns-clause-named : goal.returns-clause-named
returns-clause-named g c = λ items gives line within.
    let i = c.loop-entity.invariant.lasts items gives in
    let last = last_at g.I.Iterator.next_gives c.loop-entity.entities c.next.new.self i.0 i.1 c.in_default.ensures.steps in
    sym (or_false (is_among c.args.axis c.loop-entity.lines line))
    ∙ ap (λ (es : List Entity). is_among c.args.axis c.loop-entity.lines line || is_named_by c.args.axis es line) (sym last)
    ∙ i.2 line within

pub returns-clause-nothing : goal.returns-clause-nothing
returns-clause-nothing g c = λ gives. ap Ok ((c.loop-entity.invariant.lasts [] gives).3 refl).1
