use Rattle.tabled_settings.proofs.Common.{[], ◌∙◌, ◌∷◌, append-nil, append_assoc, arith, encode_ascii, lines, lines_steps, of_calls, refl, rules, string_bytes, sym}
use Rattle.std.proofs.lemmas.Iterator.Splits.{YieldsList-from_lines}
use Rattle.tabled_settings.proofs.Turns.{last_at, turn}
use Rattle.tabled_settings.proofs.format.format_content.by_line.Goals as goal

pub returns-in_default : goal.returns-in_default
returns-in_default g c =
    let chain = (YieldsList-from_lines {s = c.lines-lines.result} c.args.text.now c.lines-lines.ensures.rest).runs in
    ([], c.args.f.now, rw (last_at lines_steps (λ x. x.now) _ _ (lines c.args.text.now) chain c.in_default.ensures.steps) (refl, refl), c.new.ensures.bytes)

pub loop-line-init : goal.loop-line-init
loop-line-init g c =
    let chain = (YieldsList-from_lines {s = c.lines-lines.result} c.args.text.now c.lines-lines.ensures.rest).runs in
    let t = turn lines_steps (λ x. x.now) c.lines-lines.result c.in-Some.first c.next.new.self (lines c.args.text.now) chain c.in-Some.ensures.steps in
    record {
      can = search (rules, of_calls);
      next = tt;
      ends = tt;
      rest = (
        t.rest,
        rw c.into_iter-line-iterator.ensures.into_iter_gives t.gives,
        λ answers last asked.
            (string_bytes c.in_ok-joined.joined ∷ answers, rw t.is (string_bytes c.in_ok-joined.joined, c.f.new.self, answers, (c.args.alloc, c.in-Some.first, c.in_ok-joined.joined, refl, c.in_ok-joined.ensures, refl), asked, refl), refl),
      );
    }

pub loop-line-preserved : goal.loop-line-preserved
loop-line-preserved g c =
    let i = c.loop-line.invariant.rest in
    let newline = encode_ascii 10 (omega arith) in
    let t = turn lines_steps (λ x. x.now) c.loop-line.line-iterator c.in-Some-line.line c.next-in-loop-line.new.self i.0 i.1 c.in-Some-line.ensures.steps in
    record {
      can = search (rules, of_calls);
      next = tt;
      ends = tt;
      rest = (
        t.rest,
        t.gives,
        λ answers last asked.
            let all = i.2 (string_bytes c.in_ok-answer.answer ∷ answers) last (rw t.is (string_bytes c.in_ok-answer.answer, c.f-in-loop-line.new.self, answers, (c.args.alloc, c.in-Some-line.line, c.in_ok-answer.answer, refl, c.in_ok-answer.ensures, refl), asked, refl)) in
            (all.0, all.1, all.2 ∙ rw (c.in_ok-push_str.ensures.bytes, c.in_ok-push.ensures.bytes, append_assoc, append_assoc, c.as_str.ensures.value, newline) refl),
      );
    }

pub returns : goal.returns
returns g c =
    let i = c.loop-line.invariant.rest in
    let all = i.2 [] c.loop-line.f (rw (last_at lines_steps (λ x. x.now) c.loop-line.line-iterator c.next-in-loop-line.new.self i.0 i.1 c.in-None.ensures.steps) (refl, refl)) in
    (all.0, c.loop-line.f, all.1, sym (rw append-nil at all.2))
