use Rattle.std.specs.Prelude.{chars}
use Rattle.std.specs.String.{string_bytes}
use Rattle.tabled_draw.specs.Markdown.{escaped_behind}
use Rattle.tabled_draw.proofs.Common.{IsUtf8, IsUtf8-past_char, ap, chars_rest, encode_utf8, encode_utf8_all, nil_from_length, subst, sym, ◌++◌, ◌∙◌, ◌∷◌, ◌≡◌}
use Rattle.tabled_draw.proofs.Escapes.{text-first, text-last, text-more, text-none}
use Rattle.tabled_draw.proofs.markdown_texts.push_text.Goals as goal

pub returns-in_default : goal.returns-in_default
returns-in_default c = text-none _ c.args.text.now (sym c.chars-chars.ensures.rest ∙ nil_from_length _ c.in_default.ensures.steps.0.0)

pub loop-after-init : goal.loop-after-init
loop-after-init c =
    let rest = chars_rest c.next.new.self in
    let step : c.args.text.now ≡ encode_utf8 c.in-Some.here ++ rest = sym c.chars-chars.ensures.rest ∙ c.in-Some.ensures.steps.0 in
    record {
      can = tt;
      ends = tt;
      utf8 = subst IsUtf8 (ap chars_rest (sym c.into_iter-after-iterator.ensures.into_iter_gives)) (IsUtf8-past_char c.args.text.now rest c.in-Some.here c.utf8.text step);
      same = ap (λ it. string_bytes c.args.out.now ++ encode_utf8_all (escaped_behind 10 (c.in-Some.here ∷ chars (chars_rest it)))) c.into_iter-after-iterator.ensures.into_iter_gives ∙ text-first (string_bytes c.args.out.now) c.args.text.now rest c.in-Some.here c.utf8.text step;
    }

pub loop-after-preserved : goal.loop-after-preserved
loop-after-preserved c =
    let whole = chars_rest c.loop-after.after-iterator in
    let rest = chars_rest c.next-in-loop-after.new.self in
    let step : whole ≡ encode_utf8 c.in-Some-after.after ++ rest = c.in-Some-after.ensures.steps.0 in
    record {
      can = tt;
      ends = tt;
      utf8 = IsUtf8-past_char whole rest c.in-Some-after.after c.loop-after.invariant.utf8 step;
      same = text-more _ _ _ c.loop-after.before c.loop-after.here c.in-Some-after.after whole rest c.loop-after.invariant.utf8 step c.in_ok-push_escaped.ensures c.loop-after.invariant.same;
    }

pub returns : goal.returns
returns c = text-last c.push_escaped-2.result _ _ _ c.loop-after.before c.loop-after.here (chars_rest c.loop-after.after-iterator) (nil_from_length _ c.in-None.ensures.steps.0.0) c.push_escaped-2.ensures c.loop-after.invariant.same
