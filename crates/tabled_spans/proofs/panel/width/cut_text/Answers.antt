use Rattle.tabled_spans.proofs.Common.{◌++◌, ◌∙◌, ◌≡◌, IsUtf8-past_char, ap, append-nil, chars, chars-nil, chars_rest, encode_utf8, encode_utf8_all, false≢true, nil_from_length, pieces, placed, refl, string_bytes, sym}
use Rattle.tabled_spans.proofs.Parts.{text_is_cut}
use Rattle.tabled_spans.proofs.Widths.{Pushed, piece_more}
use Rattle.tabled_spans.proofs.panel.width.cut_text.Goals as goal

pub loop-c-init : goal.loop-c-init
loop-c-init c =
    let all = c.into_iter-c-iterator.ensures.into_iter_gives in
    record {
      can = tt;
      ends = tt;
      utf8 = rw (c.into_iter-c-iterator.ensures.into_iter_gives, c.chars-c-items.ensures.rest) c.utf8.text;
      same = rw (c.in_ok-out.ensures.bytes, c.into_iter-c-iterator.ensures.into_iter_gives, c.chars-c-items.ensures.rest) refl;
    }

pub loop-c-preserved : goal.loop-c-preserved
loop-c-preserved c =
    let whole = chars_rest c.loop-c.c-iterator in
    let rest = chars_rest c.next.new.self in
    let step : whole ≡ encode_utf8 c.in-Some.c ++ rest = c.in-Some.ensures.steps.0 in
    let pushed : Pushed (placed c.args.width c.loop-c.used c.in-Some.c).begins (string_bytes c.loop-c.out) (string_bytes c.if-begins.out) = elim c.if-begins.branch [
      | goal.then-begins+in_ok-push w ↦ record { newline = λ e. ap string_bytes w.out-is ∙ w.in_ok-push.ensures.bytes; none = λ e. absurd (false≢true (sym e ∙ sym c.place-begins.ensures.begins ∙ w.if-begins.true)) }
      | goal.else-begins w ↦ record { newline = λ e. absurd (false≢true (sym w.if-begins.false ∙ c.place-begins.ensures.begins ∙ e)); none = λ e. ap string_bytes w.out-is }
    ] in
    record {
      can = tt;
      ends = tt;
      utf8 = IsUtf8-past_char whole rest c.in-Some.c c.loop-c.invariant.utf8 step;
      same = rw (c.in_ok-push-2.ensures.bytes, c.place-begins.ensures.character, c.place-begins.ensures.used) (piece_more c.args.width c.loop-c.used c.in-Some.c (string_bytes c.loop-c.out) (string_bytes c.if-begins.out) rest whole _ c.loop-c.invariant.utf8 step pushed c.loop-c.invariant.same);
    }

pub returns : goal.returns
returns c =
    let none = nil_from_length _ c.in-None.ensures.steps.0.0 in
    let is = sym (append-nil (string_bytes c.loop-c.out)) ∙ sym (ap (λ cs. string_bytes c.loop-c.out ++ encode_utf8_all (pieces c.args.width c.loop-c.used cs)) (ap chars none ∙ chars-nil)) ∙ c.loop-c.invariant.same in
    record { cut = is; parted = λ wide. (pieces c.args.width 0 (chars c.args.text.now), text_is_cut c.args.width wide (chars c.args.text.now), is) }
