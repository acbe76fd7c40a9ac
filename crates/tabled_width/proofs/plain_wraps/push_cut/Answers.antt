use Rattle.std.proofs.Common.{◌++◌, ◌∙◌, ◌≡◌, ◌≤◌, None, ap, ap₂, arith, encode_utf8, encode_utf8_all, length, subst, sym, take-append-drop, unwrap_or}
use Rattle.std.specs.String.{string_bytes}
use Rattle.tabled_width.proofs.PlainPieces.{plain-back, plain-front, plain-pieces, plain-utf8, singles}
use Rattle.tabled_width.proofs.PlainWraps.{cut-last, cut-more, line-full, line-whole}
use Rattle.tabled_width.specs.Plain.{ArePlain}
use Rattle.tabled_width.specs.Wraps.{broken, last_used}
use Rattle.tabled_width.proofs.plain_wraps.push_cut.Goals as goal

pub loop-rest-init : goal.loop-rest-init
loop-rest-init c =
    let single = sym (plain-pieces c.args.text.now c.requires.plain) in
    record {
      texts = c.utf8.text;
      plain = c.requires.plain;
      put = ap (λ ps. string_bytes c.args.out.now ++ encode_utf8_all (broken c.args.width None ps)) single;
      used = ap (last_used c.args.width None) single;
    }

pub loop-rest-preserved : goal.loop-rest-preserved
loop-rest-preserved c =
    let rest = c.loop-rest.rest.now in
    let line = c.split_at.result.0.now in
    let others = c.split_at.result.1.now in
    let whole : rest ≡ line ++ others = sym (take-append-drop c.args.width rest) ∙ ap₂ (λ front back. front ++ back) (sym c.split_at.ensures.front) (sym c.split_at.ensures.back) in
    let plain = subst ArePlain whole c.loop-rest.invariant.plain in
    let front = plain-front line others plain in
    let back = plain-back line others plain in
    let more : 1 ≤ length others = omega (arith, c.split_at.ensures.back_len, c.loop-rest-test.true) in
    record {
      texts = plain-utf8 others back;
      plain = back;
      put = cut-more c.args.width (string_bytes c.loop-rest.out) line others rest (string_bytes c.push.new.self) _ c.requires.width front back more c.split_at.ensures.front_len whole (c.in_ok-push.ensures.bytes ∙ ap (λ bs. bs ++ encode_utf8 10) c.in_ok-push_str.ensures.bytes) c.loop-rest.invariant.put;
      used = sym (ap (λ bs. last_used c.args.width None (singles bs)) whole ∙ (line-full c.args.width line others c.requires.width c.split_at.ensures.front_len front back more).1) ∙ c.loop-rest.invariant.used;
    }

pub returns-clause-put : goal.returns-clause-put
returns-clause-put c = cut-last c.args.width (string_bytes c.loop-rest.out) c.loop-rest.rest.now (string_bytes c.push_str-2.new.self) _ c.loop-rest.invariant.plain (omega (arith, c.loop-rest-test.false)) c.in_ok-push_str-2.ensures.bytes c.loop-rest.invariant.put

pub returns-clause-used : goal.returns-clause-used
returns-clause-used c = sym (line-whole c.args.width c.loop-rest.rest.now c.loop-rest.invariant.plain (omega (arith, c.loop-rest-test.false))).1 ∙ ap (λ used. unwrap_or used 0) c.loop-rest.invariant.used
