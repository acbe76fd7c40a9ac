use Rattle.std.proofs.Common.{lit<, rules}
use Rattle.std.specs.String.{string_bytes}
use Rattle.tabled_settings.proofs.Truncated.{put-last, put-line}
use Rattle.tabled_settings.proofs.width.truncate.truncated.Goals as goal

pub loop-line-preserved : goal.loop-line-preserved
loop-line-preserved c = record {
  text = search rules;
  same = put-line c.args.width c.args.suffix.now c.loop-line.rest.now c.in-Some.line.now c.in-Some.others.now (string_bytes c.loop-line.out) _ _ _ (c.in-Some.ensures.byte (lit< tt) (λ w o h. h)) c.in_ok-push_line.ensures c.in_ok-push.ensures.bytes c.loop-line.invariant.same;
}

pub returns : goal.returns
returns c = put-last c.args.width c.args.suffix.now c.loop-line.rest.now (string_bytes c.loop-line.out) _ _ (c.in_default.ensures.byte (lit< tt) (λ w o h. h)) c.in_ok-push_line-2.ensures c.loop-line.invariant.same
