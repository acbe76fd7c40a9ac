use Rattle.std.proofs.Common.{◌∙◌, rules, sym}
use Rattle.std.specs.String.{string_bytes}
use Rattle.tabled_settings.proofs.Parted.{not-empty, put-part, put-rest}
use Rattle.tabled_settings.proofs.replace.replaced.Goals as goal

pub loop-before-preserved : goal.loop-before-preserved
loop-before-preserved c =
    let parts = c.in-Some.ensures.cases in
    record {
      text = search rules;
      same = put-part c.args.from.now c.args.to.now c.loop-before.rest.now c.in-Some.before.now c.in-Some.others.now (string_bytes c.loop-before.out) _ _ _ parts.0 parts.1 (not-empty c.args.from.now (sym c.is_empty.ensures ∙ c.if-is_empty.false)) parts.2 parts.3 parts.4 c.in_ok-push_str.ensures.bytes c.in_ok-push_str-2.ensures.bytes c.loop-before.invariant.same;
    }

pub returns : goal.returns
returns c = put-rest c.args.from.now c.args.to.now c.loop-before.rest.now (string_bytes c.loop-before.out) _ _ (not-empty c.args.from.now (sym c.is_empty.ensures ∙ c.if-is_empty.false)) c.in_default.ensures.cases c.in_ok-push_str-3.ensures.bytes c.loop-before.invariant.same
