use Rattle.tabled_settings.proofs.Common.{[], append-nil, ne_eqb, nil_from_length, refl}
use Rattle.tabled_settings.proofs.Replacing.{replaced-more}
use Rattle.tabled_settings.proofs.formatting.charset.replaced.Goals as goal

pub loop-c-init : goal.loop-c-init
loop-c-init c = record {
  can = tt;
  ends = tt;
  same = rw (c.in_ok-out.ensures.bytes, c.into_iter-c-iterator.ensures.into_iter_gives, c.chars-c-items.ensures.rest) refl;
}

pub loop-c-preserved-in-Continue-branch-3 : goal.loop-c-preserved-in-Continue-branch-3
loop-c-preserved-in-Continue-branch-3 c = record {
  can = tt;
  ends = tt;
  same = rw c.in_ok-push_spaces.ensures (replaced-more _ _ c.in-Some.c _ _ _ _ _ c.in-Some.ensures.steps.0 (rw c.if-c-eq9.true refl) c.loop-c.invariant.same);
}

pub loop-c-preserved-in-Continue-branch-4 : goal.loop-c-preserved-in-Continue-branch-4
loop-c-preserved-in-Continue-branch-4 c = record {
  can = tt;
  ends = tt;
  same = rw c.in_ok-push.ensures.bytes (replaced-more _ _ c.in-Some.c _ _ _ _ _ c.in-Some.ensures.steps.0 (rw (ne_eqb c.in-Some.c 9 c.if-c-eq9.false, ← c.if-stays.ensures) refl) c.loop-c.invariant.same);
}

pub loop-c-preserved : goal.loop-c-preserved
loop-c-preserved c = record {
  can = tt;
  ends = tt;
  same = rw (append-nil _) at (replaced-more _ _ c.in-Some.c _ [] _ _ _ c.in-Some.ensures.steps.0 (rw (ne_eqb c.in-Some.c 9 c.if-c-eq9.false, ← c.if-stays.ensures) refl) c.loop-c.invariant.same);
}

pub returns : goal.returns
returns c = rw (nil_from_length _ c.in-None.ensures.steps.0.0, append-nil) at c.loop-c.invariant.same
