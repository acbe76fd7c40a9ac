use Rattle.tabled_settings.proofs.Common.{◌∙◌, ◌≡◌, append-nil, append_assoc, arith, inside, inside-within, length-append, length-map, map, map-append, refl, string_bytes, sym, take_all}
use Rattle.tabled_settings.proofs.duplicate.push_texts.Goals as goal

pub loop-pos-init : goal.loop-pos-init
loop-pos-init g c =
    let first = g.R.GridStore.grid c.args.records.now in
    let all : c.into_iter-pos-iterator.result ≡ inside c.args.entity first.rows first.columns = c.into_iter-pos-iterator.ensures.into_iter_gives ∙ (rw (c.count_rows.ensures.rows, c.count_columns.ensures.columns) at c.iter-pos-items.ensures) in
    record {
      can = tt;
      ends = tt;
      within = rw all (inside-within c.args.entity first.rows first.columns);
      texts = rw all refl;
      few = c.requires.few;
    }

pub get_text-requires-clause-inside : goal.get_text-requires-clause-inside
get_text-requires-clause-inside g c =
    let here = (rw c.in-Some.ensures.steps at c.loop-pos.invariant.within).0 in
    record { row = here.0; col = here.1 }

pub loop-pos-preserved : goal.loop-pos-preserved
loop-pos-preserved g c =
    record {
      can = tt;
      ends = tt;
      within = (rw c.in-Some.ensures.steps at c.loop-pos.invariant.within).1;
      texts = rw (c.in_ok-push.ensures.items, map-append, append_assoc, c.in_ok-from_str.ensures.ok) (rw (c.in-Some.ensures.steps, c.get_text.ensures) at c.loop-pos.invariant.texts);
      few = rw (c.in_ok-push.ensures.items, length-append) (omega (arith, c.loop-pos.invariant.few, rw c.len.ensures at c.if-len-many.false));
    }

pub returns-clause-texts : goal.returns-clause-texts
returns-clause-texts g c =
    let all = sym (take_all c.args.many (map string_bytes c.loop-pos.texts.items) (rw (length-map c.loop-pos.texts.items string_bytes) c.loop-pos.invariant.few)) in
    all ∙ (rw (c.in-None.ensures.steps.0, append-nil) at c.loop-pos.invariant.texts)
