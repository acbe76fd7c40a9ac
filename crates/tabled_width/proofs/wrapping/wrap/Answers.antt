use Rattle.std.proofs.Common.{[], ◌++◌, ◌∙◌, ◌∷◌, ◌≡◌, None, ap, append-nil, cond, encode_utf8_all, map, ne_eqb, rules, subst, sym}
use Rattle.std.proofs.lemmas.Str.{encodes-chars}
use Rattle.std.specs.Char.{encode_utf8}
use Rattle.std.specs.List.{AllByRecursion}
use Rattle.std.specs.Prelude.{chars}
use Rattle.std.specs.Str.{IsUtf8}
use Rattle.std.specs.String.{string_bytes}
use Rattle.tabled_width.proofs.PieceTexts.{chars-pieces, utf8-pieces}
use Rattle.tabled_width.proofs.WrapBytes.{put-more}
use Rattle.tabled_width.proofs.WrapLines.{put-text}
use Rattle.tabled_width.specs.Pieces.{pieces}
use Rattle.tabled_width.specs.WrapSteps.{placed, put_from}
use Rattle.tabled_width.proofs.wrapping.wrap.Goals as goal
use Rattle.tabled_width.proofs.wrapping.wrap.Goals.{then-placed+in_ok-push, else-placed}

pub loop-piece-init : goal.loop-piece-init
loop-piece-init c = record {
  texts = subst (AllByRecursion IsUtf8) (sym c.new-rest.ensures) (utf8-pieces c.args.text.now c.utf8.text);
  same = rw c.in_ok-out.ensures.bytes (ap (λ ps. encode_utf8_all (put_from c.args.width c.args.keep_words None ps)) (ap (map chars) c.new-rest.ensures ∙ chars-pieces c.args.text.now c.utf8.text));
}

pub loop-piece-preserved-in_ok-push_str : goal.loop-piece-preserved-in_ok-push_str
loop-piece-preserved-in_ok-push_str c =
    let texts : AllByRecursion IsUtf8 (c.in-Some.piece.now ∷ c.next.new.self) = rw c.in-Some.ensures.steps at c.loop-piece.invariant.texts in
    let same = rw c.in-Some.ensures.steps at c.loop-piece.invariant.same in
    let rest : pieces (chars c.as_str.result.now) ≡ map chars c.next.new.self = sym (ap (map chars) c.as_str.ensures ∙ chars-pieces c.as_str.result.now c.as_str.utf8) in
    let is : c.place-placed.result ≡ placed c.args.width c.args.keep_words c.loop-piece.used (chars c.in-Some.piece.now) (map chars c.next.new.self) = c.place-placed.ensures ∙ ap (placed c.args.width c.args.keep_words c.loop-piece.used (chars c.in-Some.piece.now)) rest in
    let turn : string_bytes c.if-placed.out ≡ string_bytes c.loop-piece.out ++ cond c.place-placed.result.breaks (encode_utf8 10) [] = elim c.if-placed.branch [
      | then-placed+in_ok-push w ↦ rw w.if-placed.true (ap string_bytes w.out-is ∙ w.in_ok-push.ensures.bytes)
      | else-placed w ↦ rw w.if-placed.false (ap string_bytes w.out-is ∙ sym (append-nil (string_bytes c.loop-piece.out)))
    ] in
    let put : string_bytes c.push_str.new.self ≡ string_bytes c.if-placed.out ++ cond c.place-placed.result.is_put c.in-Some.piece.now [] = rw c.if-placed-2.true c.in_ok-push_str.ensures.bytes in
    record {
      texts = texts.1;
      same = put-more c.args.width c.args.keep_words c.loop-piece.used (chars c.in-Some.piece.now) (map chars c.next.new.self) c.in-Some.piece.now _ _ _ _ c.place-placed.result is (encodes-chars c.in-Some.piece.now texts.0) turn put same;
    }

pub loop-piece-preserved : goal.loop-piece-preserved
loop-piece-preserved c =
    let texts : AllByRecursion IsUtf8 (c.in-Some.piece.now ∷ c.next.new.self) = rw c.in-Some.ensures.steps at c.loop-piece.invariant.texts in
    let same = rw c.in-Some.ensures.steps at c.loop-piece.invariant.same in
    let rest : pieces (chars c.as_str.result.now) ≡ map chars c.next.new.self = sym (ap (map chars) c.as_str.ensures ∙ chars-pieces c.as_str.result.now c.as_str.utf8) in
    let is : c.place-placed.result ≡ placed c.args.width c.args.keep_words c.loop-piece.used (chars c.in-Some.piece.now) (map chars c.next.new.self) = c.place-placed.ensures ∙ ap (placed c.args.width c.args.keep_words c.loop-piece.used (chars c.in-Some.piece.now)) rest in
    let turn : string_bytes c.if-placed.out ≡ string_bytes c.loop-piece.out ++ cond c.place-placed.result.breaks (encode_utf8 10) [] = elim c.if-placed.branch [
      | then-placed+in_ok-push w ↦ rw w.if-placed.true (ap string_bytes w.out-is ∙ w.in_ok-push.ensures.bytes)
      | else-placed w ↦ rw w.if-placed.false (ap string_bytes w.out-is ∙ sym (append-nil (string_bytes c.loop-piece.out)))
    ] in
    let put : string_bytes c.if-placed.out ≡ string_bytes c.if-placed.out ++ cond c.place-placed.result.is_put c.in-Some.piece.now [] = rw c.if-placed-2.false (sym (append-nil (string_bytes c.if-placed.out))) in
    record {
      texts = texts.1;
      same = put-more c.args.width c.args.keep_words c.loop-piece.used (chars c.in-Some.piece.now) (map chars c.next.new.self) c.in-Some.piece.now _ _ _ _ c.place-placed.result is (encodes-chars c.in-Some.piece.now texts.0) turn put same;
    }

pub returns : goal.returns
returns c =
    let none : c.loop-piece.rest ≡ [] = search rules in
    let end = sym (append-nil (string_bytes c.loop-piece.out)) ∙ (rw none at c.loop-piece.invariant.same) in
    rw (ne_eqb c.args.width 0 c.if-width-eq0.false) (end ∙ ap encode_utf8_all (put-text c.args.width c.args.keep_words (chars c.args.text.now)))
