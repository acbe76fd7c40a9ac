use Rattle.std.proofs.Common.{[], ◌&&◌, ◌++◌, ◌∙◌, ◌∷◌, ◌≡◌, IsUtf8, ap, cond, encode_utf8, encode_utf8_all, false, not, subst, sym, true}
use Rattle.std.proofs.lemmas.List.{nil_from_length}
use Rattle.std.specs.Prelude.{chars}
use Rattle.std.specs.Str.Iter.{chars_rest}
use Rattle.tabled_width.proofs.Scanning.{IsScanned, scanned-cut, scanned-end, scanned-first, scanned-front, scanned-long, scanned-more, scanned-short, scanned-utf8, scanned-whole}
use Rattle.tabled_width.specs.Pieces.{attaches, last_cluster, pieces_in, stays_behind}
use Rattle.unicode_width.specs.Width.{is_indicator}
use Rattle.tabled_width.proofs.pieces.first_piece.Goals as goal
use Rattle.tabled_width.proofs.pieces.first_piece.Goals.{in-Some+then-not-stays, in_default, then-not-attaches, else-not-attaches, then-is_indicator, else-is_indicator}

pub loop-c-init : goal.loop-c-init
loop-c-init c =
    let is : c.args.text.now ≡ encode_utf8 c.in_ok-last.last ++ c.as_str-rest.result.now = sym c.chars-behind.ensures.rest ∙ c.in_ok-last.ensures.steps.0 ∙ ap (λ bs. encode_utf8 c.in_ok-last.last ++ bs) (sym c.as_str-rest.ensures) in
    record {
      texts = (c.utf8.text, c.as_str-rest.utf8);
      utf8 = subst IsUtf8 c.as_str-rest.ensures c.as_str-rest.utf8;
      left = c.as_str-rest.ensures;
      scanned = rw c.is_indicator-half_a_flag.ensures (scanned-first c.args.text.now c.as_str-rest.result.now c.in_ok-last.last c.utf8.text is);
    }

pub without_end-short-requires : goal.without_end-short-requires
without_end-short-requires c = (encode_utf8_all (last_cluster c.loop-c.invariant.scanned.piece), c.loop-c.invariant.scanned.behind_cluster)

pub without_end-long-requires : goal.without_end-long-requires
without_end-long-requires c =
    let i = c.loop-c.invariant in
    let next : c.loop-c.rest.now ≡ encode_utf8 c.in-Some.c ++ c.as_str.result.now = i.left ∙ c.in-Some.ensures.steps.0 ∙ ap (λ bs. encode_utf8 c.in-Some.c ++ bs) (sym c.as_str.ensures) in
    (encode_utf8_all (last_cluster i.scanned.piece ++ c.in-Some.c ∷ []), scanned-front _ _ _ _ _ i.scanned c.as_str.result.now c.in-Some.c i.texts.1 next)

pub stays-requires : goal.stays-requires
stays-requires c =
    let i = c.loop-c.invariant in
    let next : c.loop-c.rest.now ≡ encode_utf8 c.in-Some.c ++ c.as_str.result.now = i.left ∙ c.in-Some.ensures.steps.0 ∙ ap (λ bs. encode_utf8 c.in-Some.c ++ bs) (sym c.as_str.ensures) in
    scanned-long _ _ _ _ _ i.scanned c.as_str.result.now c.in-Some.c i.texts.1 next c.without_end-long.result.now c.without_end-long.ensures
    ∙ ap (λ cs. cs ++ c.in-Some.c ∷ []) (sym (scanned-short _ _ _ _ _ i.scanned c.without_end-short.result.now c.without_end-short.ensures))

pub loop-c-preserved : goal.loop-c-preserved
loop-c-preserved c =
    let i = c.loop-c.invariant in
    let after = c.as_str.result.now in
    let next : c.loop-c.rest.now ≡ encode_utf8 c.in-Some.c ++ after = i.left ∙ c.in-Some.ensures.steps.0 ∙ ap (λ bs. encode_utf8 c.in-Some.c ++ bs) (sym c.as_str.ensures) in
    let short : chars c.without_end-short.result.now ≡ last_cluster i.scanned.piece = scanned-short _ _ _ _ _ i.scanned c.without_end-short.result.now c.without_end-short.ensures in
    let is : stays_behind c.loop-c.last c.loop-c.half_a_flag (last_cluster i.scanned.piece) c.in-Some.c ≡ true = ap (λ cs. stays_behind c.loop-c.last c.loop-c.half_a_flag cs c.in-Some.c) (sym short) ∙ sym c.stays.ensures ∙ c.if-not-stays.false in
    let more = scanned-more _ _ _ _ _ i.scanned after c.in-Some.c i.texts.1 next is in
    let rest : after ≡ c.as_str-rest-in-Some.result.now = c.as_str.ensures ∙ sym c.as_str-rest-in-Some.ensures in
    let cluster : cond (attaches c.in-Some.c) c.loop-c.cluster.now c.loop-c.rest.now ≡ c.if-not-attaches.cluster.now = elim c.if-not-attaches.branch [
      | then-not-attaches w ↦ rw (sym c.attaches.ensures ∙ w.if-not-attaches.true) (ap (λ b. b.now) (sym w.cluster-is))
      | else-not-attaches w ↦ rw (sym c.attaches.ensures ∙ w.if-not-attaches.false) (ap (λ b. b.now) (sym w.cluster-is))
    ] in
    let half : (is_indicator c.in-Some.c && not c.loop-c.half_a_flag) ≡ c.if-is_indicator.half_a_flag = elim c.if-is_indicator.branch [
      | then-is_indicator w ↦ rw (sym c.is_indicator.ensures ∙ w.if-is_indicator.true) (sym w.half_a_flag-is)
      | else-is_indicator w ↦ rw (sym c.is_indicator.ensures ∙ w.if-is_indicator.false) (sym (w.half_a_flag-is ∙ w.if-is_indicator.false))
    ] in
    let all : IsScanned c.args.text.now c.as_str-rest-in-Some.result.now c.if-not-attaches.cluster.now c.if-is_indicator.half_a_flag c.in-Some.c = rw (rest, cluster, half) at more in
    record {
      texts = (scanned-utf8 _ _ _ _ _ all c.as_str-rest-in-Some.utf8, c.as_str-rest-in-Some.utf8);
      utf8 = subst IsUtf8 c.as_str-rest-in-Some.ensures c.as_str-rest-in-Some.utf8;
      left = c.as_str-rest-in-Some.ensures;
      scanned = all;
    }

pub without_end-requires : goal.without_end-requires
without_end-requires c = (encode_utf8_all c.loop-c.invariant.scanned.piece, c.loop-c.invariant.scanned.whole)

pub returns : goal.returns
returns c =
    let i = c.loop-c.invariant in
    let piece = scanned-whole _ _ _ _ _ i.scanned c.without_end.result.now c.without_end.ensures in
    elim c.match-next.branch [
      | in-Some+then-not-stays w ↦
          let next : c.loop-c.rest.now ≡ encode_utf8 w.in-Some.c ++ chars_rest c.next-in-loop-c.new.self = i.left ∙ w.in-Some.ensures.steps.0 in
          let short : chars w.without_end-short.result.now ≡ last_cluster i.scanned.piece = scanned-short _ _ _ _ _ i.scanned w.without_end-short.result.now w.without_end-short.ensures in
          let is : stays_behind c.loop-c.last c.loop-c.half_a_flag (last_cluster i.scanned.piece) w.in-Some.c ≡ false = ap (λ cs. stays_behind c.loop-c.last c.loop-c.half_a_flag cs w.in-Some.c) (sym short) ∙ sym w.stays.ensures ∙ w.if-not-stays.true in
          scanned-cut _ _ _ _ _ i.scanned (chars_rest c.next-in-loop-c.new.self) w.in-Some.c i.texts.1 next is ∙ ap (λ bs. bs ∷ pieces_in c.loop-c.rest.now) (sym piece)
      | in_default w ↦ scanned-end _ _ _ _ _ i.scanned (i.left ∙ nil_from_length _ w.in_default.ensures.steps.0.0) ∙ ap (λ bs. bs ∷ pieces_in c.loop-c.rest.now) (sym piece)
    ]
