use Rattle.std.proofs.lemmas.List.{length-set, take_more_set}
use Rattle.tabled_csv.proofs.Common.{◌+◌, ◌++◌, ◌==◌, ◌<◌, ◌∙◌, ◌∷◌, ◌≡◌, [], ap, append-nil, append_assoc, arith, drop, drop_more, drop_of_length-le, false, get_or, length, sym, take}
use Rattle.tabled_csv.proofs.Closings.{undoubled, undoubled-doubled}
use Rattle.tabled_csv.proofs.undoubling.undouble.Goals as goal
use Rattle.tabled_csv.proofs.undoubling.undouble.Goals.{else-is_second, then-is_second}

pub loop-byte-preserved : goal.loop-byte-preserved
loop-byte-preserved c =
    let i = c.loop-byte.byte-index in
    let bytes = c.args.bytes.now in
    let room = c.loop-byte.room in
    let len = c.loop-byte.len in
    let was = c.loop-byte.invariant in
    let next : drop i bytes ≡ get_or bytes i 0 ∷ drop (i + 1) bytes = drop_more bytes i 0 c.loop-byte-test.true in
    elim c.if-is_second.branch [
      | then-is_second w ↦
          let before = rw (w.if-is_second.true, next) at was.written in
          rw (w.room-is, w.len-is, w.is_second-is) (record { behind = omega (arith, was.behind); room = was.room; written = before })
      | else-is_second w ↦
          let before = rw (w.if-is_second.false, next) at was.written in
          let inside : len < length room = omega (arith, was.behind, was.room, c.loop-byte-test.true) in
          rw (w.room-is, w.len-is, w.is_second-is, take_more_set room len (get_or bytes i 0) inside, length-set room len (get_or bytes i 0))
          (record {
            behind = omega (arith, was.behind);
            room = was.room;
            written = append_assoc (take len room) (get_or bytes i 0 ∷ []) (undoubled (get_or bytes i 0 == 34) (drop (i + 1) bytes)) ∙ before;
          })
    ]

pub returns-clause-text : goal.returns-clause-text
returns-clause-text c text is =
    let end : drop c.loop-byte.byte-index c.args.bytes.now ≡ [] = drop_of_length-le c.args.bytes.now c.loop-byte-test.false in
    let all : take c.loop-byte.len c.loop-byte.room ++ [] ≡ undoubled false c.args.bytes.now = rw end at c.loop-byte.invariant.written in
    sym (append-nil (take c.loop-byte.len c.loop-byte.room)) ∙ all ∙ ap (undoubled false) is ∙ undoubled-doubled text
