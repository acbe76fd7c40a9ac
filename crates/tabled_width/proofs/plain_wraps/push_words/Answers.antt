use Rattle.std.proofs.Common.{◌++◌, ◌∙◌, ◌∷◌, ◌≡◌, Some, ap, encode_utf8_all, map, sym}
use Rattle.std.specs.String.{string_bytes}
use Rattle.tabled_width.proofs.PlainPieces.{plain-pieces, singles}
use Rattle.tabled_width.proofs.PlainWraps.{first-put}
use Rattle.tabled_width.specs.Plain.{words_left}
use Rattle.tabled_width.specs.Wraps.{with_words}
use Rattle.tabled_width.proofs.plain_wraps.push_words.Goals as goal

pub loop-rest-init : goal.loop-rest-init
loop-rest-init c = record {
  plain = c.first_word.ensures.others;
  within = c.in_ok-used.ensures.within;
  put = first-put c.args.width (string_bytes c.args.out.now) c.args.text.now c.first_word.result.0.now (string_bytes c.push_cut.new.out) (words_left c.first_word.result.1) c.in_ok-used.used c.requires.plain c.first_word.ensures.first c.first_word.ensures.words c.in_ok-used.ensures.put c.in_ok-used.ensures.used;
}

pub loop-rest-preserved : goal.loop-rest-preserved
loop-rest-preserved c =
    let out = string_bytes c.loop-rest.out in
    let word = c.first_word-in-Some.result.0.now in
    let others = words_left c.first_word-in-Some.result.1 in
    let parts : words_left c.loop-rest.rest ≡ word ∷ others = ap words_left c.in-Some.is ∙ c.first_word-in-Some.ensures.words in
    record {
      plain = c.first_word-in-Some.ensures.others;
      within = c.in_ok-used-2.ensures.within;
      put = sym (c.in_ok-used-2.ensures.put (map singles others))
          ∙ ap (λ ps. out ++ encode_utf8_all (with_words c.args.width (Some c.loop-rest.used) (ps ∷ map singles others))) (plain-pieces word c.first_word-in-Some.ensures.first)
          ∙ ap (λ ws. out ++ encode_utf8_all (with_words c.args.width (Some c.loop-rest.used) (map singles ws))) (sym parts)
          ∙ c.loop-rest.invariant.put;
    }
