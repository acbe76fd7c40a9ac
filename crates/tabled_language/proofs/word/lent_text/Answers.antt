use Rattle.tabled_language.proofs.Common.{◌∙◌, ◌≡◌, eqb, false, list_any, own_word, rules, true}
use Rattle.tabled_language.proofs.Escapes.{unescaped-clean}
use Rattle.tabled_language.proofs.Utf8.{no_text, text_lent}
use Rattle.tabled_language.proofs.word.lent_text.Goals as goal

pub new-requires : goal.new-requires
new-requires c =
    let word = c.args.word.now in
    let clean : list_any (λ b. eqb b 92) word ≡ false = search rules in
    let text = rw c.in-Ok-from_utf8.is at c.from_utf8-2.ensures.cases in
    rw text.0 (own_word word c.requires.0 c.requires.1 clean)

pub returns-in-Ok-from_utf8 : goal.returns-in-Ok-from_utf8
returns-in-Ok-from_utf8 c =
    let word = c.args.word.now in
    let clean : list_any (λ b. eqb b 92) word ≡ false = search rules in
    let text = rw c.in-Ok-from_utf8.is at c.from_utf8-2.ensures.cases in
    rw (unescaped-clean word clean) (text_lent word c.new.result (c.new.ensures ∙ text.0) text.1)

pub returns-in-Err-from_utf8 : goal.returns-in-Err-from_utf8
returns-in-Err-from_utf8 c =
    let word = c.args.word.now in
    let clean : list_any (λ b. eqb b 92) word ≡ false = search rules in
    let none = rw c.in-Err-from_utf8.is at c.from_utf8-2.ensures.cases in
    rw (unescaped-clean word clean) (no_text word none.0)

pub returns-in_ok-from_text-in-Ok : goal.returns-in_ok-from_text-in-Ok
returns-in_ok-from_text-in-Ok c =
    let is_word : c.in_ok-unescape.field-0 ≡ true = search rules in
    let undone = rw (is_word, ← c.deref.ensures.value) at c.in_ok-unescape.ensures in
    rw (← undone) (text_lent c.deref.result.now _ (c.in_ok-from_text-in-Ok.ensures ∙ c.in-Ok.ensures.cases.0) c.in-Ok.ensures.cases.1)

pub returns-in-Err : goal.returns-in-Err
returns-in-Err c =
    let is_word : c.in_ok-unescape.field-0 ≡ true = search rules in
    let undone = rw (is_word, ← c.deref.ensures.value) at c.in_ok-unescape.ensures in
    rw (← undone) (no_text c.deref.result.now c.in-Err.ensures.cases.0)
