-- What stands for texts in Markdown, character by character.
use Rattle.std.proofs.Common.{lit<, ◌^◌}
use Rattle.std.proofs.lemmas.Fmt.{IsAscii-decimal}
use Rattle.std.proofs.lemmas.Str.{encodes-IsAscii}
use Rattle.std.specs.Fmt.{decimal}
use Rattle.std.specs.Prelude.{Err, Ok, OnOk, Result, chars, codes, is_ok}
use Rattle.tabled_draw.proofs.Common.{AllByRecursion, Grid, IsUtf8, List, Position, Rectangle, [], ap, append-nil, append_assoc, ap₂, chars-nil, chars_past_char, cond, encode_ascii, encode_utf8, encode_utf8_all, encodes-append, false, ne_eqb, refl, sym, true, ℕ, ◌++◌, ◌<◌, ◌∙◌, ◌∷◌, ◌≡◌, ◌≢◌}
use Rattle.tabled_grid.specs.Anchors.{is_hidden_in}
use Rattle.tabled_draw.specs.Markdown.{cell_apart, escape, escaped, escaped_behind, is_markup, is_numbered}

-- what a call has appended, if it is done
pub appended-if-ok : {T E : Type 0} (r : Result T E) (old new more wanted : List ℕ) → new ≡ cond (is_ok r) (old ++ more) old → more ≡ wanted → OnOk r (new ≡ old ++ wanted)
appended-if-ok (Ok x) old new more wanted is same = is ∙ ap (λ bs. old ++ bs) same
appended-if-ok (Err e) old new more wanted is same = tt

-- the same, where what is wanted is known to be appended
pub number-appended : {T E : Type 0} (r : Result T E) (old new more wanted : List ℕ) → more ≡ wanted → OnOk r (new ≡ old ++ more) → OnOk r (new ≡ old ++ wanted)
number-appended (Ok x) old new more wanted same is = is ∙ ap (λ bs. old ++ bs) same
number-appended (Err e) old new more wanted same is = tt

encodes-low : (bs : List ℕ) → AllByRecursion (λ b. b < 128) bs → encode_utf8_all bs ≡ bs
encodes-low [] low = refl
encodes-low (b ∷ bs) low = ap₂ (λ x xs. x ++ xs) (encode_ascii b low.0) (encodes-low bs low.1)

-- ---- what stands for a character

pub escape-break : (before c after : ℕ) → c ≡ 10 → codes "<br>" ≡ encode_utf8_all (escape before c after)
unfolding escape
escape-break before c after is = sym (encodes-low (codes "<br>") (lit< tt, (lit< tt, (lit< tt, (lit< tt, tt))))) ∙ ap (λ k. encode_utf8_all (escape before k after)) (sym is)

pub escape-ampersand : (before c after : ℕ) → c ≡ 38 → codes "&amp;" ≡ encode_utf8_all (escape before c after)
unfolding escape
escape-ampersand before c after is = sym (encodes-low (codes "&amp;") (lit< tt, (lit< tt, (lit< tt, (lit< tt, (lit< tt, tt)))))) ∙ ap (λ k. encode_utf8_all (escape before k after)) (sym is)

pub escape-less : (before c after : ℕ) → c ≡ 60 → codes "&lt;" ≡ encode_utf8_all (escape before c after)
unfolding escape
escape-less before c after is = sym (encodes-low (codes "&lt;") (lit< tt, (lit< tt, (lit< tt, (lit< tt, tt))))) ∙ ap (λ k. encode_utf8_all (escape before k after)) (sym is)

pub escape-number : (before c after : ℕ) → c ≢ 10 → c ≢ 38 → c ≢ 60 → is_numbered before c after ≡ true → c < 2 ^ 64 → codes "&#" ++ (decimal c ++ codes ";") ≡ encode_utf8_all (escape before c after)
unfolding escape
escape-number before c after newline ampersand less numbered small =
    rw (ne_eqb c 10 newline, ne_eqb c 38 ampersand, ne_eqb c 60 less, numbered)
    (sym (encodes-append (codes "&#") (decimal c ++ codes ";") ∙ ap₂ (λ x y. x ++ y) (encodes-low (codes "&#") (lit< tt, (lit< tt, tt))) (encodes-append (decimal c) (codes ";") ∙ ap₂ (λ x y. x ++ y) (encodes-IsAscii (decimal c) (IsAscii-decimal c small)) (encodes-low (codes ";") (lit< tt, tt)))))

pub escape-mark : (before c after : ℕ) → c ≢ 10 → c ≢ 38 → c ≢ 60 → is_numbered before c after ≡ false → is_markup before c after ≡ true → encode_utf8 92 ++ encode_utf8 c ≡ encode_utf8_all (escape before c after)
unfolding escape
escape-mark before c after newline ampersand less numbered markup =
    rw (ne_eqb c 10 newline, ne_eqb c 38 ampersand, ne_eqb c 60 less, numbered, markup) (ap (λ bs. encode_utf8 92 ++ bs) (sym (append-nil (encode_utf8 c))))

-- two characters are appended, the second if it is done
pub both-appended : {T E : Type 0} (r : Result T E) (old mid new first second wanted : List ℕ) → mid ≡ old ++ first → new ≡ cond (is_ok r) (mid ++ second) mid → first ++ second ≡ wanted → OnOk r (new ≡ old ++ wanted)
both-appended (Ok x) old mid new first second wanted one is same = is ∙ ap (λ bs. bs ++ second) one ∙ append_assoc old first second ∙ ap (λ bs. old ++ bs) same
both-appended (Err e) old mid new first second wanted one is same = tt

pub escape-plain : (before c after : ℕ) → c ≢ 10 → c ≢ 38 → c ≢ 60 → is_numbered before c after ≡ false → is_markup before c after ≡ false → encode_utf8 c ≡ encode_utf8_all (escape before c after)
unfolding escape
escape-plain before c after newline ampersand less numbered markup =
    rw (ne_eqb c 10 newline, ne_eqb c 38 ampersand, ne_eqb c 60 less, numbered, markup) (sym (append-nil (encode_utf8 c)))

-- ---- what stands for a text

module _ (out new all : List ℕ) (before here after : ℕ) (whole rest : List ℕ) where
  -- one more character
  pub text-more : IsUtf8 whole → whole ≡ encode_utf8 after ++ rest → new ≡ out ++ encode_utf8_all (escape before here after) → out ++ encode_utf8_all (escaped_behind before (here ∷ chars whole)) ≡ all
      → new ++ encode_utf8_all (escaped_behind here (after ∷ chars rest)) ≡ all
  text-more utf8 step is same =
      ap (λ bs. bs ++ encode_utf8_all (escaped_behind here (after ∷ chars rest))) is
      ∙ append_assoc out (encode_utf8_all (escape before here after)) (encode_utf8_all (escaped_behind here (after ∷ chars rest)))
      ∙ ap (λ bs. out ++ bs) (sym (encodes-append (escape before here after) (escaped_behind here (after ∷ chars rest))))
      ∙ ap (λ cs. out ++ encode_utf8_all (escaped_behind before (here ∷ cs))) (sym (chars_past_char whole rest after utf8 step))
      ∙ same

-- the last character
pub text-last : {T E : Type 0} (r : Result T E) (out new all : List ℕ) (before here : ℕ) (rest : List ℕ) → rest ≡ [] → OnOk r (new ≡ out ++ encode_utf8_all (escape before here 10)) → out ++ encode_utf8_all (escaped_behind before (here ∷ chars rest)) ≡ all → OnOk r (new ≡ all)
text-last (Err e) out new all before here rest none is same = tt
text-last (Ok x) out new all before here rest none is same =
    is ∙ ap (λ cs. out ++ encode_utf8_all cs) (sym (append-nil (escape before here 10)))
    ∙ ap (λ cs. out ++ encode_utf8_all (escaped_behind before (here ∷ cs))) (sym (ap chars none ∙ chars-nil))
    ∙ same

-- the first character
pub text-first : (out text rest : List ℕ) (here : ℕ) → IsUtf8 text → text ≡ encode_utf8 here ++ rest → out ++ encode_utf8_all (escaped_behind 10 (here ∷ chars rest)) ≡ out ++ encode_utf8_all (escaped text)
text-first out text rest here utf8 step = ap (λ cs. out ++ encode_utf8_all (escaped_behind 10 cs)) (sym (chars_past_char text rest here utf8 step))

pub text-none : (out text : List ℕ) → text ≡ [] → out ≡ out ++ encode_utf8_all (escaped text)
text-none out text none = sym (ap (λ cs. out ++ encode_utf8_all (escaped_behind 10 cs)) (ap chars none ∙ chars-nil) ∙ append-nil out)

-- ---- what stands for a cell

pub hidden-apart : (g : Grid (List ℕ)) (es : List Rectangle) (p : Position) → is_hidden_in es p ≡ true → [] ≡ cell_apart g es p
hidden-apart g es p hidden = rw hidden refl
