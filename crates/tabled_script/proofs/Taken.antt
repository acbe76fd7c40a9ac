-- Arguments that are taken, or refused.
use Rattle.std.specs.Prelude.{Bool, Err, Ok, Result, String, false, if◌then◌else◌}
use Rattle.std.specs.Option.{unwrap_or}
use Rattle.std.specs.String.{string_bytes}
use Rattle.tabled_json.specs.declared.form.Values.{Values}
use Rattle.tabled_script.proofs.Common.{[], ◌∙◌, ◌∷◌, ◌≡◌, Global, List, Option, ap, inl, inr, length, map, refl, subst, sym, ℕ}
use Rattle.tabled_script.specs.Aligners.{Aligner}
use Rattle.tabled_script.specs.Arguments.{Asked, Blamed, expect, has_taken, set_to, step_of, with_first_value}
use Rattle.tabled_script.specs.Refusals.{IsRefused, Takes}
use Rattle.tabled_script.specs.Requests.{IsForm, aligner_asked, drawn_of, to_separator_of, values_of, width_of, writing_of, written_of}
use Rattle.tabled_script.specs.declared.form.Form.{Form}
use Rattle.tabled_script.specs.declared.arguments.Next.TheVariants as next
use Rattle.tabled_script.specs.declared.refusal.Misuse.TheVariants as misuse
use Rattle.tabled_script.specs.declared.refusal.Refusal.{Refusal}
use Rattle.tabled_script.specs.declared.setting.Drawn.{Drawn}
use Rattle.tabled_script.specs.declared.setting.Setting.{Setting}
use Rattle.tabled_script.specs.declared.setting.FormName.{FormName}

pub wrong_value : (setting : Setting) (value : List ℕ) (asked after : Asked) → after ≡ set_to setting value asked → has_taken setting value after ≡ false
    → with_first_value setting value asked ≡ Err (misuse.WrongValue setting, value)
wrong_value setting value asked after is none =
    ap (λ (b : Bool). if b then Ok (expect next.Option (set_to setting value asked)) else Err (misuse.WrongValue setting, value)) (ap (has_taken setting value) (sym is) ∙ none)

pub refused_for : (expected : Result Asked Blamed) (blamed : Blamed) (refused : Refusal) → IsRefused blamed refused → expected ≡ Err blamed → Takes expected (Err refused)
refused_for expected blamed refused (inl memory) is = inl memory
refused_for expected blamed refused (inr refuses) is = inr (blamed, is, refuses)

-- the form that is asked for, made of what is asked for
module _ (asked : Asked) (how : FormName) (look : Drawn) (width : Option ℕ) (alignments : Aligner) (separator : ℕ) (values : Values) (header : ℕ) (caption : Option (List ℕ)) (form : Form) where
  abbrev given : FormName → Drawn → Option ℕ → Aligner → ℕ → Values → ℕ → Option (List ℕ) → Type 0
  given how look width alignments separator values header caption =
      IsForm (record { how = how; look = look; width = width; alignments = alignments; separator = separator; values = values; header = header; caption = caption }) form

  pub written_so : given how look width alignments separator values header caption → how ≡ written_of asked → look ≡ drawn_of asked → width ≡ width_of asked
      → alignments ≡ aligner_asked asked → separator ≡ to_separator_of asked → values ≡ values_of asked → header ≡ unwrap_or asked.header 0 → caption ≡ asked.caption → IsForm (writing_of asked) form
  written_so is hows looks widths lists parts valued headers captions =
      subst (λ (x : FormName). given x (drawn_of asked) (width_of asked) (aligner_asked asked) (to_separator_of asked) (values_of asked) (unwrap_or asked.header 0) asked.caption) hows
      (subst (λ (x : Drawn). given how x (width_of asked) (aligner_asked asked) (to_separator_of asked) (values_of asked) (unwrap_or asked.header 0) asked.caption) looks
      (subst (λ (x : Option ℕ). given how look x (aligner_asked asked) (to_separator_of asked) (values_of asked) (unwrap_or asked.header 0) asked.caption) widths
      (subst (λ (x : Aligner). given how look width x (to_separator_of asked) (values_of asked) (unwrap_or asked.header 0) asked.caption) lists
      (subst (λ (x : ℕ). given how look width alignments x (values_of asked) (unwrap_or asked.header 0) asked.caption) parts
      (subst (λ (x : Values). given how look width alignments separator x (unwrap_or asked.header 0) asked.caption) valued
      (subst (λ (x : ℕ). given how look width alignments separator values x asked.caption) headers
      (subst (λ (x : Option (List ℕ)). given how look width alignments separator values header x) captions is)))))))

-- the words of a step that has none
pub no_step : (words : List (String Global)) → length words ≡ 0 → step_of (map string_bytes words) ≡ []
no_step [] none = refl
no_step (word ∷ words) none = cc (none)

-- the words of a step that has some
pub one_step : (words : List (String Global)) → (length words ≡ 0 → ⊥) → step_of (map string_bytes words) ≡ map string_bytes words ∷ []
one_step [] some = absurd (some refl)
one_step (word ∷ words) some = refl
