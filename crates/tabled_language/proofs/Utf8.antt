-- Bytes that are a text.
use Rattle.tabled_language.proofs.Common.{◌≡◌, Bool, IsUtf8, IsUtf8-from_is_utf8, List, None, Some, ap, cond, false, if_utf8, is_utf8-from_IsUtf8, refl, true, ℕ}
use Rattle.std.specs.Str.{is_utf8}

-- bytes that are a text
pub text_lent : (bytes text : List ℕ) → text ≡ bytes → IsUtf8 bytes → Some text ≡ if_utf8 bytes
text_lent bytes text is valid = rw (is_utf8-from_IsUtf8 bytes valid) (ap Some is)

-- bytes that aren't
pub no_text : (bytes : List ℕ) → (IsUtf8 bytes → ⊥) → None ≡ if_utf8 bytes
no_text bytes none = lends_none (is_utf8 bytes) refl
  where
    lends_none : (b : Bool) → is_utf8 bytes ≡ b → None ≡ cond b (Some bytes) None
    lends_none false is = refl
    lends_none true is = absurd (none (IsUtf8-from_is_utf8 bytes is))
