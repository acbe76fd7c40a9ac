-- Texts cut into pieces, character by character.
use Rattle.std.proofs.Common.{arith}
use Rattle.tabled_spans.proofs.Common.{◌++◌, ◌≡◌, Bool, IsUtf8, List, append_assoc, chars, chars_past_char, common_steps, encode_utf8, encode_utf8_all, false, pieces, placed, true, ℕ}

-- what is pushed before a character
pub record Pushed (begins : Bool) (out mid : List ℕ) : Type 0 where
  pub newline : begins ≡ true → mid ≡ out ++ encode_utf8 10
  pub none : begins ≡ false → mid ≡ out

pub piece_more : (width used c : ℕ) (out mid rest whole all : List ℕ) → IsUtf8 whole → whole ≡ encode_utf8 c ++ rest → Pushed (placed width used c).begins out mid → out ++ encode_utf8_all (pieces width used (chars whole)) ≡ all → (mid ++ encode_utf8 (placed width used c).character) ++ encode_utf8_all (pieces width (placed width used c).used (chars rest)) ≡ all
piece_more width used c out mid rest whole all utf8 is pushed same = grind (arith, common_steps, chars_past_char, append_assoc)
