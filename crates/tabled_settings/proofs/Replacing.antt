-- Characters replaced, byte by byte, and cleaned.
use Rattle.std.proofs.lemmas.Grind.{common_steps}
use Rattle.tabled_settings.proofs.Common.{[], ◌%◌, ◌&&◌, ◌++◌, ◌+◌, ◌/◌, ◌==◌, ◌∙◌, ◌∷◌, ◌≡◌, ◌≤◌, AllByRecursion, Bool, IsCleanByte, List, None, Option, Some, all-append, and_parts, append-nil, append_assoc, arith, byte_stays, clean_text, cond, encode_ascii, encode_utf8, eqb-true, false, flat_map, flat_map-append, inl, inr, le-ltb, list_all, ltb, ltb-false, ltb-true, ne_eqb, not, recoded, refl, replaced, replicate, suc, sym, true, with_tabs, zero, ℕ}

-- a byte of a character that isn't ASCII stays
stays_high : (cleans : Bool) (b : ℕ) → 128 ≤ b → byte_stays cleans b ≡ true
stays_high true b h = rw (ne_eqb b 10 (λ e. omega (arith, h, e)), le-ltb b 32 (omega (arith, h))) refl
stays_high false b h = refl

replaced_high : (cleans : Bool) (n b : ℕ) → 128 ≤ b → replaced cleans n b ≡ b ∷ []
replaced_high cleans n b h = rw (ne_eqb b 9 (λ e. omega (arith, h, e)), stays_high cleans b h) refl

all_high : (cleans : Bool) (n : ℕ) (bs : List ℕ) → AllByRecursion (λ b. 128 ≤ b) bs → flat_map (replaced cleans n) bs ≡ bs
all_high cleans n [] h = refl
all_high cleans n (b ∷ bs) h = rw (replaced_high cleans n b h.0, all_high cleans n bs h.1) refl

encode_high : (c : ℕ) → 128 ≤ c → AllByRecursion (λ b. 128 ≤ b) (encode_utf8 c)
unfolding lib.Utf8.encode
encode_high c h = rw (le-ltb c 128 h) (bytes_high (ltb c 2048) (ltb c 65536))
  where
    bytes_high : (two three : Bool) → AllByRecursion (λ b. 128 ≤ b) (cond two ((192 + c / 64) ∷ (128 + c % 64) ∷ []) (cond three ((224 + c / 4096) ∷ (128 + (c / 64) % 64) ∷ (128 + c % 64) ∷ []) ((240 + c / 262144) ∷ (128 + (c / 4096) % 64) ∷ (128 + (c / 64) % 64) ∷ (128 + c % 64) ∷ [])))
    bytes_high true three = (omega arith, (omega arith, tt))
    bytes_high false true = (omega arith, (omega arith, (omega arith, tt)))
    bytes_high false false = (omega arith, (omega arith, (omega arith, (omega arith, tt))))

-- what comes in the place of a character
replaced-char : (cleans : Bool) (n c : ℕ) → flat_map (replaced cleans n) (encode_utf8 c) ≡ cond (c == 9) (replicate n 32) (cond (byte_stays cleans c) (encode_utf8 c) [])
replaced-char cleans n c = low_or_high (ltb c 128) refl
  where
    low_or_high : (b : Bool) → ltb c 128 ≡ b → flat_map (replaced cleans n) (encode_utf8 c) ≡ cond (c == 9) (replicate n 32) (cond (byte_stays cleans c) (encode_utf8 c) [])
    low_or_high true e = rw (encode_ascii c (ltb-true c 128 e)) (append-nil (replaced cleans n c))
    low_or_high false e =
        let high : 128 ≤ c = ltb-false c 128 e in
        all_high cleans n (encode_utf8 c) (encode_high c high) ∙ rw (ne_eqb c 9 (λ x. omega (arith, high, x)), stays_high cleans c high) refl

-- one more character replaced
pub replaced-more : (cleans : Bool) (n c : ℕ) (out put rest whole all : List ℕ) → whole ≡ encode_utf8 c ++ rest → put ≡ cond (c == 9) (replicate n 32) (cond (byte_stays cleans c) (encode_utf8 c) []) → out ++ flat_map (replaced cleans n) whole ≡ all → (out ++ put) ++ flat_map (replaced cleans n) rest ≡ all
replaced-more cleans n c out put rest whole all e is same = grind (arith, common_steps, append_assoc, flat_map-append, replaced-char)

-- a byte that is no tab and stays
plain_byte : (cleans : Bool) (n b : ℕ) → (not (b == 9) && byte_stays cleans b) ≡ true → replaced cleans n b ≡ b ∷ []
plain_byte cleans n b h = grind (arith, common_steps)

-- a text without tabs, of which all stays, is as it was
plain-same : (cleans : Bool) (n : ℕ) (text : List ℕ) → list_all (λ b. not (b == 9) && byte_stays cleans b) text ≡ true → flat_map (replaced cleans n) text ≡ text
plain-same cleans n [] h = refl
plain-same cleans n (b ∷ text) h =
    let parts = and_parts (not (b == 9) && byte_stays cleans b) (list_all (λ c. not (c == 9) && byte_stays cleans c) text) h in
    rw (plain_byte cleans n b parts.0, plain-same cleans n text parts.1) refl

-- and so it is in a charset that cleans alike
pub recoded-same : (s : Bool × Option ℕ) (text : List ℕ) → list_all (λ b. not (b == 9) && byte_stays s.0 b) text ≡ true → text ≡ recoded s text
recoded-same (cleans, Some n) text h = sym (plain-same cleans n text h)
recoded-same (true, None) text h = sym (plain-same true 0 text h)
recoded-same (false, None) text h = refl

spaces_clean : (n : ℕ) → AllByRecursion IsCleanByte (replicate n 32)
spaces_clean zero = tt
spaces_clean (suc n) = (inr (omega arith), spaces_clean n)

kept_clean : (b : ℕ) (is_newline below : Bool) → b == 10 ≡ is_newline → ltb b 32 ≡ below → AllByRecursion IsCleanByte (cond (byte_stays true b) (b ∷ []) [])
kept_clean b true below e f = rw e (inl (eqb-true b 10 e), tt)
kept_clean b false true e f = rw (e, f) tt
kept_clean b false false e f = rw (e, f) (inr (ltb-false b 32 f), tt)

byte_clean : (n b : ℕ) (is_tab : Bool) → b == 9 ≡ is_tab → AllByRecursion IsCleanByte (replaced true n b)
byte_clean n b true e = rw e (spaces_clean n)
byte_clean n b false e = rw e (kept_clean b (b == 10) (ltb b 32) refl refl)

-- a clean text is clean
pub cleaned-clean : (n : ℕ) (text : List ℕ) → AllByRecursion IsCleanByte (clean_text n text)
cleaned-clean n [] = tt
cleaned-clean n (b ∷ text) = all-append IsCleanByte (replaced true n b) (clean_text n text) (byte_clean n b (b == 9) refl) (cleaned-clean n text)

clean_stays : (n b : ℕ) → IsCleanByte b → replaced true n b ≡ b ∷ []
clean_stays n b (inl e) = rw e refl
clean_stays n b (inr h) = rw (ne_eqb b 9 (λ e. omega (arith, h, e)), ne_eqb b 10 (λ e. omega (arith, h, e)), le-ltb b 32 h) refl

-- a clean text stays
pub clean-same : (n : ℕ) (text : List ℕ) → AllByRecursion IsCleanByte text → clean_text n text ≡ text
clean-same n [] h = refl
clean-same n (b ∷ text) h = rw (clean_stays n b h.0, clean-same n text h.1) refl

byte_after_tabs : (n b : ℕ) (is_tab : Bool) → b == 9 ≡ is_tab → replaced true n b ≡ clean_text 0 (replaced false n b)
byte_after_tabs n b true e = rw e (sym (clean-same 0 (replicate n 32) (spaces_clean n)))
byte_after_tabs n b false e = grind (arith, common_steps, append-nil)

-- tabs first
pub cleaned-after_tabs : (n : ℕ) (text : List ℕ) → clean_text n text ≡ clean_text 0 (with_tabs n text)
cleaned-after_tabs n [] = refl
cleaned-after_tabs n (b ∷ text) = rw (byte_after_tabs n b (b == 9) refl, cleaned-after_tabs n text) (sym (flat_map-append (replaced true 0) (replaced false n b) (with_tabs n text)))
