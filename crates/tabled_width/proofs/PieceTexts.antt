-- The pieces of a text, as texts.
use Rattle.std.proofs.Common.{[], ◌++◌, ◌∙◌, ◌∷◌, ◌≡◌, Bool, List, ap, ap₂, append_assoc, cond, encode_utf8_all, false, map, refl, sym, true, ℕ}
use Rattle.std.proofs.lemmas.Bool.{and_parts}
use Rattle.std.proofs.lemmas.Str.{chars-encodes, encodes-append, encodes-chars, scalars-chars}
use Rattle.std.specs.List.{AllByRecursion, concat}
use Rattle.std.specs.Str.{IsUtf8, chars}
use Rattle.tabled_width.proofs.Scanning.{scalars-append, scalars-one}
use Rattle.tabled_width.specs.Pieces.{pieces, pieces_from, pieces_in, stays}
use lib.Utf8.{scalar, scalars}

-- each of some texts is of characters
abbrev AreScalars : List (List ℕ) → Type 0
AreScalars ps = AllByRecursion (λ p. scalars p ≡ true) ps

scalars-from : (piece cs : List ℕ) → scalars piece ≡ true → scalars cs ≡ true → AreScalars (pieces_from piece cs)
scalars-from piece [] p q = (p, tt)
scalars-from piece (c ∷ cs) p q =
    let parts = and_parts (scalar c) (scalars cs) q in
    let one = scalars-one c parts.0 in
    scalars-next (stays piece c) (scalars-from (piece ++ c ∷ []) cs (scalars-append piece (c ∷ []) p one) parts.1) (scalars-from (c ∷ []) cs one parts.1)
  where
    scalars-next : (b : Bool) → AreScalars (pieces_from (piece ++ c ∷ []) cs) → AreScalars (pieces_from (c ∷ []) cs) → AreScalars (cond b (pieces_from (piece ++ c ∷ []) cs) (piece ∷ pieces_from (c ∷ []) cs))
    scalars-next true more rest = more
    scalars-next false more rest = (p, rest)

scalars-pieces : (cs : List ℕ) → scalars cs ≡ true → AreScalars (pieces cs)
scalars-pieces [] q = tt
scalars-pieces (c ∷ cs) q =
    let parts = and_parts (scalar c) (scalars cs) q in
    scalars-from (c ∷ []) cs (scalars-one c parts.0) parts.1

chars-each : (ps : List (List ℕ)) → AreScalars ps → map chars (map encode_utf8_all ps) ≡ ps
chars-each [] h = refl
chars-each (p ∷ ps) h = ap₂ (λ (x : List ℕ) (xs : List (List ℕ)). x ∷ xs) (chars-encodes p h.0) (chars-each ps h.1)

-- the characters of each piece
pub chars-pieces : (text : List ℕ) → IsUtf8 text → map chars (pieces_in text) ≡ pieces (chars text)
chars-pieces text utf8 = chars-each (pieces (chars text)) (scalars-pieces (chars text) (scalars-chars text utf8))

-- the pieces of characters are these characters
concat-from : (piece cs : List ℕ) → concat (pieces_from piece cs) ≡ piece ++ cs
concat-from piece [] = refl
concat-from piece (c ∷ cs) = concat-next (stays piece c) (concat-from (piece ++ c ∷ []) cs) (concat-from (c ∷ []) cs)
  where
    concat-next : (b : Bool) → concat (pieces_from (piece ++ c ∷ []) cs) ≡ (piece ++ c ∷ []) ++ cs → concat (pieces_from (c ∷ []) cs) ≡ c ∷ cs → concat (cond b (pieces_from (piece ++ c ∷ []) cs) (piece ∷ pieces_from (c ∷ []) cs)) ≡ piece ++ c ∷ cs
    concat-next true more rest = more ∙ append_assoc piece (c ∷ []) cs
    concat-next false more rest = ap (λ xs. piece ++ xs) rest

pub concat-pieces : (cs : List ℕ) → concat (pieces cs) ≡ cs
concat-pieces [] = refl
concat-pieces (c ∷ cs) = concat-from (c ∷ []) cs

encode-concat : (ps : List (List ℕ)) → concat (map encode_utf8_all ps) ≡ encode_utf8_all (concat ps)
encode-concat [] = refl
encode-concat (p ∷ ps) = ap (λ xs. encode_utf8_all p ++ xs) (encode-concat ps) ∙ sym (encodes-append p (concat ps))

pub concat-pieces_in : (text : List ℕ) → IsUtf8 text → concat (pieces_in text) ≡ text
concat-pieces_in text utf8 = encode-concat (pieces (chars text)) ∙ ap encode_utf8_all (concat-pieces (chars text)) ∙ encodes-chars text utf8

-- the characters of the next piece
pub next-piece : (text piece : List ℕ) (rest : List (List ℕ)) → IsUtf8 text → pieces_in text ≡ piece ∷ rest → pieces (chars text) ≡ chars piece ∷ map chars rest
next-piece text piece rest utf8 is = sym (chars-pieces text utf8) ∙ ap (map chars) is

utf8-each : (ps : List (List ℕ)) → AreScalars ps → AllByRecursion IsUtf8 (map encode_utf8_all ps)
utf8-each [] h = tt
utf8-each (p ∷ ps) h = ((p, (h.0, refl)), utf8-each ps h.1)

-- each piece is a text
pub utf8-pieces : (text : List ℕ) → IsUtf8 text → AllByRecursion IsUtf8 (pieces_in text)
utf8-pieces text utf8 = utf8-each (pieces (chars text)) (scalars-pieces (chars text) (scalars-chars text utf8))
