-- What is put for a piece, as bytes.
use Rattle.std.proofs.Common.{[], ◌++◌, ◌∙◌, ◌∷◌, ◌≡◌, Bool, List, Option, ap, append-nil, append_assoc, cond, encode_utf8_all, false, refl, sym, true, ℕ}
use Rattle.std.proofs.lemmas.Str.{encodes-append}
use Rattle.std.specs.Char.{encode_utf8}
use Rattle.tabled_width.specs.WrapSteps.{placed, put_by, put_from}
use Rattle.tabled_width.specs.declared.wrapping.Placed.{Placed}

-- the bytes of what is put
abbrev put_bytes : Placed → List ℕ → List ℕ
put_bytes q bytes = cond q.breaks (encode_utf8 10) [] ++ cond q.is_put bytes []

encode_put : (breaks is_put : Bool) (cs more : List ℕ) → encode_utf8_all ((cond breaks (10 ∷ []) [] ++ cond is_put cs []) ++ more) ≡ (cond breaks (encode_utf8 10) [] ++ cond is_put (encode_utf8_all cs) []) ++ encode_utf8_all more
encode_put true true cs more = ap (λ xs. encode_utf8 10 ++ xs) (encodes-append cs more) ∙ sym (append_assoc (encode_utf8 10) (encode_utf8_all cs) (encode_utf8_all more))
encode_put true false cs more = ap (λ xs. xs ++ encode_utf8_all more) (sym (append-nil (encode_utf8 10)))
encode_put false true cs more = encodes-append cs more
encode_put false false cs more = refl

-- one piece more is put
pub put-more : (n : ℕ) (keeps : Bool) (used : Option ℕ) (cs : List ℕ) (rest : List (List ℕ)) (bytes out mid end all : List ℕ) (q : Placed) → q ≡ placed n keeps used cs rest → encode_utf8_all cs ≡ bytes → mid ≡ out ++ cond q.breaks (encode_utf8 10) [] → end ≡ mid ++ cond q.is_put bytes [] → out ++ encode_utf8_all (put_from n keeps used (cs ∷ rest)) ≡ all → end ++ encode_utf8_all (put_from n keeps q.used rest) ≡ all
put-more n keeps used cs rest bytes out mid end all q is encoded turn put before =
    let more = encode_utf8_all (put_from n keeps q.used rest) in
    ap (λ xs. xs ++ more) (put ∙ ap (λ xs. xs ++ cond q.is_put bytes []) turn)
    ∙ regroup (cond q.breaks (encode_utf8 10) []) (cond q.is_put bytes []) more
    ∙ ap (λ xs. out ++ xs) (ap (λ bs. (cond q.breaks (encode_utf8 10) [] ++ cond q.is_put bs []) ++ more) (sym encoded) ∙ sym (encode_put q.breaks q.is_put cs (put_from n keeps q.used rest)) ∙ ap (λ (p : Placed). encode_utf8_all (put_by p cs ++ put_from n keeps p.used rest)) is)
    ∙ before
  where
    regroup : (a b c : List ℕ) → ((out ++ a) ++ b) ++ c ≡ out ++ ((a ++ b) ++ c)
    regroup a b c = simp append_assoc
