-- What is known of the piece that is gone over: the text before what is left, and its last cluster.
use Rattle.std.proofs.Common.{◌&&◌, ◌++◌, ◌∙◌, ◌∷◌, ◌≡◌, Bool, List, [], ap, ap₂, append-nil, append_assoc, cond, encode_utf8, encode_utf8_all, false, map, not, refl, subst, sym, true, ℕ}
use Rattle.std.proofs.lemmas.Bool.{and_parts}
use Rattle.std.proofs.lemmas.List.Sums.{fold-append}
use Rattle.std.proofs.lemmas.List.{append_cancel_right}
use Rattle.std.proofs.lemmas.Str.{IsUtf8-append, chars-encodes, chars-nil, chars_past_char, cons_from_encodes, encodes-append}
use Rattle.std.specs.Str.{IsUtf8, chars}
use Rattle.tabled_width.specs.Pieces.{attaches, pieces_in, ends_in_half_a_flag, last_cluster, last_of, pieces, pieces_from, stays, stays_behind}
use Rattle.unicode_width.specs.Width.{is_indicator}
use lib.Utf8.{scalar, scalars}

-- a character behind others
pub more-last : (cs : List ℕ) (c : ℕ) → last_of (cs ++ c ∷ []) ≡ c
more-last cs c = fold-append (λ before c. c) 0 cs (c ∷ [])

pub more-cluster : (cs : List ℕ) (c : ℕ) → last_cluster (cs ++ c ∷ []) ≡ cond (attaches c) (last_cluster cs ++ c ∷ []) (c ∷ [])
more-cluster cs c = fold-append (λ cluster c. cond (attaches c) (cluster ++ c ∷ []) (c ∷ [])) [] cs (c ∷ [])

pub more-half : (cs : List ℕ) (c : ℕ) → ends_in_half_a_flag (cs ++ c ∷ []) ≡ (is_indicator c && not (ends_in_half_a_flag cs))
more-half cs c = fold-append (λ half c. is_indicator c && not half) false cs (c ∷ [])

pub record IsScanned (text rest cluster : List ℕ) (half : Bool) (last : ℕ) : Type 0 where
  pub piece : List ℕ
  pub scalars_piece : scalars piece ≡ true
  pub scalars_cluster : scalars (last_cluster piece) ≡ true
  pub whole : text ≡ encode_utf8_all piece ++ rest
  pub behind_cluster : cluster ≡ encode_utf8_all (last_cluster piece) ++ rest
  pub half_is : half ≡ ends_in_half_a_flag piece
  pub last_is : last ≡ last_of piece
  pub pieces_are : pieces (chars text) ≡ pieces_from piece (chars rest)

pub scalar-first : (bs rest : List ℕ) (c : ℕ) → IsUtf8 bs → bs ≡ encode_utf8 c ++ rest → (scalar c ≡ true) × IsUtf8 rest
scalar-first bs rest c utf8 is =
    let parts = cons_from_encodes utf8.0 rest c (utf8.1.1 ∙ is) in
    let all = and_parts (scalar c) (scalars parts.0) (ap scalars (sym parts.1) ∙ utf8.1.0) in
    (all.0, (parts.0, (all.1, parts.2)))

pub scalars-append : (cs ds : List ℕ) → scalars cs ≡ true → scalars ds ≡ true → scalars (cs ++ ds) ≡ true
scalars-append [] ds p q = q
scalars-append (c ∷ cs) ds p q =
    let parts = and_parts (scalar c) (scalars cs) p in
    rw parts.0 (scalars-append cs ds parts.1 q)

pub scalars-one : (c : ℕ) → scalar c ≡ true → scalars (c ∷ []) ≡ true
scalars-one c p = rw p refl

-- the first character
pub scanned-first : (text rest : List ℕ) (c : ℕ) → IsUtf8 text → text ≡ encode_utf8 c ++ rest → IsScanned text rest text (is_indicator c) c
scanned-first text rest c utf8 is =
    let one = scalars-one c (scalar-first text rest c utf8 is).0 in
    record {
      piece = c ∷ [];
      scalars_piece = one;
      scalars_cluster = rw (alone c) one;
      whole = is ∙ ap (λ bs. bs ++ rest) (sym (append-nil (encode_utf8 c)));
      behind_cluster = rw (alone c) (is ∙ ap (λ bs. bs ++ rest) (sym (append-nil (encode_utf8 c))));
      half_is = half (is_indicator c);
      last_is = refl;
      pieces_are = ap pieces (chars_past_char text rest c utf8 is);
    }
  where
    alone : (c : ℕ) → last_cluster (c ∷ []) ≡ c ∷ []
    alone c = same-branches (attaches c)
      where
        same-branches : (b : Bool) → cond b (c ∷ []) (c ∷ []) ≡ c ∷ []
        same-branches true = refl
        same-branches false = refl

    half : (b : Bool) → b ≡ (b && not false)
    half true = refl
    half false = refl

module _ (text rest cluster : List ℕ) (half : Bool) (last : ℕ) (scanned : IsScanned text rest cluster half last) where
  pub scanned-utf8 : IsUtf8 rest → IsUtf8 cluster
  scanned-utf8 utf8 = subst IsUtf8 (sym scanned.behind_cluster) (IsUtf8-append (encode_utf8_all (last_cluster scanned.piece)) rest (last_cluster scanned.piece, (scanned.scalars_cluster, refl)) utf8)

  -- the last cluster, as a text
  pub scanned-short : (short : List ℕ) → cluster ≡ short ++ rest → chars short ≡ last_cluster scanned.piece
  scanned-short short is = ap chars (append_cancel_right short _ rest (sym is ∙ scanned.behind_cluster)) ∙ chars-encodes (last_cluster scanned.piece) scanned.scalars_cluster

  -- all before what is left, as a text
  pub scanned-whole : (part : List ℕ) → text ≡ part ++ rest → part ≡ encode_utf8_all scanned.piece
  scanned-whole part is = append_cancel_right part _ rest (sym is ∙ scanned.whole)

  module _ (after : List ℕ) (c : ℕ) (utf8 : IsUtf8 rest) (next : rest ≡ encode_utf8 c ++ after) where
    encode-more : (cs : List ℕ) → encode_utf8_all cs ++ rest ≡ encode_utf8_all (cs ++ c ∷ []) ++ after
    encode-more cs = ap (λ bs. encode_utf8_all cs ++ bs) next ∙ sym (append_assoc (encode_utf8_all cs) (encode_utf8 c) after) ∙ ap (λ bs. bs ++ after) (sym (encodes-append cs (c ∷ []) ∙ ap (λ bs. encode_utf8_all cs ++ bs) (append-nil (encode_utf8 c))))

    one : scalar c ≡ true
    one = (scalar-first rest after c utf8 next).0

    more : (cs : List ℕ) → scalars cs ≡ true → scalars (cs ++ c ∷ []) ≡ true
    more cs h = scalars-append cs (c ∷ []) h (scalars-one c one)

    pub scanned-front : cluster ≡ encode_utf8_all (last_cluster scanned.piece ++ c ∷ []) ++ after
    scanned-front = scanned.behind_cluster ∙ encode-more (last_cluster scanned.piece)

    -- the last cluster with the next character, as a text
    pub scanned-long : (long : List ℕ) → cluster ≡ long ++ after → chars long ≡ last_cluster scanned.piece ++ c ∷ []
    scanned-long long is = ap chars (append_cancel_right long _ after (sym is ∙ scanned-front)) ∙ chars-encodes (last_cluster scanned.piece ++ c ∷ []) (more (last_cluster scanned.piece) scanned.scalars_cluster)

    stays-is : stays_behind last half (last_cluster scanned.piece) c ≡ stays scanned.piece c
    stays-is = ap₂ (λ l h. stays_behind l h (last_cluster scanned.piece) c) scanned.last_is scanned.half_is

    -- a character that stays
    pub scanned-more : stays_behind last half (last_cluster scanned.piece) c ≡ true → IsScanned text after (cond (attaches c) cluster rest) (is_indicator c && not half) c
    scanned-more is = record {
      piece = scanned.piece ++ c ∷ [];
      scalars_piece = more scanned.piece scanned.scalars_piece;
      scalars_cluster = rw (more-cluster scanned.piece c) (cluster_scalars (attaches c));
      whole = scanned.whole ∙ encode-more scanned.piece;
      behind_cluster = rw (more-cluster scanned.piece c) (cluster_behind (attaches c));
      half_is = ap (λ h. is_indicator c && not h) scanned.half_is ∙ sym (more-half scanned.piece c);
      last_is = sym (more-last scanned.piece c);
      pieces_are = scanned.pieces_are ∙ ap (pieces_from scanned.piece) (chars_past_char rest after c utf8 next) ∙ rw (sym stays-is ∙ is) refl;
    }
      where
        cluster_scalars : (b : Bool) → scalars (cond b (last_cluster scanned.piece ++ c ∷ []) (c ∷ [])) ≡ true
        cluster_scalars true = more (last_cluster scanned.piece) scanned.scalars_cluster
        cluster_scalars false = scalars-one c one

        cluster_behind : (b : Bool) → cond b cluster rest ≡ encode_utf8_all (cond b (last_cluster scanned.piece ++ c ∷ []) (c ∷ [])) ++ after
        cluster_behind true = scanned-front
        cluster_behind false = next ∙ ap (λ bs. bs ++ after) (sym (append-nil (encode_utf8 c)))

    -- a character that begins the next piece
    pub scanned-cut : stays_behind last half (last_cluster scanned.piece) c ≡ false → pieces_in text ≡ encode_utf8_all scanned.piece ∷ pieces_in rest
    scanned-cut is =
        let chars_are = chars_past_char rest after c utf8 next in
        let cut : pieces_from scanned.piece (c ∷ chars after) ≡ scanned.piece ∷ pieces (c ∷ chars after) = rw (sym stays-is ∙ is) refl in
        ap (map encode_utf8_all) (scanned.pieces_are ∙ ap (pieces_from scanned.piece) chars_are ∙ cut)
        ∙ ap (λ cs. encode_utf8_all scanned.piece ∷ map encode_utf8_all (pieces cs)) (sym chars_are)

  -- the last piece
  pub scanned-end : rest ≡ [] → pieces_in text ≡ encode_utf8_all scanned.piece ∷ pieces_in rest
  scanned-end none =
      let empty : chars rest ≡ [] = ap chars none ∙ chars-nil in
      ap (map encode_utf8_all) (scanned.pieces_are ∙ ap (pieces_from scanned.piece) empty) ∙ ap (λ cs. encode_utf8_all scanned.piece ∷ map encode_utf8_all (pieces cs)) (sym empty)
