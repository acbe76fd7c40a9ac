-- Bytes that are sent, one after another.
use Rattle.std.proofs.Common.{[], ◌++◌, ◌-◌, ◌∙◌, ◌∷◌, ◌≡◌, ◌≢◌, Err, List, None, Ok, OnErr, OnOk, Option, Result, Some, ap, append-nil, append_assoc, drop, false, length, refl, subst, sym, take, take-append-drop, true, ℕ}
use Rattle.std.proofs.lemmas.List.{take_rest}
use Rattle.std.specs.Result.{is_ok, result_err}
use Rattle.std.proofs.KnownBytes.{Appends-nil, Appends-trans}
use Rattle.std.specs.Io.KnownBytes.{Appends}
use Rattle.std.specs.declared.io.Error.{Error}
use Rattle.tabled_held.specs.Sent.{AreSent, GrowsBy, IsCutShort, Kept}

-- ---- what is sent of all bytes

are-none : (failure : Option Error) (bytes : List ℕ) → AreSent failure failure (bytes ++ []) [] bytes
are-none None bytes = append-nil bytes
are-none (Some e) bytes = (refl, refl)

some-append : (xs ys : List ℕ) → xs ≢ [] → xs ++ ys ≢ []
some-append [] ys some e = some refl
some-append (x ∷ xs) ys some e = cc

-- what was left of the first bytes is sent before the others
are-then : (f g h : Option Error) (first left others sent more rest : List ℕ) → AreSent f g first sent left → AreSent g h (left ++ others) more rest
    → AreSent f h (first ++ others) (sent ++ more) rest
are-then None None None first left others sent more rest a b =
    ap (λ (l : List ℕ). l ++ others) a ∙ append_assoc sent left others ∙ ap (λ (l : List ℕ). sent ++ l) b ∙ sym (append_assoc sent more rest)
are-then None None (Some e) first left others sent more rest a b = (
  b.0,
  ap (λ (l : List ℕ). l ++ others) a ∙ append_assoc sent left others ∙ ap (λ (l : List ℕ). sent ++ l) b.1 ∙ sym (append_assoc sent more b.0),
  b.2,
)
are-then None (Some e) None first left others sent more rest a b = cc b.1
are-then None (Some e) (Some d) first left others sent more rest a b = (
  a.0 ++ others,
  ap (λ (l : List ℕ). l ++ others) a.1 ∙ append_assoc sent a.0 others ∙ ap (λ (l : List ℕ). l ++ (a.0 ++ others)) (sym (append-nil sent) ∙ ap (λ (l : List ℕ). sent ++ l) (sym b.0)),
  some-append a.0 others a.2,
)
are-then (Some e) None h first left others sent more rest a b = cc a.1
are-then (Some e) (Some d) h first left others sent more rest a b = (ap (λ (l : List ℕ). l ++ more) a.0 ∙ b.0, b.1 ∙ a.1)

-- ---- what grows

pub grows-none : {a : Option (List ℕ)} {h : Kept} → GrowsBy a h a h []
grows-none {a} {h} = record { sent = []; got = Appends-nil a; are = are-none h.failure h.bytes }

pub grows-as : {a b : Option (List ℕ)} {h i : Kept} {xs ys : List ℕ} → xs ≡ ys → GrowsBy a h b i xs → GrowsBy a h b i ys
grows-as {a} {b} {h} {i} same = subst (GrowsBy a h b i) same

-- some bytes, and then others
pub grows-then : {a b c : Option (List ℕ)} {h i j : Kept} {xs ys : List ℕ} → GrowsBy a h b i xs → GrowsBy b i c j ys → GrowsBy a h c j (xs ++ ys)
grows-then {a} {b} {c} {h} {i} {j} {xs} {ys} first second = record {
  sent = first.sent ++ second.sent;
  got = Appends-trans a b c first.sent second.sent first.got second.got;
  are = subst (λ (l : List ℕ). AreSent h.failure j.failure l (first.sent ++ second.sent) j.bytes) (append_assoc h.bytes xs ys)
      (are-then h.failure i.failure j.failure (h.bytes ++ xs) i.bytes ys first.sent second.sent j.bytes first.are second.are);
}

-- a writer that has failed gets no more
pub grows-failed : {T : Type 0} (a : Option (List ℕ)) (h : Kept) (r : Result T Error) (xs : List ℕ) → h.failure ≡ result_err r → is_ok r ≡ false → GrowsBy a h a h xs
grows-failed a h (Ok x) xs is failed = cc failed
grows-failed a h (Err e) xs is failed = record { sent = []; got = Appends-nil a; are = rw is (refl, refl) }

held-are : (failure : Option Error) (all left : List ℕ) → left ≡ all → AreSent failure failure all [] left
held-are None all left is = sym is
held-are (Some e) all left is = (refl, refl)

-- bytes are held behind those that were held
pub grows-held : {a : Option (List ℕ)} (h i : Kept) (bytes : List ℕ) → i.failure ≡ h.failure → i.bytes ≡ h.bytes ++ bytes → GrowsBy a h a i bytes
grows-held {a} h i bytes same is = record { sent = []; got = Appends-nil a; are = rw same (held-are h.failure (h.bytes ++ bytes) i.bytes is) }

pub no-failure : {T : Type 0} (r : Result T Error) → is_ok r ≡ true → result_err r ≡ None
no-failure (Ok x) works = refl
no-failure (Err e) works = cc works

-- where nothing is held, bytes are written at once
pub grows-written : {T : Type 0} (a b : Option (List ℕ)) (h : Kept) (left : List ℕ) (r : Result T Error) (xs : List ℕ) → h.bytes ≡ [] → h.failure ≡ None → left ≡ [] → OnOk r (Appends a b xs)
    → OnErr r (IsCutShort a b xs) → GrowsBy a h b (record { bytes = left; failure = result_err r }) xs
grows-written a b h left (Ok x) xs unused works empty written failed = record { sent = xs; got = written; are = rw (unused, works, empty) (sym (append-nil xs)) }
grows-written a b h left (Err e) xs unused works empty written failed = record { sent = failed.sent; got = failed.got; are = rw (unused, works) (failed.unsent, failed.parts, failed.some) }

-- some of the bytes that are left are written
pub written-more : (a b c : Option (List ℕ)) (bytes sent rest : List ℕ) (count : ℕ) → bytes ≡ sent ++ rest → Appends a b sent → Appends b c (take count rest)
    → (more : List ℕ) × (bytes ≡ more ++ take (length rest - count) (drop count rest)) × Appends a c more
written-more a b c bytes sent rest count parts got more = (
  sent ++ take count rest,
  parts ∙ ap (λ (l : List ℕ). sent ++ l) (sym (take-append-drop count rest) ∙ ap (λ (l : List ℕ). take count rest ++ l) (sym (take_rest rest count))) ∙ sym (append_assoc sent (take count rest) _),
  Appends-trans a b c sent (take count rest) got more,
)

-- ---- what a writer got in the end

all-of : (f g : Option Error) (held all sent left : List ℕ) → AreSent f g (held ++ all) sent left → held ≡ [] → left ≡ [] → g ≡ None → sent ≡ all
all-of None None held all sent left are unused empty works =
    sym (append-nil sent) ∙ ap (λ (l : List ℕ). sent ++ l) (sym empty) ∙ sym are ∙ ap (λ (l : List ℕ). l ++ all) unused
all-of None (Some e) held all sent left are unused empty works = cc works
all-of (Some e) g held all sent left are unused empty works = absurd (differ (sym are.1 ∙ works))
  where
    differ : Some e ≡ None → ⊥
    differ same = cc

-- where nothing was held and nothing is, a writer that has not failed got the bytes
pub all-sent : (a b : Option (List ℕ)) (h i : Kept) (xs : List ℕ) → GrowsBy a h b i xs → h.bytes ≡ [] → i.bytes ≡ [] → i.failure ≡ None → Appends a b xs
all-sent a b h i xs grows unused empty works = subst (Appends a b) (all-of h.failure i.failure h.bytes xs grows.sent i.bytes grows.are unused empty works) grows.got

-- where nothing was held, a writer that fails got the first bytes, and not all
pub cut-short : (a b : Option (List ℕ)) (h i : Kept) (xs : List ℕ) (e : Error) → GrowsBy a h b i xs → h.bytes ≡ [] → h.failure ≡ None → i.failure ≡ Some e → IsCutShort a b xs
cut-short a b h i xs e grows unused works failed =
    let are : AreSent None (Some e) (h.bytes ++ xs) grows.sent i.bytes = rw (works, failed) at grows.are in
    record {
      sent = grows.sent;
      unsent = are.0;
      parts = ap (λ (l : List ℕ). l ++ xs) (sym unused) ∙ are.1;
      some = are.2;
      got = grows.got;
    }

-- who got the first of these bytes, and not all, got the first of more
pub cut-longer : {a b : Option (List ℕ)} {xs : List ℕ} (ys : List ℕ) → IsCutShort a b xs → IsCutShort a b (xs ++ ys)
cut-longer ys cut = record {
  sent = cut.sent;
  unsent = cut.unsent ++ ys;
  parts = ap (λ (l : List ℕ). l ++ ys) cut.parts ∙ append_assoc cut.sent cut.unsent ys;
  some = some-append cut.unsent ys cut.some;
  got = cut.got;
}
