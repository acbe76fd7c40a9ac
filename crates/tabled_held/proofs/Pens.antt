-- What a pen sends and draws, part after part.
use Rattle.std.proofs.Common.{[], ◌++◌, ◌∙◌, ◌∷◌, ◌≡◌, ◌<◌, ◌+◌, Err, List, None, Ok, OnErr, OnOk, Option, Result, Some, ap, ap₂, append-nil, refl, subst, suc, sym, true, zero, ℕ}
use Rattle.std.proofs.lemmas.Bool.{false≢true}
use Rattle.std.proofs.lemmas.List.{replicate-append-replicate}
use Rattle.std.proofs.lemmas.Str.{encode_ascii, encodes-append}
use Rattle.std.specs.Borrow.{MutBor}
use Rattle.std.specs.Io.KnownBytes.{Appends}
use Rattle.std.specs.Prelude.{encode_utf8, encode_utf8_all, is_some, replicate}
use Rattle.std.specs.declared.io.Error.{Error}
use Rattle.tabled_held.proofs.SentBytes.{all-sent, cut-short, grows-as, grows-failed, grows-none, grows-then}
use Rattle.tabled_held.specs.Pens.{Draws, IsDone, Sends}
use Rattle.tabled_held.specs.Sent.{GrowsBy, IsCutShort}
use Rattle.tabled_held.specs.declared.pen.Pen.{Pen}

encodes : (n c : ℕ) → c < 128 → encode_utf8_all (replicate n c) ≡ replicate n c
encodes zero c low = refl
encodes (suc n) c low = ap₂ (λ x y. x ++ y) (encode_ascii c low) (encodes n c low)

pub not-failed : {failure : Option Error} → is_some failure ≡ true → failure ≡ None → ⊥
not-failed failed works = false≢true (sym (ap is_some works) ∙ failed)

module _ {W : Type 0} {contents : W → Option (List ℕ)} where
  -- ---- bytes

  pub sends-none : {a : Pen W} → Sends contents a a []
  sends-none = record { same_writer = refl; grows = grows-none }

  pub sends-as : {a b : Pen W} {xs ys : List ℕ} → xs ≡ ys → Sends contents a b xs → Sends contents a b ys
  sends-as {a} {b} same = subst (Sends contents a b) same

  -- some bytes, and then others
  pub sends-then : {a b c : Pen W} {xs ys : List ℕ} → Sends contents a b xs → Sends contents b c ys → Sends contents a c (xs ++ ys)
  sends-then first second = record {
    same_writer = second.same_writer ∙ first.same_writer;
    grows = grows-then first.grows second.grows;
  }

  -- a pen whose writer has failed sends anything
  pub sends-failed : {a : Pen W} → is_some a.held.failure ≡ true → (bytes : List ℕ) → Sends contents a a bytes
  sends-failed {a} failed bytes = record { same_writer = refl; grows = failing a.held.failure refl failed }
    where
      failing : (failure : Option Error) → a.held.failure ≡ failure → is_some failure ≡ true → GrowsBy (contents a.writer.now) a.held (contents a.writer.now) a.held bytes
      failing None is some = cc some
      failing (Some e) is some = let told : Result (Unit {0}) Error = Err e in grows-failed (contents a.writer.now) a.held told bytes is refl

  -- what is sent where nothing was held is written, once the pen is done
  pub all-written : {T : Type 0} {a b : Pen W} {writer : MutBor W} {bytes : List ℕ} (outcome : Result T Error) → a.held.bytes ≡ [] → Sends contents a b bytes → IsDone contents b writer outcome
      → OnOk outcome (Appends (contents a.writer.now) (contents writer.now) bytes)
  all-written {T} {a} {b} {writer} {bytes} (Ok x) none sent done = all-sent (contents a.writer.now) (contents writer.now) a.held done.left bytes (grows-as (append-nil bytes) (grows-then sent.grows done.grows)) none done.empty done.told
  all-written (Err e) none sent done = tt

  -- or a writer that fails got the first of it, and not all
  pub some-written : {T : Type 0} {a b : Pen W} {writer : MutBor W} {bytes : List ℕ} (outcome : Result T Error) → a.held.bytes ≡ [] → a.held.failure ≡ None → Sends contents a b bytes → IsDone contents b writer outcome
      → OnErr outcome (IsCutShort (contents a.writer.now) (contents writer.now) bytes)
  some-written (Ok x) none works sent done = tt
  some-written {T} {a} {b} {writer} {bytes} (Err e) none works sent done = cut-short (contents a.writer.now) (contents writer.now) a.held done.left bytes e (grows-as (append-nil bytes) (grows-then sent.grows done.grows)) none works done.told

  -- a pen is done well only where its writer had not failed
  pub works-before : {T : Type 0} {b : Pen W} {writer : MutBor W} (outcome : Result T Error) → IsDone contents b writer outcome → OnOk outcome (b.held.failure ≡ None)
  works-before {T} {b} {writer} (Ok x) done = working b.held.failure refl
    where
      working : (failure : Option Error) → b.held.failure ≡ failure → b.held.failure ≡ None
      working None is = is
      working (Some e) is = absurd (differ (sym (rw is at done.grows.are).1 ∙ done.told))
        where
          differ : Some e ≡ None → ⊥
          differ same = cc
  works-before (Err e) done = tt

  -- ---- characters

  pub draws-bytes : {a b : Pen W} {bytes cs : List ℕ} → bytes ≡ encode_utf8_all cs → Sends contents a b bytes → Draws contents a b cs
  draws-bytes is sent = record { sends = sends-as is sent }

  pub draws-none : {a : Pen W} → Draws contents a a []
  draws-none = record { sends = sends-none }

  pub draws-as : {a b : Pen W} {xs ys : List ℕ} → xs ≡ ys → Draws contents a b xs → Draws contents a b ys
  draws-as {a} {b} same = subst (Draws contents a b) same

  -- some characters, and then others
  pub draws-then : {a b c : Pen W} {xs ys : List ℕ} → Draws contents a b xs → Draws contents b c ys → Draws contents a c (xs ++ ys)
  draws-then {a} {b} {c} {xs} {ys} first second = draws-bytes (sym (encodes-append xs ys)) (sends-then first.sends second.sends)

  -- characters that are drawn where nothing was held are written
  pub all-drawn : {T : Type 0} {a b : Pen W} {writer : MutBor W} {cs : List ℕ} (outcome : Result T Error) → a.held.bytes ≡ [] → Draws contents a b cs → IsDone contents b writer outcome
      → OnOk outcome (Appends (contents a.writer.now) (contents writer.now) (encode_utf8_all cs))
  all-drawn outcome none drawn done = all-written outcome none drawn.sends done

  -- or the first of their bytes, and not all
  pub some-drawn : {T : Type 0} {a b : Pen W} {writer : MutBor W} {cs : List ℕ} (outcome : Result T Error) → a.held.bytes ≡ [] → a.held.failure ≡ None → Draws contents a b cs → IsDone contents b writer outcome
      → OnErr outcome (IsCutShort (contents a.writer.now) (contents writer.now) (encode_utf8_all cs))
  some-drawn outcome none works drawn done = some-written outcome none works drawn.sends done

  -- a pen whose writer has failed draws anything
  pub draws-failed : {a : Pen W} → is_some a.held.failure ≡ true → (cs : List ℕ) → Draws contents a a cs
  draws-failed failed cs = record { sends = sends-failed failed (encode_utf8_all cs) }

  pub draws-repeat : {a b : Pen W} (n c : ℕ) → c < 128 → Sends contents a b (replicate n c) → Draws contents a b (replicate n c)
  draws-repeat n c low = draws-bytes (sym (encodes n c low))

  pub draws-byte : {a b : Pen W} (c : ℕ) → c < 128 → Sends contents a b (c ∷ []) → Draws contents a b (c ∷ [])
  draws-byte c low = draws-repeat 1 c low

-- a character of some bytes, drawn again and again
pub encodes-more : (n c : ℕ) → encode_utf8_all (replicate n c) ++ encode_utf8 c ≡ encode_utf8_all (replicate (n + 1) c)
encodes-more n c = ap (λ x. encode_utf8_all (replicate n c) ++ x) (sym (append-nil (encode_utf8 c))) ∙ sym (encodes-append (replicate n c) (c ∷ [])) ∙ ap encode_utf8_all (replicate-append-replicate n 1 c)
