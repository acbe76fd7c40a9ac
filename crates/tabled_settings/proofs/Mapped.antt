-- Answers that are made of the old text alone.
use Rattle.tabled_settings.proofs.Common.{[], ◌∙◌, ◌∷◌, ◌≡◌, ◌⊎◌, AnswersInTurn, Asking, Bool, Entity, FirstWrites, Grid, List, Option, Position, RewritesAt, RewritesUntil, Write, ap, ap₂, charset_writes, false, false≢true, inl, inr, inside, is_set, length-map, map, mapped_writes, recoded, refl, sym, take, take-map, text_at, true, with_writes, wrap_writes, wrapped, ℕ}
use Rattle.tabled_settings.specs.Replaced.{replace_writes, replaced_text}
use Rattle.tabled_settings.specs.Truncates.{truncate_writes, truncated}
use Rattle.tabled_settings.specs.declared.replace.Replace.{Replace}
use Rattle.tabled_settings.specs.declared.width.truncate.Truncate.{Truncate}

module _ {S : Type 0} (asks : Asking S) (s : S) (f : List ℕ → List ℕ) (says : (p : Position) (old new : List ℕ) (t : S) → asks s p old new t → (t ≡ s) × (new ≡ f old)) (g : Grid (List ℕ)) where
  writes-are : (writes : List Write) (last : S) → AnswersInTurn asks s g writes last → writes ≡ mapped_writes f g (map (λ (w : Write). w.place) writes)
  writes-are [] last a = refl
  writes-are (w ∷ writes) last a =
      let said = says w.place (text_at g w.place) w.text a.0 a.1 in
      ap₂ (λ (text : List ℕ) (rest : List Write). record { place = w.place; text = text } ∷ rest) said.1 (writes-are writes last (rw said.0 at a.2))

  pub mapped-all : (places : List Position) (h : Grid (List ℕ)) → RewritesAt asks s places g h → h ≡ with_writes (mapped_writes f g places) g
  mapped-all places h r = r.is ∙ ap (λ writes. with_writes writes g) (writes-are r.writes r.last r.answers ∙ ap (mapped_writes f g) r.at)

  pub mapped-until : (places : List Position) (h : Grid (List ℕ)) → RewritesUntil asks s places g h → FirstWrites (mapped_writes f g places) g h
  mapped-until places h r =
      let one : Position → Write = λ p. record { place = p; text = f (text_at g p) } in
      record { count = r.count; within = rw (length-map places one) r.within; is = mapped-all (take r.count places) h r.before ∙ ap (λ writes. with_writes writes g) (sym (take-map one r.count places)) }

-- what is asked of a charset
abbrev pub RecodedAsks : Asking (Bool × Option ℕ)
RecodedAsks s p old new t = (t ≡ s) × (new ≡ recoded s old)

pub charset-all : (s : Bool × Option ℕ) (e : Entity) (g h : Grid (List ℕ)) → is_set s ≡ true → RewritesAt RecodedAsks s (inside e g.rows g.columns) g h → h ≡ with_writes (charset_writes s e g) g
charset-all s e g h set r = rw set (mapped-all RecodedAsks s (recoded s) (λ p old new t a. a) g (inside e g.rows g.columns) h r)

pub charset-until : (s : Bool × Option ℕ) (e : Entity) (g h : Grid (List ℕ)) → is_set s ≡ true → RewritesUntil RecodedAsks s (inside e g.rows g.columns) g h → FirstWrites (charset_writes s e g) g h
charset-until s e g h set r = rw set (mapped-until RecodedAsks s (recoded s) (λ p old new t a. a) g (inside e g.rows g.columns) h r)

pub not_unset : {Q : Type 0} (s : Bool × Option ℕ) → is_set s ≡ true → (is_set s ≡ false) ⊎ Q → Q
not_unset s set (inl unset) = absurd (false≢true (sym unset ∙ set))
not_unset s set (inr q) = q

-- what is asked of a wrap
abbrev pub WrappedAsks : Asking (ℕ × Bool)
WrappedAsks s p old new t = (t ≡ s) × (new ≡ wrapped s old)

pub wrap-all : (s : ℕ × Bool) (e : Entity) (g h : Grid (List ℕ)) → RewritesAt WrappedAsks s (inside e g.rows g.columns) g h → h ≡ with_writes (wrap_writes s e g) g
wrap-all s e g h r = mapped-all WrappedAsks s (wrapped s) (λ p old new t a. a) g (inside e g.rows g.columns) h r

pub wrap-until : (s : ℕ × Bool) (e : Entity) (g h : Grid (List ℕ)) → RewritesUntil WrappedAsks s (inside e g.rows g.columns) g h → FirstWrites (wrap_writes s e g) g h
wrap-until s e g h r = mapped-until WrappedAsks s (wrapped s) (λ p old new t a. a) g (inside e g.rows g.columns) h r

-- what is asked of a cut of lines
abbrev pub TruncatedAsks : Asking Truncate
TruncatedAsks s p old new t = (t ≡ s) × (new ≡ truncated s.width s.suffix.now old)

pub truncate-all : (s : Truncate) (e : Entity) (g h : Grid (List ℕ)) → RewritesAt TruncatedAsks s (inside e g.rows g.columns) g h → h ≡ with_writes (truncate_writes s.width s.suffix.now e g) g
truncate-all s e g h r = mapped-all TruncatedAsks s (truncated s.width s.suffix.now) (λ p old new t a. a) g (inside e g.rows g.columns) h r

pub truncate-until : (s : Truncate) (e : Entity) (g h : Grid (List ℕ)) → RewritesUntil TruncatedAsks s (inside e g.rows g.columns) g h → FirstWrites (truncate_writes s.width s.suffix.now e g) g h
truncate-until s e g h r = mapped-until TruncatedAsks s (truncated s.width s.suffix.now) (λ p old new t a. a) g (inside e g.rows g.columns) h r

-- what is asked of a replacement
abbrev pub ReplacedAsks : Asking Replace
ReplacedAsks s p old new t = (t ≡ s) × (new ≡ replaced_text s.from.now s.to.now old)

pub replace-all : (s : Replace) (e : Entity) (g h : Grid (List ℕ)) → RewritesAt ReplacedAsks s (inside e g.rows g.columns) g h → h ≡ with_writes (replace_writes s.from.now s.to.now e g) g
replace-all s e g h r = mapped-all ReplacedAsks s (replaced_text s.from.now s.to.now) (λ p old new t a. a) g (inside e g.rows g.columns) h r

pub replace-until : (s : Replace) (e : Entity) (g h : Grid (List ℕ)) → RewritesUntil ReplacedAsks s (inside e g.rows g.columns) g h → FirstWrites (replace_writes s.from.now s.to.now e g) g h
replace-until s e g h r = mapped-until ReplacedAsks s (replaced_text s.from.now s.to.now) (λ p old new t a. a) g (inside e g.rows g.columns) h r
