-- The widest word of a plain text, byte by byte.
use Rattle.std.proofs.Common.{◌+◌, ◌<◌, ◌==◌, ◌∙◌, ◌≡◌, ◌≤◌, ◌||◌, Bool, List, ap, arith, cond, drop, false, get_or, length, max, ne_eqb, refl, sym, true, ℕ}
use Rattle.std.proofs.lemmas.List.{drop_all, drop_more}
use Rattle.std.specs.Str.{chars}
use Rattle.tabled_width.proofs.PlainPieces.{plain-pieces, plain-width, singles}
use Rattle.tabled_width.proofs.Spaces.{widest-words, widest_from}
use Rattle.tabled_width.specs.Pieces.{pieces, widest_word}
use Rattle.tabled_width.specs.Plain.{ArePlain}

module _ (bs : List ℕ) (k most columns : ℕ) (all : ArePlain bs) where
  -- a blank ends a word, and any other character is one column of it
  widest-next : k < length bs → widest_from most columns (singles (drop k bs)) ≡ cond (get_or bs k 0 == 32) (widest_from (max most columns) 0 (singles (drop (k + 1) bs))) (widest_from most (columns + 1) (singles (drop (k + 1) bs)))
  widest-next less =
      let h = all k 0 less in
      ap (λ xs. widest_from most columns (singles xs)) (drop_more bs k 0 less) ∙ (rw (ne_eqb (get_or bs k 0) 10 (λ e. omega (arith, e, h.0)), plain-width (get_or bs k 0) h) (no_newline (get_or bs k 0 == 32) _ _))
    where
      no_newline : (b : Bool) (x y : ℕ) → cond (b || false) x y ≡ cond b x y
      no_newline true x y = refl
      no_newline false x y = refl

  pub blank-next : k < length bs → (get_or bs k 0 == 32) ≡ true → widest_from (max most columns) 0 (singles (drop (k + 1) bs)) ≡ widest_from most columns (singles (drop k bs))
  blank-next less is = sym (widest-next less ∙ (rw is refl))

  pub letter-next : k < length bs → (get_or bs k 0 == 32) ≡ false → widest_from most (columns + 1) (singles (drop (k + 1) bs)) ≡ widest_from most columns (singles (drop k bs))
  letter-next less other = sym (widest-next less ∙ (rw other refl))

  pub widest-last : length bs ≤ k → widest_from most columns (singles (drop k bs)) ≡ widest_from 0 0 (singles bs) → max most columns ≡ widest_word (chars bs)
  widest-last le is =
      ap (λ xs. widest_from most columns (singles xs)) (sym (drop_all k bs le)) ∙ is ∙ ap (widest_from 0 0) (sym (plain-pieces bs all)) ∙ widest-words (pieces (chars bs))
