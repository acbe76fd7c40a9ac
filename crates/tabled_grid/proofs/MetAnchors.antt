-- Anchors that are marked where another's rectangle meets theirs, from the first to the last, and what is left without them.
use Rattle.tabled_grid.proofs.Common.{[], ◌&&◌, ◌++◌, ◌+◌, ◌-◌, ◌<◌, ◌||◌, ◌∙◌, ◌∷◌, ◌≡◌, AreSorted, Bool, List, Rectangle, add-one, and_parts, and_right, ap, append-nil, ap₂, arith, common_steps, cond, drop, drop-drop, drop-set-lt, drop_all, drop_at, drop_more, elsewhere, false, filter, filter_more, fits_among, get_or, get_or_default, length, length-drop, length-replicate, length-take, lies_inside, list_all, list_any, map, meets, not, not-true, or_right, refl, replicate, set, suc, sym, take, take-add, take-append-drop, take_all, take_at, take_more, take_more_set, tied_itself, true, with_met, zero, ℕ}
use Rattle.std.proofs.Common.{append_assoc, length-append}
use Rattle.std.proofs.lemmas.List.Folds.{list_all-append, list_any_more}
use borrow.Rule.Slice.PartMut.{put_mid}
use Rattle.tabled_grid.proofs.PassedAnchors.{all_after, apart_over}
use Rattle.tabled_grid.proofs.Rectangles.{meets-turned}
use Rattle.tabled_grid.proofs.SortedEntries.{positions_total, without_found}

module _ (by : Rectangle) where
  or_false : (a b : Bool) → b ≡ false → (a || b) ≡ a
  or_false true b h = refl
  or_false false b h = h

  pub marks-over : (n : ℕ) (es : List Rectangle) (marks : List Bool) → length marks ≡ length es → list_all (λ (e : Rectangle). not (meets by e)) (take n es) ≡ true → take n marks ++ with_met by (drop n es) (drop n marks) ≡ with_met by es marks
  marks-over zero es marks long h = refl
  marks-over (suc n) [] [] long h = refl
  marks-over (suc n) [] (m ∷ marks) long h = absurd (omega (arith, long))
  marks-over (suc n) (e ∷ es) [] long h = absurd (omega (arith, long))
  marks-over (suc n) (e ∷ es) (m ∷ marks) long h =
      let parts = and_parts (not (meets by e)) (list_all (λ (f : Rectangle). not (meets by f)) (take n es)) h in
      ap₂ (λ x xs. x ∷ xs) (sym (or_false m (meets by e) (not-true _ parts.0))) (marks-over n es marks (omega (arith, long)) parts.1)

  -- the marks from the first to an index are made, and those from there on are as they were
  pub record Walked (es : List Rectangle) (old : List Bool) (k : ℕ) (marks : List Bool) (alone : Bool) : Type 0 where
    pub long : length marks ≡ length es
    pub marked : take k marks ++ with_met by (drop k es) (drop k marks) ≡ with_met by es old
    pub all : (alone && list_all (λ (e : Rectangle). not (meets by e)) (drop k es)) ≡ list_all (λ (e : Rectangle). not (meets by e)) es

  module _ (es : List Rectangle) (old : List Bool) (k : ℕ) (marks : List Bool) (alone : Bool) (d : Rectangle) where
    at_mark : k < length es → Walked es old k marks alone → with_met by (drop k es) (drop k marks) ≡ (get_or marks k false || meets by (get_or es k d)) ∷ with_met by (drop (k + 1) es) (drop (k + 1) marks)
    at_mark here walked = let within : k < length marks = omega (arith, walked.long) in ap₂ (with_met by) (drop_more es k d here) (drop_more marks k false within)

    pub walked-met : k < length es → meets by (get_or es k d) ≡ true → length (set marks k true) ≡ length marks → Walked es old k marks alone → Walked es old (k + 1) (set marks k true) false
    walked-met here met same walked = grind (arith, common_steps, take_more_set, drop-set-lt, append_assoc, or_right, at_mark, and_right, drop_more)

    pub walked-out : (n : ℕ) → k < length es → meets by (get_or es k d) ≡ false → list_all (λ (e : Rectangle). not (meets by e)) (take n (take (length es - (k + 1)) (drop (k + 1) es))) ≡ true → Walked es old k marks alone → Walked es old (k + (1 + n)) marks alone
    walked-out n here out free walked =
        let within : k < length marks = omega (arith, walked.long) in
        let sum : (k + 1) + n ≡ k + (1 + n) = omega arith in
        let same : length (drop (k + 1) marks) ≡ length (drop (k + 1) es) = omega (arith, walked.long, length-drop (k + 1) marks, length-drop (k + 1) es) in
        let rest = marks-over n (drop (k + 1) es) (drop (k + 1) marks) same (ap (λ fs. list_all (λ (e : Rectangle). not (meets by e)) (take n fs)) (sym (all_after es k)) ∙ free) in
        record {
          long = walked.long;
          marked = ap (λ m. take m marks ++ with_met by (drop m es) (drop m marks)) (sym sum)
              ∙ ap₂ (λ xs ys. xs ++ ys) (take-add (k + 1) n marks) (ap₂ (with_met by) (sym (drop-drop n (k + 1) es)) (sym (drop-drop n (k + 1) marks)))
              ∙ append_assoc (take (k + 1) marks) (take n (drop (k + 1) marks)) _
              ∙ ap₂ (λ xs ys. xs ++ ys) (take_more marks k false within) rest
              ∙ append_assoc (take k marks) (get_or marks k false ∷ []) _
              ∙ ap (λ m. take k marks ++ m ∷ with_met by (drop (k + 1) es) (drop (k + 1) marks)) (sym (or_false (get_or marks k false) _ out))
              ∙ ap (λ xs. take k marks ++ xs) (sym (at_mark here walked))
              ∙ walked.marked;
          all = ap (λ b. alone && b) (apart_over by es k n d (list_all (λ (e : Rectangle). not (meets by e)) (drop k es)) here out free refl) ∙ walked.all;
        }

  pub walked-all : (es : List Rectangle) (old : List Bool) (k : ℕ) (marks : List Bool) (alone : Bool) → list_all (λ (e : Rectangle). not (meets by e)) (drop k es) ≡ true → Walked es old k marks alone → (alone ≡ list_all (λ (e : Rectangle). not (meets by e)) es) × (marks ≡ with_met by es old)
  walked-all es old k marks alone free walked =
      let same : length (drop k marks) ≡ length (drop k es) = omega (arith, walked.long, length-drop k marks, length-drop k es) in
      (sym (unless alone) ∙ ap (λ b. alone && b) (sym free) ∙ walked.all, sym (take-append-drop k marks) ∙ ap (λ xs. take k marks ++ xs) (sym (none (drop k es) (drop k marks) same free)) ∙ walked.marked)
    where
      unless : (a : Bool) → (a && true) ≡ a
      unless true = refl
      unless false = refl

      none : (fs : List Rectangle) (ms : List Bool) → length ms ≡ length fs → list_all (λ (e : Rectangle). not (meets by e)) fs ≡ true → with_met by fs ms ≡ ms
      none [] ms long h = refl
      none (f ∷ fs) [] long h = refl
      none (f ∷ fs) (m ∷ ms) long h =
          let parts = and_parts (not (meets by f)) (list_all (λ (g : Rectangle). not (meets by g)) fs) h in
          ap₂ (λ x xs. x ∷ xs) (or_false m (meets by f) (not-true _ parts.0)) (none fs ms (omega (arith, long)) parts.1)

  pub marks-map : (t u : Rectangle → Bool) → ((e : Rectangle) → (t e || meets by e) ≡ u e) → (es : List Rectangle) → with_met by es (map t es) ≡ map u es
  marks-map t u more [] = refl
  marks-map t u more (e ∷ es) = ap₂ (λ x xs. x ∷ xs) (more e) (marks-map t u more es)

-- the marks from an index on are written anew, as a slice of a vector
marks-written : (i len : ℕ) (old new rest : List Bool) → i < length old → len ≡ length old → length new ≡ length old - (i + 1) → (length (take len (put_mid (i + 1) (length old - (i + 1)) old new ++ rest)) ≡ length old) × (drop (i + 1) (take len (put_mid (i + 1) (length old - (i + 1)) old new ++ rest)) ≡ new)
marks-written i len old new rest here full long = grind (arith, common_steps, drop_all, length-drop, append-nil, length-take, length-append, take_at, drop_at)

-- no rectangle of a list is met just where none meets it
unmet-turned : (e : Rectangle) (fs : List Rectangle) → list_all (λ (f : Rectangle). not (meets e f)) fs ≡ not (list_any (λ (f : Rectangle). meets f e) fs)
unmet-turned e [] = refl
unmet-turned e (f ∷ fs) = ap₂ (λ a b. not a && b) (meets-turned e f) (unmet-turned e fs) ∙ neither (meets f e) (list_any (λ (g : Rectangle). meets g e) fs)
  where
    neither : (a b : Bool) → (not a && not b) ≡ not (a || b)
    neither true b = refl
    neither false b = refl

module _ (rows columns : ℕ) (es : List Rectangle) where
  -- a rectangle fits among the others of the list
  abbrev fits : Rectangle → Bool
  fits e = fits_among rows columns (elsewhere e.first es) e

  -- those before an index that fit are kept, and those from there on are marked that one before the index meets
  pub record KeepsFittingBefore (i : ℕ) (kept : List Rectangle) (marks : List Bool) : Type 0 where
    pub long : length marks ≡ length es
    pub fit : kept ≡ filter fits (take i es)
    pub met : drop i marks ≡ map (λ (e : Rectangle). list_any (λ (f : Rectangle). meets f e) (take i es)) (drop i es)

  none_met : (fs : List Rectangle) → replicate (length fs) false ≡ map (λ (e : Rectangle). false) fs
  none_met [] = refl
  none_met (f ∷ fs) = ap (λ ms. false ∷ ms) (none_met fs)

  pub kept-none : (marks : List Bool) → marks ≡ replicate (length es) false → KeepsFittingBefore 0 [] marks
  kept-none marks is = record { long = ap length is ∙ length-replicate (length es) false; fit = refl; met = is ∙ none_met es }

  module _ (i : ℕ) (d : Rectangle) (here : i < length es) (kept : List Rectangle) (marks : List Bool) (so : KeepsFittingBefore i kept marks) where
    heads : (get_or marks i false ≡ list_any (λ (f : Rectangle). meets f (get_or es i d)) (take i es)) × (drop (i + 1) marks ≡ map (λ (e : Rectangle). list_any (λ (f : Rectangle). meets f e) (take i es)) (drop (i + 1) es))
    heads =
        let within : i < length marks = omega (arith, so.long) in
        parts _ _ _ _ (sym (drop_more marks i false within) ∙ so.met ∙ ap (map (λ (e : Rectangle). list_any (λ (f : Rectangle). meets f e) (take i es))) (drop_more es i d here))
      where
        parts : (x y : Bool) (xs ys : List Bool) → x ∷ xs ≡ y ∷ ys → (x ≡ y) × (xs ≡ ys)
        parts x y xs ys same = (cc, cc)

    fits-here : AreSorted es → fits (get_or es i d) ≡ (lies_inside rows columns (get_or es i d) && (not (get_or marks i false) && list_all (λ (f : Rectangle). not (meets (get_or es i d) f)) (drop (i + 1) es)))
    fits-here up =
        let e = get_or es i d in
        let unmet = λ (f : Rectangle). not (meets e f) in
        ap (λ b. lies_inside rows columns e && b)
        (ap (list_all unmet) (without_found es e.first i d up here (tied_itself positions_total e.first) ∙ ap (λ n. take i es ++ drop n es) (sym (add-one i))) ∙ list_all-append unmet (take i es) (drop (i + 1) es)
        ∙ ap (λ b. b && list_all unmet (drop (i + 1) es)) (unmet-turned e (take i es) ∙ ap not (sym heads.0)))

    -- the marks, of which those after the index are written anew as a slice, and the anchor at the index if it fits
    pub kept-more : AreSorted es → (now new rest : List Bool) (len : ℕ) (newer : List Rectangle) (alone met unset : Bool) → now ≡ marks → len ≡ length now → length new ≡ length (take (length now - (i + 1)) (drop (i + 1) now)) →
        new ≡ with_met (get_or es i d) (take (length es - (i + 1)) (drop (i + 1) es)) (take (length now - (i + 1)) (drop (i + 1) now)) →
        alone ≡ list_all (λ (f : Rectangle). not (meets (get_or es i d) f)) (take (length es - (i + 1)) (drop (i + 1) es)) → met ≡ get_or marks i unset →
        newer ≡ cond ((alone && not met) && lies_inside rows columns (get_or es i d)) (kept ++ get_or es i d ∷ []) kept → KeepsFittingBefore (i + 1) newer (take len (put_mid (i + 1) (length now - (i + 1)) now new ++ rest))
    kept-more up now new rest len newer alone met unset same full long new_is alone_is met_is newer_is =
        let e = get_or es i d in
        let within : i < length now = omega (arith, so.long, ap length same) in
        let before_all : i < length marks = omega (arith, so.long) in
        let few : length new ≡ length now - (i + 1) = omega (arith, long, length-take (length now - (i + 1)) (drop (i + 1) now), length-drop (i + 1) now) in
        let written = marks-written i len now new rest within full few in
        let after : take (length now - (i + 1)) (drop (i + 1) now) ≡ drop (i + 1) marks = take_all (length now - (i + 1)) (drop (i + 1) now) (omega (arith, length-drop (i + 1) now)) ∙ ap (drop (i + 1)) same in
        record {
          long = written.0 ∙ ap length same ∙ so.long;
          fit = newer_is ∙ chosen ((alone && not met) && lies_inside rows columns e)
              ∙ ap₂ (λ ks b. ks ++ cond b (e ∷ []) []) so.fit
              (turned alone (not met) (lies_inside rows columns e) ∙ ap (λ b. lies_inside rows columns e && b) (ap₂ (λ a b. not a && b) (met_is ∙ get_or_default marks i unset false before_all) (alone_is ∙ ap (list_all (λ (f : Rectangle). not (meets e f))) (all_after es i))) ∙ sym (fits-here up))
              ∙ sym (filter_more fits es i d here);
          met = written.1 ∙ new_is ∙ ap₂ (with_met e) (all_after es i) (after ∙ heads.1)
              ∙ marks-map e _ _ (λ f. sym (list_any_more (λ (g : Rectangle). meets g f) es i d here)) (drop (i + 1) es);
        }
      where
        chosen : (b : Bool) → cond b (kept ++ get_or es i d ∷ []) kept ≡ kept ++ cond b (get_or es i d ∷ []) []
        chosen true = refl
        chosen false = sym (append-nil kept)

        turned : (a b c : Bool) → ((a && b) && c) ≡ (c && (b && a))
        turned true true true = refl
        turned true false true = refl
        turned true true false = refl
        turned true false false = refl
        turned false true true = refl
        turned false false true = refl
        turned false b false = refl
