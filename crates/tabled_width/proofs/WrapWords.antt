-- A text that is wrapped between words has these in order, each that fits in a line as it was.
use Rattle.std.proofs.Common.{[], ◌++◌, ◌+◌, ◌∙◌, ◌∷◌, ◌≡◌, ◌≤◌, ◌⊎◌, Bool, List, None, Option, Some, ap, append-nil, append_assoc, arith, cond, false, flat_map, inl, inr, length, nat_le, not, refl, subst, sym, true, unwrap_or, ℕ}
use Rattle.std.proofs.lemmas.Bool.{cases_Bool, false≢true}
use Rattle.std.proofs.lemmas.List.Sums.{sum_by-cons}
use Rattle.std.specs.List.{concat, onto_first, slice_split}
use Rattle.tabled_width.proofs.Spaces.{just-is}
use Rattle.tabled_width.proofs.WrapFacts.{placed-cases, turns}
use Rattle.tabled_width.proofs.WrapLines.{blank_width, first_onto, first_part, in_parts, other_parts, put-text}
use Rattle.tabled_width.specs.Columns.{text_width}
use Rattle.tabled_width.specs.Pieces.{columns_in, is_just, is_space, pieces, words}
use Rattle.tabled_width.specs.WrapLaws.{AreSpaced, BeginsGap, IsParted, KeepsWords, is_gap}
use Rattle.tabled_width.specs.WrapSteps.{begins_word, first_word, put_from, word_fits}
use Rattle.tabled_width.specs.Wraps.{fits, wrapped_characters}
use borrow.Author.Tests.{le-leb, leb-true}

-- ---- a word in parts

-- the parts of a word of which the first has begun
abbrev parts_from : ℕ → List ℕ → ℕ → List (List ℕ) → List (List ℕ)
parts_from n cur used [] = cur ∷ []
parts_from n cur used (p ∷ ps) = cond (nat_le (used + text_width p) n) (parts_from n (cur ++ p) (used + text_width p) ps) (cur ∷ parts_from n p (text_width p) ps)

abbrev parts_of : ℕ → List (List ℕ) → List (List ℕ)
parts_of n [] = []
parts_of n (p ∷ ps) = parts_from n p (text_width p) ps

parts-whole : (n : ℕ) (cur : List ℕ) (used : ℕ) (ps : List (List ℕ)) → concat (parts_from n cur used ps) ≡ cur ++ concat ps
parts-whole n cur used [] = refl
parts-whole n cur used (p ∷ ps) = whole-next (nat_le (used + text_width p) n) (parts-whole n (cur ++ p) (used + text_width p) ps) (parts-whole n p (text_width p) ps)
  where
    whole-next : (b : Bool) → concat (parts_from n (cur ++ p) (used + text_width p) ps) ≡ (cur ++ p) ++ concat ps → concat (parts_from n p (text_width p) ps) ≡ p ++ concat ps → concat (cond b (parts_from n (cur ++ p) (used + text_width p) ps) (cur ∷ parts_from n p (text_width p) ps)) ≡ cur ++ (p ++ concat ps)
    whole-next true more rest = more ∙ append_assoc cur p (concat ps)
    whole-next false more rest = ap (λ xs. cur ++ xs) rest

parts-one : (n : ℕ) (cur : List ℕ) (used : ℕ) (ps : List (List ℕ)) → used + columns_in ps ≤ n → parts_from n cur used ps ≡ (cur ++ concat ps) ∷ []
parts-one n cur used [] fit = ap (λ xs. xs ∷ []) (sym (append-nil cur))
parts-one n cur used (p ∷ ps) fit =
    let columns : used + (text_width p + columns_in ps) ≤ n = rw (sum_by-cons text_width p ps) at fit in
    rw (le-leb (used + text_width p) n (omega (arith, columns))) (parts-one n (cur ++ p) (used + text_width p) ps (omega (arith, columns)) ∙ ap (λ xs. xs ∷ []) (append_assoc cur p (concat ps)))

is-parted : (n : ℕ) (word : List (List ℕ)) → 1 ≤ length word → IsParted n word (parts_of n word)
is-parted n [] some = absurd (omega (arith, some))
is-parted n (p ∷ ps) some = record { whole = parts-whole n p (text_width p) ps; one = λ fit. parts-one n p (text_width p) ps (rw (sum_by-cons text_width p ps) at fit) }

-- ---- the words of pieces

abbrev split : List (List ℕ) → List (List (List ℕ))
split ps = slice_split is_space ps

abbrev all_parts : ℕ → List (List (List ℕ)) → List (List ℕ)
all_parts n ws = flat_map (parts_of n) ws

first-is : (ps : List (List ℕ)) → first_word ps ≡ first_part (split ps)
first-is [] = refl
first-is (p ∷ ps) = first-next (is_space p) (first-is ps)
  where
    first-next : (b : Bool) → first_word ps ≡ first_part (split ps) → cond b [] (p ∷ first_word ps) ≡ first_part (cond b ([] ∷ split ps) (onto_first p (split ps)))
    first-next true e = refl
    first-next false e = ap (λ ws. p ∷ ws) e ∙ sym (first_onto p (split ps))

-- where no word comes first, the first is empty
none-first : (ps : List (List ℕ)) → begins_word ps ≡ false → first_part (split ps) ≡ []
none-first [] h = refl
none-first (p ∷ ps) h = none-next (is_space p) h
  where
    none-next : (b : Bool) → not b ≡ false → first_part (cond b ([] ∷ split ps) (onto_first p (split ps))) ≡ []
    none-next true h = refl
    none-next false h = absurd (false≢true (sym h))

-- ---- spaced

gap-more : (c : ℕ) → is_gap c ≡ true → (parts : List (List ℕ)) (cs : List ℕ) → AreSpaced parts cs → AreSpaced parts (c ∷ cs)
gap-more c g [] cs h = rw g h
gap-more c g (part ∷ parts) cs h = (c ∷ h.0, h.1, rw g h.2, ap (λ xs. c ∷ xs) h.3, h.4, h.5)

-- a part, and a gap with what comes behind it
part-gap : (part : List ℕ) (parts : List (List ℕ)) (c : ℕ) (cs : List ℕ) → is_gap c ≡ true → AreSpaced parts cs → AreSpaced (part ∷ parts) (part ++ c ∷ cs)
part-gap part parts c cs g h = ([], c ∷ cs, refl, refl, begins parts, gap-more c g parts cs h)
  where
    begins : (parts : List (List ℕ)) → BeginsGap parts (c ∷ cs)
    begins [] = tt
    begins (q ∷ parts) = (c, cs, refl, g)

part-end : (part : List ℕ) → AreSpaced (part ∷ []) (part ++ [])
part-end part = ([], [], refl, refl, tt, refl)

-- ---- what is put

-- a line in which nothing stands, or in which the first word fits
abbrev HasRoom : ℕ → Option ℕ → List (List ℕ) → Type 0
HasRoom n None ps = Unit {0}
HasRoom n (Some used) ps = used + columns_in (first_part (split ps)) ≤ n

record Claims (n : ℕ) (ps : List (List ℕ)) : Type 0 where
  begun : (cur : List ℕ) (used : ℕ) → AreSpaced (parts_from n cur used (first_part (split ps)) ++ all_parts n (other_parts (split ps))) (cur ++ put_from n true (Some used) ps)
  fresh : (used : Option ℕ) → HasRoom n used ps → AreSpaced (all_parts n (split ps)) (put_from n true used ps)

onto-parts : (p : List ℕ) (ws : List (List (List ℕ))) → onto_first p ws ≡ (p ∷ first_part ws) ∷ other_parts ws
onto-parts p [] = refl
onto-parts p (w ∷ ws) = refl

not_false : (b : Bool) → not b ≡ false → b ≡ true
not_false true h = refl
not_false false h = absurd (false≢true (sym h))

-- a blank that doesn't turn the line, and the first word behind it, fit
blank-fits : (n : ℕ) (used : Option ℕ) (ps : List (List ℕ)) → turns n true used (32 ∷ []) ps ≡ false → unwrap_or used 0 + text_width (32 ∷ []) + columns_in (first_part (split ps)) ≤ n
blank-fits n used ps h =
    let fit = leb-true (unwrap_or used 0 + 1 + columns_in (first_word ps)) n (not_false (word_fits n used ps) h) in
    omega (arith, fit, blank_width, ap columns_in (first-is ps))

over-fits : (n used columns : ℕ) → used + columns ≤ n → fits n (Some used) columns ≡ false → ⊥
over-fits n used columns h over = false≢true (sym over ∙ le-leb (used + columns) n h)

module _ (n : ℕ) (p : List ℕ) (ps : List (List ℕ)) (more : Claims n ps) where
  words-behind : all_parts n (split ps) ≡ parts_of n (first_part (split ps)) ++ all_parts n (other_parts (split ps))
  words-behind = ap (all_parts n) (in_parts is_space ps)

  -- a piece of a word
  word-split : is_just 32 p ≡ false → is_just 10 p ≡ false → split (p ∷ ps) ≡ (p ∷ first_part (split ps)) ∷ other_parts (split ps)
  word-split blank newline =
      let apart : is_space p ≡ false = rw (blank, newline) refl in
      (let e : split (p ∷ ps) ≡ onto_first p (split ps) = rw apart refl in e) ∙ onto-parts p (split ps)

  abbrev Begun : List ℕ → ℕ → List (List (List ℕ)) → List ℕ → Type 0
  Begun cur used ws cs = AreSpaced (parts_from n cur used (first_part ws) ++ all_parts n (other_parts ws)) (cur ++ cs)

  begun-step : (cur : List ℕ) (used : ℕ) → Begun cur used (split (p ∷ ps)) (put_from n true (Some used) (p ∷ ps))
  begun-step cur used = placed-cases n true (Some used) p ps (Begun cur used (split (p ∷ ps))) ends turn goes fit next
    where
      ends : p ≡ 10 ∷ [] → Begun cur used (split (p ∷ ps)) (10 ∷ put_from n true None ps)
      ends is = rw is (part-gap cur (all_parts n (split ps)) 10 (put_from n true None ps) refl (more.fresh None tt))

      turn : p ≡ 32 ∷ [] → Begun cur used (split (p ∷ ps)) (10 ∷ put_from n true None ps)
      turn is = rw is (part-gap cur (all_parts n (split ps)) 10 (put_from n true None ps) refl (more.fresh None tt))

      goes : p ≡ 32 ∷ [] → begins_word ps ≡ false → Begun cur used (split (p ∷ ps)) (put_from n true (Some used) ps)
      goes is none =
          let first = none-first ps none in
          let all : all_parts n (split ps) ≡ all_parts n (other_parts (split ps)) = words-behind ∙ ap (λ w. parts_of n w ++ all_parts n (other_parts (split ps))) first in
          let same : AreSpaced (cur ∷ all_parts n (other_parts (split ps))) (cur ++ put_from n true (Some used) ps) = subst (λ w. AreSpaced (parts_from n cur used w ++ all_parts n (other_parts (split ps))) (cur ++ put_from n true (Some used) ps)) first (more.begun cur used) in
          rw is (subst (λ qs. AreSpaced (cur ∷ qs) (cur ++ put_from n true (Some used) ps)) (sym all) same)

      fit : is_just 10 p ≡ false → turns n true (Some used) p ps ≡ false → fits n (Some used) (text_width p) ≡ true → Begun cur used (split (p ∷ ps)) (p ++ put_from n true (Some (used + text_width p)) ps)
      fit apart stays_in is = fit-next (cases_Bool (is_just 32 p))
        where
          fit-next : (is_just 32 p ≡ true) ⊎ (is_just 32 p ≡ false) → Begun cur used (split (p ∷ ps)) (p ++ put_from n true (Some (used + text_width p)) ps)
          fit-next (inl blank) =
              let e = just-is 32 p blank in
              let room = blank-fits n (Some used) ps (subst (λ q. turns n true (Some used) q ps ≡ false) e stays_in) in
              rw e (part-gap cur (all_parts n (split ps)) 32 (put_from n true (Some (used + text_width (32 ∷ []))) ps) refl (more.fresh (Some (used + text_width (32 ∷ []))) room))
          fit-next (inr word) =
              subst (λ ws. Begun cur used ws (p ++ put_from n true (Some (used + text_width p)) ps)) (sym (word-split word apart))
              (rw is (subst (AreSpaced (parts_from n (cur ++ p) (used + text_width p) (first_part (split ps)) ++ all_parts n (other_parts (split ps)))) (append_assoc cur p (put_from n true (Some (used + text_width p)) ps)) (more.begun (cur ++ p) (used + text_width p))))

      next : is_just 10 p ≡ false → turns n true (Some used) p ps ≡ false → fits n (Some used) (text_width p) ≡ false → Begun cur used (split (p ∷ ps)) (10 ∷ (p ++ put_from n true (Some (text_width p)) ps))
      next apart stays_in over = begun-next (cases_Bool (is_just 32 p))
        where
          begun-next : (is_just 32 p ≡ true) ⊎ (is_just 32 p ≡ false) → Begun cur used (split (p ∷ ps)) (10 ∷ (p ++ put_from n true (Some (text_width p)) ps))
          begun-next (inl blank) =
              let e = just-is 32 p blank in
              let room = blank-fits n (Some used) ps (subst (λ q. turns n true (Some used) q ps ≡ false) e stays_in) in
              absurd (over-fits n used (text_width (32 ∷ [])) (omega (arith, room)) (ap (λ q. fits n (Some used) (text_width q)) (sym e) ∙ over))
          begun-next (inr word) =
              subst (λ ws. Begun cur used ws (10 ∷ (p ++ put_from n true (Some (text_width p)) ps))) (sym (word-split word apart))
              (rw over (part-gap cur (parts_from n p (text_width p) (first_part (split ps)) ++ all_parts n (other_parts (split ps))) 10 (p ++ put_from n true (Some (text_width p)) ps) refl (more.begun p (text_width p))))

  abbrev Fresh : List (List (List ℕ)) → List ℕ → Type 0
  Fresh ws cs = AreSpaced (all_parts n ws) cs

  -- a word that begins
  word-begins : (used : Option ℕ) → HasRoom n used (p ∷ ps) → is_just 32 p ≡ false → is_just 10 p ≡ false → AreSpaced (parts_of n (p ∷ first_part (split ps)) ++ all_parts n (other_parts (split ps))) (p ++ put_from n true (Some (unwrap_or used 0 + text_width p)) ps)
  word-begins None room word apart =
      let e : 0 + text_width p ≡ text_width p = omega arith in
      subst (λ k. AreSpaced (parts_from n p k (first_part (split ps)) ++ all_parts n (other_parts (split ps))) (p ++ put_from n true (Some (0 + text_width p)) ps)) e (more.begun p (0 + text_width p))
  word-begins (Some used) room word apart =
      let columns : used + (text_width p + columns_in (first_part (split ps))) ≤ n = subst (λ k. used + k ≤ n) (ap columns_in (ap first_part (word-split word apart)) ∙ sum_by-cons text_width p (first_part (split ps))) room in
      let here : parts_from n p (used + text_width p) (first_part (split ps)) ≡ parts_from n p (text_width p) (first_part (split ps)) = parts-one n p (used + text_width p) (first_part (split ps)) (omega (arith, columns)) ∙ sym (parts-one n p (text_width p) (first_part (split ps)) (omega (arith, columns))) in
      subst (λ qs. AreSpaced (qs ++ all_parts n (other_parts (split ps))) (p ++ put_from n true (Some (used + text_width p)) ps)) here (more.begun p (used + text_width p))

  fresh-step : (used : Option ℕ) → HasRoom n used (p ∷ ps) → Fresh (split (p ∷ ps)) (put_from n true used (p ∷ ps))
  fresh-step used room = placed-cases n true used p ps (Fresh (split (p ∷ ps))) ends turn goes fit next
    where
      ends : p ≡ 10 ∷ [] → Fresh (split (p ∷ ps)) (10 ∷ put_from n true None ps)
      ends is = rw is (gap-more 10 refl (all_parts n (split ps)) (put_from n true None ps) (more.fresh None tt))

      turn : p ≡ 32 ∷ [] → Fresh (split (p ∷ ps)) (10 ∷ put_from n true None ps)
      turn is = rw is (gap-more 10 refl (all_parts n (split ps)) (put_from n true None ps) (more.fresh None tt))

      goes : p ≡ 32 ∷ [] → begins_word ps ≡ false → Fresh (split (p ∷ ps)) (put_from n true used ps)
      goes is none = rw is (more.fresh used (room-left used room))
        where
          room-left : (used : Option ℕ) → HasRoom n used (p ∷ ps) → HasRoom n used ps
          room-left None r = tt
          room-left (Some k) r =
              let empty : first_part (split (p ∷ ps)) ≡ [] = ap (λ q. first_part (split (q ∷ ps))) is in
              subst (λ w. k + columns_in w ≤ n) (empty ∙ sym (none-first ps none)) r

      fit : is_just 10 p ≡ false → turns n true used p ps ≡ false → fits n used (text_width p) ≡ true → Fresh (split (p ∷ ps)) (p ++ put_from n true (Some (unwrap_or used 0 + text_width p)) ps)
      fit apart stays_in is = fit-next (cases_Bool (is_just 32 p))
        where
          fit-next : (is_just 32 p ≡ true) ⊎ (is_just 32 p ≡ false) → Fresh (split (p ∷ ps)) (p ++ put_from n true (Some (unwrap_or used 0 + text_width p)) ps)
          fit-next (inl blank) =
              let e = just-is 32 p blank in
              let wide = blank-fits n used ps (subst (λ q. turns n true used q ps ≡ false) e stays_in) in
              rw e (gap-more 32 refl (all_parts n (split ps)) (put_from n true (Some (unwrap_or used 0 + text_width (32 ∷ []))) ps) (more.fresh (Some (unwrap_or used 0 + text_width (32 ∷ []))) wide))
          fit-next (inr word) = subst (λ ws. AreSpaced (all_parts n ws) (p ++ put_from n true (Some (unwrap_or used 0 + text_width p)) ps)) (sym (word-split word apart)) (word-begins used room word apart)

      next : is_just 10 p ≡ false → turns n true used p ps ≡ false → fits n used (text_width p) ≡ false → Fresh (split (p ∷ ps)) (10 ∷ (p ++ put_from n true (Some (text_width p)) ps))
      next apart stays_in over = absurd (always-fits used room (cases_Bool (is_just 32 p)) stays_in over)
        where
          always-fits : (used : Option ℕ) → HasRoom n used (p ∷ ps) → (is_just 32 p ≡ true) ⊎ (is_just 32 p ≡ false) → turns n true used p ps ≡ false → fits n used (text_width p) ≡ false → ⊥
          always-fits None r w t over = false≢true (sym over)
          always-fits (Some k) r (inl blank) t over =
              let e = just-is 32 p blank in
              let wide = blank-fits n (Some k) ps (subst (λ q. turns n true (Some k) q ps ≡ false) e t) in
              over-fits n k (text_width (32 ∷ [])) (omega (arith, wide)) (ap (λ q. fits n (Some k) (text_width q)) (sym e) ∙ over)
          always-fits (Some k) r (inr word) t over =
              let columns : k + (text_width p + columns_in (first_part (split ps))) ≤ n = subst (λ m. k + m ≤ n) (ap columns_in (ap first_part (word-split word apart)) ∙ sum_by-cons text_width p (first_part (split ps))) r in
              over-fits n k (text_width p) (omega (arith, columns)) over

claims : (n : ℕ) (ps : List (List ℕ)) → Claims n ps
claims n [] = record { begun = λ cur used. part-end cur; fresh = λ used room. refl }
claims n (p ∷ ps) = let more = claims n ps in record { begun = begun-step n p ps more; fresh = fresh-step n p ps more }

pub words-kept : (n : ℕ) (cs : List ℕ) → KeepsWords n cs (wrapped_characters n true cs)
words-kept n cs = record {
  parts = parts_of n;
  none = refl;
  each = is-parted n;
  words = subst (AreSpaced (all_parts n (words cs))) (put-text n true cs) (all n (pieces cs));
}
  where
    all : (n : ℕ) (ps : List (List ℕ)) → AreSpaced (all_parts n (split ps)) (put_from n true None ps)
    all n ps = let c = claims n ps in c.fresh None tt
