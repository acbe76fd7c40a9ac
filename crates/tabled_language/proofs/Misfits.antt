-- The first faulty span among lines is the first misfit among their anchors.
use Rattle.tabled_language.proofs.Common.{[], ◌&&◌, ◌++◌, ◌+◌, ◌<◌, ◌∙◌, ◌∷◌, ◌≡◌, Bool, Grid, IsFirstMisfit, Line, List, None, Option, Rectangle, Some, SpanMisfits, anchor_in, and_parts, ap, append-nil, append_assoc, arith, false, filter_map, filter_map-append, first_fault, get_or, fits_among, length, length-append, all_fit, numbers_of, refl, span_fault, subst, suc, sym, take, true, zero, ℕ}
use Rattle.std.proofs.Math.Numerals.{add-one}
use Rattle.tabled_language.proofs.PlacedAnchors.{fit-left, fit-push}

-- the anchors that lines say
abbrev anchors : List Line → List Rectangle
anchors lines = filter_map anchor_in lines

module _ (g : Grid (List ℕ)) where
  abbrev well : List Rectangle → Bool
  well es = all_fit g.rows g.columns es

  -- one in front of others that fit with those before it fits among these
  place_there : (done es : List Rectangle) (e : Rectangle) → well (done ++ e ∷ es) ≡ true → fits_among g.rows g.columns done e ≡ true
  place_there done es e h =
      let front = fit-left g.rows g.columns (done ++ e ∷ []) es (ap well (append_assoc done (e ∷ []) es) ∙ h) in
      (and_parts _ _ (sym (fit-push g.rows g.columns done e) ∙ front)).1

  -- the next of rectangles that fit does not, where they do not with it
  no_place : (done : List Rectangle) (e : Rectangle) → well done ≡ true → well (done ++ e ∷ []) ≡ false → fits_among g.rows g.columns done e ≡ false
  no_place done e fine not_well = ap (λ b. b && fits_among g.rows g.columns done e) (sym fine) ∙ sym (fit-push g.rows g.columns done e) ∙ not_well

  module _ (earlier : List Line) (line : Line) (lines : List Line) where
    -- a line that says no anchor
    passed : anchor_in line ≡ None → first_fault (span_fault g) earlier (line ∷ lines) ≡ first_fault (span_fault g) (earlier ++ line ∷ []) lines
    passed is = rw is refl

    -- one whose rectangle has a place
    fits : (e : Rectangle) → anchor_in line ≡ Some e → fits_among g.rows g.columns (anchors earlier) e ≡ true → first_fault (span_fault g) earlier (line ∷ lines) ≡ first_fault (span_fault g) (earlier ++ line ∷ []) lines
    fits e is fine = rw (is, fine) refl

    -- one whose rectangle has none
    misfits : (e : Rectangle) → anchor_in line ≡ Some e → fits_among g.rows g.columns (anchors earlier) e ≡ false → first_fault (span_fault g) earlier (line ∷ lines) ≡ Some (length earlier + 1, SpanMisfits)
    misfits e is none = rw (is, none) refl

  -- no span is faulty where all fit
  fine_behind : (earlier lines : List Line) → well (anchors (earlier ++ lines)) ≡ true → first_fault (span_fault g) earlier lines ≡ None
  fine_behind earlier [] h = refl
  fine_behind earlier (line ∷ lines) h = fine_from_here (anchor_in line) refl (fine_behind (earlier ++ line ∷ []) lines (ap (λ (all : List Line). well (anchors all)) (append_assoc earlier (line ∷ []) lines) ∙ h))
    where
      fine_from_here : (o : Option Rectangle) → anchor_in line ≡ o → first_fault (span_fault g) (earlier ++ line ∷ []) lines ≡ None → first_fault (span_fault g) earlier (line ∷ lines) ≡ None
      fine_from_here None is later = passed earlier line lines is ∙ later
      fine_from_here (Some e) is later =
          let here : anchors (line ∷ lines) ≡ e ∷ anchors lines = rw is refl in
          let all : well (anchors earlier ++ e ∷ anchors lines) ≡ true = ap well (ap (λ (es : List Rectangle). anchors earlier ++ es) (sym here) ∙ sym (filter_map-append anchor_in earlier (line ∷ lines))) ∙ h in
          fits earlier line lines e is (place_there (anchors earlier) (anchors lines) e all) ∙ later

  pub no_misfit : (lines : List Line) → well (anchors lines) ≡ true → first_fault (span_fault g) [] lines ≡ None
  no_misfit lines h = fine_behind [] lines h

  -- after these rectangles, i more fit, and one more does not
  record Misfit (done es : List Rectangle) (i : ℕ) : Type 0 where
    within : i < length es
    before : well (done ++ take i es) ≡ true
    there : well (done ++ take (suc i) es) ≡ false

  misfit_behind : (earlier lines : List Line) (i : ℕ) → Misfit (anchors earlier) (anchors lines) i → first_fault (span_fault g) earlier lines ≡ Some (get_or (numbers_of anchor_in (length earlier) lines) i 0, SpanMisfits)
  misfit_behind earlier [] i m = absurd (omega (arith, m.within))
  misfit_behind earlier (line ∷ lines) i m = misfit_from_here (anchor_in line) refl i m (misfit_behind (earlier ++ line ∷ []) lines)
    where
      longer : length (earlier ++ line ∷ []) ≡ length earlier + 1
      longer = length-append earlier (line ∷ [])

      misfit_from_here : (o : Option Rectangle) → anchor_in line ≡ o → (i : ℕ) → Misfit (anchors earlier) (anchors (line ∷ lines)) i
          → ((j : ℕ) → Misfit (anchors (earlier ++ line ∷ [])) (anchors lines) j → first_fault (span_fault g) (earlier ++ line ∷ []) lines ≡ Some (get_or (numbers_of anchor_in (length (earlier ++ line ∷ [])) lines) j 0, SpanMisfits))
          → first_fault (span_fault g) earlier (line ∷ lines) ≡ Some (get_or (numbers_of anchor_in (length earlier) (line ∷ lines)) i 0, SpanMisfits)
      misfit_from_here None is i m later =
          let here : anchors (line ∷ lines) ≡ anchors lines = rw is refl in
          let more : anchors (earlier ++ line ∷ []) ≡ anchors earlier = filter_map-append anchor_in earlier (line ∷ []) ∙ rw is (append-nil (anchors earlier)) in
          let numbers : numbers_of anchor_in (length earlier) (line ∷ lines) ≡ numbers_of anchor_in (length (earlier ++ line ∷ [])) lines = rw (is, longer) refl in
          passed earlier line lines is ∙ later i (subst (λ done. Misfit done (anchors lines) i) (sym more) (subst (λ es. Misfit (anchors earlier) es i) here m))
          ∙ ap (λ (ns : List ℕ). Some (get_or ns i 0, SpanMisfits)) (sym numbers)
      misfit_from_here (Some e) is i m later =
          let here : anchors (line ∷ lines) ≡ e ∷ anchors lines = rw is refl in
          let more : anchors (earlier ++ line ∷ []) ≡ anchors earlier ++ e ∷ [] = filter_map-append anchor_in earlier (line ∷ []) ∙ rw is refl in
          let numbers : numbers_of anchor_in (length earlier) (line ∷ lines) ≡ (length earlier + 1) ∷ numbers_of anchor_in (length (earlier ++ line ∷ [])) lines = rw (is, longer) refl in
          at i (subst (λ es. Misfit (anchors earlier) es i) here m) more
          ∙ ap (λ (ns : List ℕ). Some (get_or ns i 0, SpanMisfits)) (sym numbers)
        where
          at : (i : ℕ) → Misfit (anchors earlier) (e ∷ anchors lines) i → anchors (earlier ++ line ∷ []) ≡ anchors earlier ++ e ∷ [] → first_fault (span_fault g) earlier (line ∷ lines) ≡ Some (get_or ((length earlier + 1) ∷ numbers_of anchor_in (length (earlier ++ line ∷ [])) lines) i 0, SpanMisfits)
          at zero m more = misfits earlier line lines e is (no_place (anchors earlier) e (ap well (sym (append-nil (anchors earlier))) ∙ m.before) m.there)
          at (suc j) m more =
              let rest : (n : ℕ) → anchors (earlier ++ line ∷ []) ++ take n (anchors lines) ≡ anchors earlier ++ e ∷ take n (anchors lines) = λ n. ap (λ (es : List Rectangle). es ++ take n (anchors lines)) more ∙ append_assoc (anchors earlier) (e ∷ []) (take n (anchors lines)) in
              fits earlier line lines e is (place_there (anchors earlier) (take j (anchors lines)) e m.before)
              ∙ later j (record { within = omega (arith, m.within); before = ap well (rest j) ∙ m.before; there = ap well (rest (suc j)) ∙ m.there })

  -- the first faulty span stands on the line of the first misfit
  pub first_misfit_line : (lines : List Line) (i : ℕ) → IsFirstMisfit g.rows g.columns (anchors lines) i → first_fault (span_fault g) [] lines ≡ Some (get_or (numbers_of anchor_in 0 lines) i 0, SpanMisfits)
  first_misfit_line lines i m = misfit_behind [] lines i (record { within = m.within; before = m.before; there = ap (λ n. well (take n (anchors lines))) (sym (add-one i)) ∙ m.there })
