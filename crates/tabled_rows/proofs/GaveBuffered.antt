-- What a source that is read ahead gives, told by what the source gave.
use Rattle.tabled_rows.proofs.Common.{[], ◌++◌, ◌<◌, ◌∙◌, ◌∷◌, ◌≡◌, All, All-drop, All-from_recursion, All-nil, AllByRecursion, AllZip, Bool, BufIterator, Buffered, Count, DrainsIf, EachSourceMayBeAsked, FollowsBuffer, Fuse, Gave, GivesBuffered, GivesEach, Global, GoesOverEach, HasCome, HoldsAlong, IntoIter, Iterator, List, None, Option, Some, SourceMayBeAsked, Vec, Yields, ap, append-nil, arith, common_steps, drop, drop-append_seam, false, fuse_done, fuse_source, fuse_steps, get_or, into_iter_items, into_iter_len, length, map_items, recursion_from_All, refl, rules, subst, sym, true}
use Rattle.tabled_rows.proofs.Gave.{ran-append, so_far}
use Rattle.tabled_rows.proofs.Listed.{gives-went}

-- rows that are listed may be asked
module _ {U T R S A B : Type 0} (becomes : U → T → Type 0) (can : T → Type 0) (next_gives : T → Option R → T → Type 0) (remaining : T → Count) (row_becomes : R → S → Type 0) (cell_can : S → Type 0) (cell_gives : S → Option A → S → Type 0) (cell_remaining : S → Count) (stands_for : A → B → Type 0) where
  abbrev asked : R → Type 0
  asked = SourceMayBeAsked row_becomes cell_can cell_remaining

  abbrev lists : R → List B → Type 0
  lists = GoesOverEach row_becomes cell_can cell_gives cell_remaining stands_for

  listed-each : (xs : List R) (rows : List (List B)) (s t : T) → GivesEach next_gives lists s rows → Yields next_gives s xs t → AllByRecursion asked xs
  listed-each [] rows s t gives ran = tt
  listed-each (x ∷ xs) rows s t gives ran =
      let went = gives-went next_gives lists rows s ran.0 x gives ran.1 in
      ((λ iter is. let cells = went.stands iter is in (cells.can, cells.ends)), listed-each xs went.others ran.0 t went.leaves ran.2)

  pub listed-asked : (source : U) (rows : List (List B)) → GoesOverEach becomes can next_gives remaining lists source rows → EachSourceMayBeAsked becomes can remaining next_gives asked source
  listed-asked source rows over = λ iter is.
      let listed = over iter is in
      (listed.can, listed.ends, λ xs t ran. All-from_recursion asked xs (listed-each xs rows iter t listed.gives ran))

module _ {S U I W A : Type 0} (next_gives : S → Option U → S → Type 0) (becomes : U → I → Type 0) (buffer_of : W → IntoIter (Vec A) Global) (rows_of : W → S) where
  abbrev steps : W → Option (BufIterator I A) → W → Type 0
  steps s r t = GivesBuffered next_gives becomes (record { buffer = buffer_of s; rows = rows_of s }) r (record { buffer = buffer_of t; rows = rows_of t })

  -- these rows are left of the buffer
  pub record Holds (buffer : List (Vec A)) (walk : W) : Type 0 where
    pub items : 0 < into_iter_len (buffer_of walk) → into_iter_items (buffer_of walk) ≡ buffer
    pub long : into_iter_len (buffer_of walk) ≡ length buffer

  pub buffered-gave : (xs : List (BufIterator I A)) (ended : Bool) (buffer : List (Vec A)) (s : W) → Holds buffer s → DrainsIf steps (ended ≡ true) s xs → (others : List U) × DrainsIf next_gives (ended ≡ true) (rows_of s) others × FollowsBuffer becomes (map_items buffer) others xs ended
  buffered-gave [] ended [] s holds drained = grind (arith, common_steps)
  buffered-gave [] true (v ∷ vs) s holds drained = grind (arith, common_steps)
  buffered-gave [] false (v ∷ vs) s holds drained = ([], so_far next_gives [] _ _ refl, (refl, refl))
  buffered-gave (Buffered cells ∷ xs) ended [] s holds drained = let step = drained.1.1 in absurd (omega (arith, step.1.1, holds.long))
  buffered-gave (Buffered cells ∷ xs) ended (v ∷ vs) s holds drained =
      let step = drained.1.1 in
      let next = drained.1.0 in
      let all : into_iter_items (buffer_of s) ≡ v ∷ vs = holds.items (omega (arith, step.1.1)) in
      let same : v ∷ vs ≡ step.0 ∷ into_iter_items (buffer_of next) = sym all ∙ step.1.0 in
      let rest = buffered-gave xs ended vs next (record { items = λ h. sym (ap (drop 1) same); long = omega (arith, step.1.1, holds.long) }) (drained.0, drained.1.2, drained.2) in
      (rest.0, subst (λ k. DrainsIf next_gives (ended ≡ true) k rest.0) step.2 rest.1, (step.3 ∙ ap (λ (u : Vec A). u.items) (sym (ap (λ xs. get_or xs 0 v) same)), rest.2))
  buffered-gave (Iterator cells ∷ xs) ended [] s holds drained =
      let step = drained.1.1 in
      let next = drained.1.0 in
      let rest = buffered-gave xs ended [] next (record { items = λ h. absurd (omega (arith, h, step.2)); long = step.2 }) (drained.0, drained.1.2, drained.2) in
      (step.0 ∷ rest.0, (rest.1.0, (rows_of next, step.3, rest.1.1), rest.1.2), (step.4, rest.2))
  buffered-gave (Iterator cells ∷ xs) ended (v ∷ vs) s holds drained = let step = drained.1.1 in absurd (omega (arith, step.1, holds.long))

  module _ (P : U → Type 0) (Q : BufIterator I A → Type 0) (buffered : (cells : IntoIter A Global) → Q (Buffered cells)) (come : (row : U) (cells : I) → P row → becomes row cells → Q (Iterator cells)) where
    each-come : (others : List U) (xs : List (BufIterator I A)) → AllZip (HasCome becomes) others xs → AllByRecursion P others → AllByRecursion Q xs
    each-come [] [] zipped holds = tt
    each-come [] (x ∷ xs) zipped holds = absurd zipped
    each-come (row ∷ others) [] zipped holds = absurd zipped
    each-come (row ∷ others) (Buffered cells ∷ xs) zipped holds = absurd zipped.0
    each-come (row ∷ others) (Iterator cells ∷ xs) zipped holds = (come row cells holds.0 zipped.0, each-come others xs zipped.1 holds.1)

    each-given : (buffer : List (List A)) (others : List U) (xs : List (BufIterator I A)) (ended : Bool) → FollowsBuffer becomes buffer others xs ended → AllByRecursion P others → AllByRecursion Q xs
    each-given [] others xs ended follows holds = each-come others xs follows holds
    each-given (cells ∷ buffer) others [] ended follows holds = tt
    each-given (cells ∷ buffer) others (Buffered left ∷ xs) ended follows holds = (buffered left, each-given buffer others xs ended follows.1 holds)
    each-given (cells ∷ buffer) others (Iterator left ∷ xs) ended follows holds = absurd follows.0

    pub buffered-along : (buffer : List (Vec A)) (s : W) → Holds buffer s → HoldsAlong next_gives (rows_of s) (All P) → HoldsAlong steps s (All Q)
    buffered-along buffer s holds along = λ xs t ran.
        let gave = buffered-gave xs false buffer s holds (so_far steps xs s t ran) in
        All-from_recursion Q xs (each-given (map_items buffer) gave.0 xs false gave.2 (recursion_from_All P gave.0 (along gave.0 gave.1.0 gave.1.1)))

-- an iterator that isn't asked again gives what the one inside it gave
module _ {S A : Type 0} (next_gives : S → Option A → S → Type 0) where
  fuse-ran : (xs : List A) (s t : Fuse S) → fuse_done s ≡ false → Yields (fuse_steps next_gives) s xs t → Yields next_gives (fuse_source s) xs (fuse_source t) × (fuse_done t ≡ false)
  fuse-ran [] s t on ran = (ap fuse_source ran, subst (λ k. fuse_done k ≡ false) ran on)
  fuse-ran (x ∷ xs) s t on ran =
      let rest = fuse-ran xs ran.0 t ran.1.1 ran.2 in
      ((fuse_source ran.0, rw on at ran.1.0, rest.0), rest.1)

  pub fuse-gave : (xs : List A) (ended : Bool) (s : Fuse S) → fuse_done s ≡ false → DrainsIf (fuse_steps next_gives) (ended ≡ true) s xs → DrainsIf next_gives (ended ≡ true) (fuse_source s) xs
  fuse-gave xs ended s on drained = grind (arith, common_steps, fuse-ran)

  pub fused-gave : (xs : List A) (s t : Fuse S) → fuse_done s ≡ true → Yields (fuse_steps next_gives) s xs t → xs ≡ []
  fused-gave [] s t done ran = refl
  fused-gave (x ∷ xs) s t done ran = let none = rw done at ran.1.0 in absurd (search rules)

-- rows of a source were read, each to its end, into a buffer
pub record WasRead {U T R I A : Type 0} (becomes : U → T → Type 0) (next_gives : T → Option R → T → Type 0) (asked : R → Type 0) (row_becomes : R → I → Type 0) (cell_gives : I → Option A → I → Type 0) (may_give : List R → Bool → Type 0) (left : T) (buffer : List (List A)) : Type 0 where
  pub source : U
  pub start : T
  pub is : becomes source start
  pub came : (rows : List R) (ended : Bool) → Gave becomes next_gives source rows ended → may_give rows ended
  pub along : HoldsAlong next_gives start (All asked)
  pub read : List R
  pub ran : Yields next_gives start read left
  pub gave : AllZip (λ row cells. Gave row_becomes cell_gives row cells true) read buffer

module _ {U T R I A : Type 0} (becomes : U → T → Type 0) (next_gives : T → Option R → T → Type 0) (asked : R → Type 0) (row_becomes : R → I → Type 0) (cell_gives : I → Option A → I → Type 0) (may_give : List R → Bool → Type 0) where
  abbrev Read : T → List (List A) → Type 0
  Read = WasRead becomes next_gives asked row_becomes cell_gives may_give

  zip-more : (rows : List R) (buffer : List (List A)) (row : R) (cells : List A) → AllZip (λ row cells. Gave row_becomes cell_gives row cells true) rows buffer → Gave row_becomes cell_gives row cells true → AllZip (λ row cells. Gave row_becomes cell_gives row cells true) (rows ++ row ∷ []) (buffer ++ cells ∷ [])
  zip-more [] [] row cells zipped one = (one, tt)
  zip-more [] (b ∷ bs) row cells zipped one = absurd zipped
  zip-more (r ∷ rs) [] row cells zipped one = absurd zipped
  zip-more (r ∷ rs) (b ∷ bs) row cells zipped one = (zipped.0, zip-more rs bs row cells zipped.1 one)

  -- the row that comes next may be asked
  pub next-asked : (left after : T) (buffer : List (List A)) (row : R) → Read left buffer → next_gives left (Some row) after → asked row
  next-asked left after buffer row was step =
      let all = was.along (was.read ++ row ∷ []) after (ran-append next_gives was.read (row ∷ []) was.start left after was.ran (after, step, refl)) in
      (recursion_from_All asked (row ∷ []) (subst (All asked) (drop-append_seam was.read (row ∷ [])) (All-drop asked (length was.read) (was.read ++ row ∷ []) all))).0

  -- one more row was read
  pub read-more : (left after : T) (buffer : List (List A)) (row : R) (cells : List A) → Read left buffer → next_gives left (Some row) after → Gave row_becomes cell_gives row cells true → Read after (buffer ++ cells ∷ [])
  read-more left after buffer row cells was step one = record {
    source = was.source;
    start = was.start;
    is = was.is;
    came = was.came;
    along = was.along;
    read = was.read ++ row ∷ [];
    ran = ran-append next_gives was.read (row ∷ []) was.start left after was.ran (after, step, refl);
    gave = zip-more was.read buffer row cells was.gave one;
  }

  -- what comes after the rows that were read
  pub others-came : (left : Fuse T) (buffer : List (List A)) (was : Read (fuse_source left) buffer) → fuse_done left ≡ false → (others : List R) (ended : Bool) → DrainsIf (fuse_steps next_gives) (ended ≡ true) left others → may_give (was.read ++ others) ended
  others-came left buffer was on others ended drained =
      let gave = fuse-gave next_gives others ended left on drained in
      was.came (was.read ++ others) ended (was.start, was.is, (gave.0, ran-append next_gives was.read others was.start (fuse_source left) gave.0 was.ran gave.1, gave.2))

  pub others-asked : (left : Fuse T) (buffer : List (List A)) → Read (fuse_source left) buffer → fuse_done left ≡ false → HoldsAlong (fuse_steps next_gives) left (All asked)
  others-asked left buffer was on = λ xs t ran.
      let gave = fuse-gave next_gives xs false left on (so_far (fuse_steps next_gives) xs left t ran) in
      subst (All asked) (drop-append_seam was.read xs) (All-drop asked (length was.read) (was.read ++ xs) (was.along (was.read ++ xs) gave.0 (ran-append next_gives was.read xs was.start (fuse_source left) gave.0 was.ran gave.1)))

  -- nothing comes after them where the source has ended
  pub none-came : (left done : Fuse T) (buffer : List (List A)) (was : Read (fuse_source left) buffer) → fuse_done left ≡ false → fuse_steps next_gives left None done → (others : List R) (ended : Bool) → DrainsIf (fuse_steps next_gives) (ended ≡ true) done others → may_give (was.read ++ others) ended
  none-came left done buffer was on step others ended drained = grind (arith, common_steps, fused-gave, append-nil)

  pub none-asked : (done : Fuse T) → fuse_done done ≡ true → HoldsAlong (fuse_steps next_gives) done (All asked)
  none-asked done over = λ xs t ran. rw (fused-gave next_gives xs done t over ran) (All-nil asked)
