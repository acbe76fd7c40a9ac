-- What iterators over buffered rows give.
use Rattle.tabled_rows.proofs.Common.{[], ◌++◌, ◌<◌, ◌∙◌, ◌∷◌, ◌≡◌, ◌≤◌, BufIterator, Buffered, BufferedWalk, Comes, Count, Fuse, GivesBuffered, GivesEach, Global, GoesOverEach, IntoIter, Iterator, List, None, Option, Shows, Some, Vec, Yields, all_shown, ap, ap₂, arith, can_come, common_steps, false, fuse_done, fuse_source, fuse_steps, into_iter_items, into_iter_len, into_iter_steps, length, map, map_items, nil_from_length, refl, still_to_come, subst, suc, sym, take, true, vec_len, zero, ℕ}
use Rattle.tabled_rows.proofs.Listed.{Went, gives-by_state, gives-ended, gives-vec, gives-went}

module _ {I A B : Type 0} (cell_gives : I → Option A → I → Type 0) (shown : A → B) where
  -- what the iterator inside gives
  abbrev IsToCome : BufIterator I A → List B → Type 0
  IsToCome (Buffered cells) xs = GivesEach into_iter_steps (Shows shown) cells xs
  IsToCome (Iterator cells) xs = GivesEach cell_gives (Shows shown) cells xs

  come-ended : (s t : BufIterator I A) (xs : List B) → IsToCome s xs → Comes cell_gives s None t → xs ≡ []
  come-ended (Buffered s) (Buffered t) xs j p = gives-ended into_iter_steps (Shows shown) xs s t j p
  come-ended (Buffered s) (Iterator t) xs j p = absurd p
  come-ended (Iterator s) (Buffered t) xs j p = absurd p
  come-ended (Iterator s) (Iterator t) xs j p = gives-ended cell_gives (Shows shown) xs s t j p

  come-went : (s t : BufIterator I A) (x : A) (xs : List B) → IsToCome s xs → Comes cell_gives s (Some x) t → Went (Shows shown) IsToCome xs x t
  come-went (Buffered s) (Buffered t) x xs j p = let next = gives-went into_iter_steps (Shows shown) xs s t x j p in record { first = next.first; others = next.others; are = next.are; stands = next.stands; leaves = next.leaves }
  come-went (Buffered s) (Iterator t) x xs j p = absurd p
  come-went (Iterator s) (Buffered t) x xs j p = absurd p
  come-went (Iterator s) (Iterator t) x xs j p = let next = gives-went cell_gives (Shows shown) xs s t x j p in record { first = next.first; others = next.others; are = next.are; stands = next.stands; leaves = next.leaves }

  pub gives-come : (xs : List B) (cells : BufIterator I A) → IsToCome cells xs → GivesEach (Comes cell_gives) (Shows shown) cells xs
  gives-come xs cells j = gives-by_state (Comes cell_gives) (Shows shown) IsToCome come-ended come-went xs cells j

module _ {S U I W A B : Type 0} (next_gives : S → Option U → S → Type 0) (becomes : U → I → Type 0) (can : I → Type 0) (cell_gives : I → Option A → I → Type 0) (remaining : I → Count) (shown : A → B) (buffer_of : W → IntoIter (Vec A) Global) (rows_of : W → S) where
  abbrev gives-row : U → List B → Type 0
  gives-row row cells = GoesOverEach becomes can cell_gives remaining (Shows shown) row cells

  abbrev gives-buffered_row : BufIterator I A → List B → Type 0
  gives-buffered_row row cells = GoesOverEach (λ s r. r ≡ s) (can_come can) (Comes cell_gives) (still_to_come remaining) (Shows shown) row cells

  -- the buffered rows, and then the others, are left
  record IsLeft (walk : W) (rows : List (List B)) : Type 0 where
    pub buffer : List (Vec A)
    pub others : List (List B)
    pub buffered : 0 < into_iter_len (buffer_of walk) → into_iter_items (buffer_of walk) ≡ buffer
    pub long : into_iter_len (buffer_of walk) ≡ length buffer
    pub gives : GivesEach next_gives gives-row (rows_of walk) others
    pub are : rows ≡ all_shown shown (map_items buffer) ++ others

  abbrev walk_of : W → BufferedWalk S A
  walk_of walk = record { buffer = buffer_of walk; rows = rows_of walk }

  abbrev steps : W → Option (BufIterator I A) → W → Type 0
  steps s r t = GivesBuffered next_gives becomes (walk_of s) r (walk_of t)

  buffered-ended : (s t : W) (rows : List (List B)) → IsLeft s rows → steps s None t → rows ≡ []
  buffered-ended s t rows j p = grind (arith, common_steps, gives-ended)

  buffered-went : (s t : W) (x : BufIterator I A) (rows : List (List B)) → IsLeft s rows → steps s (Some x) t → Went gives-buffered_row IsLeft rows x t
  buffered-went s t (Buffered cells) rows j p = grind (arith, common_steps, gives-come, gives-vec)
  buffered-went s t (Iterator cells) rows j p =
      let empty : j.buffer ≡ [] = nil_from_length j.buffer (sym j.long ∙ p.1) in
      let next = gives-went next_gives gives-row j.others _ _ p.0 j.gives p.3 in
      let lists = next.stands cells p.4 in
      record {
        first = next.first;
        others = next.others;
        are = j.are ∙ ap (λ vs. all_shown shown (map_items vs) ++ j.others) empty ∙ next.are;
        stands = λ it same. rw same (record {
          can = lists.can;
          ends = lists.ends;
          gives = gives-come cell_gives shown next.first (Iterator cells) lists.gives;
        });
        leaves = record {
          buffer = [];
          others = next.others;
          buffered = λ h. absurd (omega (arith, p.2));
          long = p.2;
          gives = next.leaves;
          are = refl;
        };
      }

  pub gives-buffered : (v : Vec (Vec A)) (others : List (List B)) (walk : W) → into_iter_items (buffer_of walk) ≡ v.items → into_iter_len (buffer_of walk) ≡ vec_len v → GivesEach next_gives gives-row (rows_of walk) others → GivesEach steps gives-buffered_row walk (all_shown shown (map_items v.items) ++ others)
  gives-buffered v others walk items long g = gives-by_state steps gives-buffered_row IsLeft buffered-ended buffered-went _ walk (record {
    buffer = v.items;
    others = others;
    buffered = λ h. items;
    long = long ∙ v.ok.0;
    gives = g;
    are = refl;
  })

module _ {S U I A B : Type 0} (next_gives : S → Option U → S → Type 0) (becomes : U → I → Type 0) (can : I → Type 0) (cell_gives : I → Option A → I → Type 0) (remaining : I → Count) (shown : A → B) where
  abbrev pub gives-unread : U → List B → Type 0
  gives-unread row cells = GoesOverEach becomes can cell_gives remaining (Shows shown) row cells

  -- rows are in the buffer, and the others are still to come
  pub record IsReadAhead (left : S) (buffer : List (Vec A)) (rows : List (List B)) : Type 0 where
    pub others : List (List B)
    pub gives : GivesEach next_gives gives-unread left others
    pub are : rows ≡ all_shown shown (map_items buffer) ++ others

  -- what a row that was read gave
  drained : (xs : List A) (ys : List B) (s t u : I) → GivesEach cell_gives (Shows shown) s ys → Yields cell_gives s xs t → cell_gives t None u → map shown xs ≡ ys
  drained [] [] s t u g y p = refl
  drained [] (z ∷ ys) s t u g y p = absurd (g.0 u (subst (λ k. cell_gives k None u) (sym y) p))
  drained (x ∷ xs) [] s t u g y p = absurd (g x y.0 y.1)
  drained (x ∷ xs) (z ∷ ys) s t u g y p = let next = g.1 x y.0 y.1 in ap₂ (λ a b. a ∷ b) next.0 (drained xs ys y.0 t u next.1 y.2 p)

  one-more : (buffer : List (Vec A)) (cells : Vec A) (others : List (List B)) → all_shown shown (map_items buffer) ++ map shown cells.items ∷ others ≡ all_shown shown (map_items (buffer ++ cells ∷ [])) ++ others
  one-more [] cells others = refl
  one-more (v ∷ buffer) cells others = ap (λ rows. map shown v.items ∷ rows) (one-more buffer cells others)

  -- one more row is read
  pub read-row : (s t : S) (buffer : List (Vec A)) (rows : List (List B)) (row : U) (iter left end : I) (cells : Vec A) (xs : List A) → IsReadAhead s buffer rows → next_gives s (Some row) t → becomes row iter → Yields cell_gives iter xs left → cell_gives left None end → cells.items ≡ xs → IsReadAhead t (buffer ++ cells ∷ []) rows
  read-row s t buffer rows row iter left end cells xs j p b y e items = grind (arith, common_steps, gives-went, drained, one-more)

  firsts : (n : ℕ) (buffer : List (Vec A)) (others : List (List B)) → length buffer ≤ n → (length buffer < n → others ≡ []) → all_shown shown (map_items buffer) ≡ take n (all_shown shown (map_items buffer) ++ others)
  firsts zero [] others h e = refl
  firsts (suc n) [] others h e = sym (ap (take (suc n)) (e (omega arith)))
  firsts zero (v ∷ buffer) others h e = absurd (omega arith)
  firsts (suc n) (v ∷ buffer) others h e = ap (λ rows. map shown v.items ∷ rows) (firsts n buffer others (omega arith) (λ k. e (omega arith)))

  -- the buffer has the first rows
  pub first-read : (n : ℕ) (s : S) (buffer : List (Vec A)) (rows : List (List B)) (j : IsReadAhead s buffer rows) → length buffer ≤ n → (length buffer < n → j.others ≡ []) → all_shown shown (map_items buffer) ≡ take n rows
  first-read n s buffer rows j h e = firsts n buffer j.others h e ∙ ap (take n) (sym j.are)

-- an iterator that isn't asked again gives what the one inside it gives
pub gives-fuse : {S A B : Type 0} (next_gives : S → Option A → S → Type 0) (stands_for : A → B → Type 0) (ys : List B) (s : Fuse S) → fuse_done s ≡ false → GivesEach next_gives stands_for (fuse_source s) ys → GivesEach (fuse_steps next_gives) stands_for s ys
gives-fuse next_gives stands_for ys s on g = gives-by_state (fuse_steps next_gives) stands_for (λ u zs. (fuse_done u ≡ false) × GivesEach next_gives stands_for (fuse_source u) zs)
    (λ u t zs j p. gives-ended next_gives stands_for zs _ _ j.1 (rw j.0 at p.0))
    (λ u t x zs j p.
    let next = gives-went next_gives stands_for zs _ _ x j.1 (rw j.0 at p.0) in
    record {
      first = next.first;
      others = next.others;
      are = next.are;
      stands = next.stands;
      leaves = (p.1, next.leaves);
    })
    ys s (on, g)

-- once it has ended, it gives nothing
pub gives-fused : {S A B : Type 0} (next_gives : S → Option A → S → Type 0) (stands_for : A → B → Type 0) (s : Fuse S) → fuse_done s ≡ true → GivesEach (fuse_steps next_gives) stands_for s []
gives-fused next_gives stands_for s done x t p = grind (arith, common_steps)
