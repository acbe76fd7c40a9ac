-- At a cut between pieces the columns add up.
use Rattle.std.proofs.Common.{[], ◌&&◌, ◌++◌, ◌+◌, ◌<◌, ◌==◌, ◌∙◌, ◌∷◌, ◌≡◌, ◌≢◌, ◌≤◌, ◌⊎◌, ◌||◌, Bool, List, None, ap, append-nil, append_assoc, arith, eqb-true, false, inl, inr, nat_lt, ne_eqb, not, refl, subst, sym, true, ℕ}
use Rattle.std.proofs.lemmas.Bool.{cases_Bool, eqb-false, false≢true, lt-ltb}
use Rattle.std.proofs.lemmas.Bool.Decides.{nat_tests}
use Rattle.std.specs.List.{AllByRecursion}
use Rattle.tabled_width.proofs.Alone.{high-width, stands-alone}
use Rattle.tabled_width.proofs.BeforeLetters.{attached-same, cluster-same}
use Rattle.tabled_width.proofs.Begins.{first}
use Rattle.tabled_width.proofs.First.{BeginsLetter, First, is_vowel}
use Rattle.tabled_width.proofs.Flags.{Ended, bare_flag, ended, flag-free, read-end, step-plain}
use Rattle.tabled_width.proofs.Ligatures.{joining-before}
use Rattle.tabled_width.proofs.Reading.{read-append, read-shifted, read-width, width-is}
use Rattle.tabled_width.proofs.Scanning.{more-cluster, more-last}
use Rattle.tabled_width.proofs.Untouched.{IsBare, same-step}
use Rattle.tabled_width.proofs.WholeFlags.{flags-same}
use Rattle.tabled_width.specs.Columns.{text_width}
use Rattle.tabled_width.specs.Pieces.{attaches, belongs, character_width, ends_in_half_a_flag, is_kirat_vowel, last_cluster, last_of, stays}
use Rattle.unicode_width.specs.Width.{Reading, alone, before, is_indicator, joins, plain, read_before, step}
use Rattle.unicode_width.specs.declared.state.After.{After}
use Rattle.unicode_width.specs.declared.state.After.TheVariants.{Nothing, LineFeed, Emoji, Alef, Lamed, ZwjLamed, Ya, ZwjYa, VowelZwjYa, Tifinagh, ZwjTifinagh, JoinerTifinagh, LisuTone, OrkhonI, ZwjOrkhonI, KhmerLetter, EmojiModifier, RegionalIndicator, RegionalIndicators, ZwjEmoji, KeycapZwjEmoji, IndicatorZwj, EvenIndicatorsZwj, OddIndicatorsZwj, TagEnd, TagDigit1, TagDigit2, TagDigit3, TagLetter1, TagLetter2, TagLetter3, TagLetter4, TagLetter5, TagLetter6, KiratE, KiratAi, Solidus, SolidusAlef}

-- ---- what a cut says

or_false : (a b : Bool) → (a || b) ≡ false → (a ≡ false) × (b ≡ false)
or_false true b h = absurd (false≢true (sym h))
or_false false b h = (refl, h)

and_false : (a b : Bool) → (a && b) ≡ false → b ≡ true → a ≡ false
and_false true b h is = absurd (false≢true (sym h ∙ is))
and_false false b h is = refl

not_false : (b : Bool) → not b ≡ false → b ≡ true
not_false true h = refl
not_false false h = absurd (false≢true (sym h))

pub record IsCut (piece : List ℕ) (d : ℕ) : Type 0 where
  pub begins : attaches d ≡ false
  pub joiner : 32 < d → last_of piece ≢ 0x200D
  pub flag : is_indicator d ≡ true → ends_in_half_a_flag piece ≡ false
  pub vowel : is_kirat_vowel d ≡ true → is_kirat_vowel (last_of piece) ≡ false
  pub apart : text_width (last_cluster piece ++ d ∷ []) ≡ text_width (last_cluster piece) + character_width d

pub cut : (piece : List ℕ) (d : ℕ) → d ≢ 10 → last_of piece ≢ 10 → stays piece d ≡ false → IsCut piece d
cut piece d no_newline no_end h =
    let here : belongs (last_of piece) (ends_in_half_a_flag piece) (last_cluster piece) d ≡ false = rw (ne_eqb d 10 no_newline, ne_eqb (last_of piece) 10 no_end) at h in
    let halves = or_false _ _ here in
    let front = or_false _ _ halves.0 in
    let back = or_false _ _ halves.1 in
    let middle = or_false _ _ back.0 in
    record {
      begins = front.0;
      joiner = λ above. eqb-false (last_of piece) 0x200D (and_false (last_of piece == 0x200D) (nat_lt 0x20 d) front.1 (lt-ltb 0x20 d above));
      flag = λ is. flipped (is_indicator d) (ends_in_half_a_flag piece) middle.0 is;
      vowel = λ is. flipped (is_kirat_vowel d) (is_kirat_vowel (last_of piece)) middle.1 is;
      apart = eqb-true _ _ (not_false _ back.1);
    }
  where
    flipped : (a b : Bool) → (a && b) ≡ false → a ≡ true → b ≡ false
    flipped true b h is = h
    flipped false b h is = absurd (false≢true is)

-- ---- states that only the last character may join

bare_emoji : IsBare Emoji
bare_emoji = record { something = refl; no_feed = refl; no_skips = refl; no_kept = refl; no_joined = refl }

bare_vowel : (b : After) → is_vowel b ≡ true → IsBare b
bare_vowel KiratE h = record { something = refl; no_feed = refl; no_skips = refl; no_kept = refl; no_joined = refl }
bare_vowel KiratAi h = record { something = refl; no_feed = refl; no_skips = refl; no_kept = refl; no_joined = refl }
bare_vowel Nothing h = absurd (false≢true h)
bare_vowel LineFeed h = absurd (false≢true h)
bare_vowel EmojiModifier h = absurd (false≢true h)
bare_vowel RegionalIndicator h = absurd (false≢true h)
bare_vowel RegionalIndicators h = absurd (false≢true h)
bare_vowel Emoji h = absurd (false≢true h)
bare_vowel ZwjEmoji h = absurd (false≢true h)
bare_vowel KeycapZwjEmoji h = absurd (false≢true h)
bare_vowel IndicatorZwj h = absurd (false≢true h)
bare_vowel EvenIndicatorsZwj h = absurd (false≢true h)
bare_vowel OddIndicatorsZwj h = absurd (false≢true h)
bare_vowel TagEnd h = absurd (false≢true h)
bare_vowel TagDigit1 h = absurd (false≢true h)
bare_vowel TagDigit2 h = absurd (false≢true h)
bare_vowel TagDigit3 h = absurd (false≢true h)
bare_vowel TagLetter1 h = absurd (false≢true h)
bare_vowel TagLetter2 h = absurd (false≢true h)
bare_vowel TagLetter3 h = absurd (false≢true h)
bare_vowel TagLetter4 h = absurd (false≢true h)
bare_vowel TagLetter5 h = absurd (false≢true h)
bare_vowel TagLetter6 h = absurd (false≢true h)
bare_vowel Alef h = absurd (false≢true h)
bare_vowel Solidus h = absurd (false≢true h)
bare_vowel SolidusAlef h = absurd (false≢true h)
bare_vowel Lamed h = absurd (false≢true h)
bare_vowel ZwjLamed h = absurd (false≢true h)
bare_vowel Ya h = absurd (false≢true h)
bare_vowel ZwjYa h = absurd (false≢true h)
bare_vowel VowelZwjYa h = absurd (false≢true h)
bare_vowel Tifinagh h = absurd (false≢true h)
bare_vowel ZwjTifinagh h = absurd (false≢true h)
bare_vowel JoinerTifinagh h = absurd (false≢true h)
bare_vowel LisuTone h = absurd (false≢true h)
bare_vowel OrkhonI h = absurd (false≢true h)
bare_vowel ZwjOrkhonI h = absurd (false≢true h)
bare_vowel KhmerLetter h = absurd (false≢true h)

emoji-free : (y : ℕ) → y ≢ 0x200D → joins false Emoji y ≡ None
unfolding joins
emoji-free y apart = rw (ne_eqb y 0x200D apart) refl

record IsNoVowel (y : ℕ) : Type 0 where
  aa : y ≢ 0x16D63
  e : y ≢ 0x16D67
  ai : y ≢ 0x16D68
  o : y ≢ 0x16D69

no_vowel : (y : ℕ) → is_kirat_vowel y ≡ false → IsNoVowel y
no_vowel y h = record {
  aa = λ is. false≢true (sym h ∙ ap is_kirat_vowel is);
  e = λ is. false≢true (sym h ∙ ap is_kirat_vowel is);
  ai = λ is. false≢true (sym h ∙ ap is_kirat_vowel is);
  o = λ is. false≢true (sym h ∙ ap is_kirat_vowel is);
}

vowel-free : (b : After) → is_vowel b ≡ true → (y : ℕ) → IsNoVowel y → joins false b y ≡ None
unfolding joins
vowel-free KiratE h y apart = rw (ne_eqb y 0x16D63 apart.aa, ne_eqb y 0x16D67 apart.e, ne_eqb y 0x16D68 apart.ai, ne_eqb y 0x16D69 apart.o) refl
vowel-free KiratAi h y apart = rw (ne_eqb y 0x16D63 apart.aa) refl
vowel-free Nothing h y apart = absurd (false≢true h)
vowel-free LineFeed h y apart = absurd (false≢true h)
vowel-free EmojiModifier h y apart = absurd (false≢true h)
vowel-free RegionalIndicator h y apart = absurd (false≢true h)
vowel-free RegionalIndicators h y apart = absurd (false≢true h)
vowel-free Emoji h y apart = absurd (false≢true h)
vowel-free ZwjEmoji h y apart = absurd (false≢true h)
vowel-free KeycapZwjEmoji h y apart = absurd (false≢true h)
vowel-free IndicatorZwj h y apart = absurd (false≢true h)
vowel-free EvenIndicatorsZwj h y apart = absurd (false≢true h)
vowel-free OddIndicatorsZwj h y apart = absurd (false≢true h)
vowel-free TagEnd h y apart = absurd (false≢true h)
vowel-free TagDigit1 h y apart = absurd (false≢true h)
vowel-free TagDigit2 h y apart = absurd (false≢true h)
vowel-free TagDigit3 h y apart = absurd (false≢true h)
vowel-free TagLetter1 h y apart = absurd (false≢true h)
vowel-free TagLetter2 h y apart = absurd (false≢true h)
vowel-free TagLetter3 h y apart = absurd (false≢true h)
vowel-free TagLetter4 h y apart = absurd (false≢true h)
vowel-free TagLetter5 h y apart = absurd (false≢true h)
vowel-free TagLetter6 h y apart = absurd (false≢true h)
vowel-free Alef h y apart = absurd (false≢true h)
vowel-free Solidus h y apart = absurd (false≢true h)
vowel-free SolidusAlef h y apart = absurd (false≢true h)
vowel-free Lamed h y apart = absurd (false≢true h)
vowel-free ZwjLamed h y apart = absurd (false≢true h)
vowel-free Ya h y apart = absurd (false≢true h)
vowel-free ZwjYa h y apart = absurd (false≢true h)
vowel-free VowelZwjYa h y apart = absurd (false≢true h)
vowel-free Tifinagh h y apart = absurd (false≢true h)
vowel-free ZwjTifinagh h y apart = absurd (false≢true h)
vowel-free JoinerTifinagh h y apart = absurd (false≢true h)
vowel-free LisuTone h y apart = absurd (false≢true h)
vowel-free OrkhonI h y apart = absurd (false≢true h)
vowel-free ZwjOrkhonI h y apart = absurd (false≢true h)
vowel-free KhmerLetter h y apart = absurd (false≢true h)

-- ---- the last cluster

record Clustered (piece : List ℕ) : Type 0 where
  front : List ℕ
  is : piece ≡ front ++ last_cluster piece
  shape : ((x : ℕ) × (zs : List ℕ) × (last_cluster piece ≡ x ∷ zs) × (attaches x ≡ false) × AllByRecursion (λ z. attaches z ≡ true) zs) ⊎ ((front ≡ []) × AllByRecursion (λ z. attaches z ≡ true) (last_cluster piece))

all-more : (zs : List ℕ) (c : ℕ) → attaches c ≡ true → AllByRecursion (λ z. attaches z ≡ true) zs → AllByRecursion (λ z. attaches z ≡ true) (zs ++ c ∷ [])
all-more [] c h all = (h, tt)
all-more (z ∷ zs) c h all = (all.0, all-more zs c h all.1)

clustered-more : (piece : List ℕ) (c : ℕ) → Clustered piece → Clustered (piece ++ c ∷ [])
clustered-more piece c h = with-character (cases_Bool (attaches c))
  where
    with-character : (attaches c ≡ true) ⊎ (attaches c ≡ false) → Clustered (piece ++ c ∷ [])
    with-character (inl is) =
        let cluster : last_cluster (piece ++ c ∷ []) ≡ last_cluster piece ++ c ∷ [] = more-cluster piece c ∙ rw is refl in
        record {
          front = h.front;
          is = ap (λ xs. xs ++ c ∷ []) h.is ∙ append_assoc h.front (last_cluster piece) (c ∷ []) ∙ ap (λ xs. h.front ++ xs) (sym cluster);
          shape = elim h.shape [
            | inl s ↦ inl (s.0, s.1 ++ c ∷ [], cluster ∙ ap (λ xs. xs ++ c ∷ []) s.2, s.3, all-more s.1 c is s.4)
            | inr s ↦ inr (s.0, subst (AllByRecursion (λ z. attaches z ≡ true)) (sym cluster) (all-more (last_cluster piece) c is s.1))
          ];
        }
    with-character (inr begins) =
        let cluster : last_cluster (piece ++ c ∷ []) ≡ c ∷ [] = more-cluster piece c ∙ rw begins refl in
        record {
          front = piece;
          is = ap (λ xs. piece ++ xs) (sym cluster);
          shape = inl (c, [], cluster, begins, tt);
        }

clustered-from : (front cs : List ℕ) → Clustered front → Clustered (front ++ cs)
clustered-from front [] h = subst Clustered (sym (append-nil front)) h
clustered-from front (c ∷ cs) h = subst Clustered (append_assoc front (c ∷ []) cs) (clustered-from (front ++ c ∷ []) cs (clustered-more front c h))

clustered : (piece : List ℕ) → Clustered piece
clustered piece = clustered-from [] piece (record { front = []; is = refl; shape = inr (refl, tt) })

-- ---- the law

abbrev Adds : List ℕ → Reading → Type 0
Adds piece r = (read_before false piece r).0 ≡ (read_before false piece (r.0, plain)).0

last-only : (front : List ℕ) (y : ℕ) (b : After) → IsBare b → joins false b y ≡ None → (n : ℕ) → Adds (front ++ y ∷ []) (n, before b)
last-only front y b bare free n = ap (λ (r : Reading). r.0) (read-end front y (n, before b) ∙ ap (read_before false front) (same-step b bare y n free) ∙ sym (read-end front y (n, plain)))

module _ (piece : List ℕ) (d : ℕ) (is : IsCut piece d) where
  letter-adds : (r : Reading) → BeginsLetter d r → Adds piece r
  letter-adds r h = shape-adds (clustered piece)
    where
      own : step false d (0, plain) ≡ (0 + (alone false d).0, before h.after)
      own = step-plain d h.high 0 ∙ ap (λ s. (0 + (alone false d).0, s)) h.alone_before

      n : ℕ
      n = 0 + (alone false d).0

      some : 1 ≤ 0 + (alone false d).0
      some = omega (arith, (stands-alone d is.begins).some, high-width d h.high)

      cluster : List ℕ
      cluster = last_cluster piece

      test : (read_before false cluster (n, before h.after)).0 ≡ (read_before false cluster (n, plain)).0
      test =
          let sum : text_width cluster + character_width d ≡ text_width cluster + (0 + (alone false d).0) = omega (arith, high-width d h.high) in
          ap (λ (x : Reading). (read_before false cluster x).0) (sym own) ∙ sym (read-width cluster (d ∷ [])) ∙ is.apart ∙ sum ∙ sym (read-shifted cluster n)

      whole : r ≡ (r.0, before h.after)
      whole = ap (λ s. (r.0, s)) h.state

      shape-adds : Clustered piece → Adds piece r
      shape-adds c = elim c.shape [
        | inl s ↦
            let same : read_before false cluster (r.0, before h.after) ≡ read_before false cluster (r.0, plain) =
            subst (λ cs. read_before false cs (r.0, before h.after) ≡ read_before false cs (r.0, plain)) (sym s.2)
            (cluster-same s.0 s.1 (before h.after) plain (joining-before h.after h.letter) s.3 s.4 n some (subst (λ cs. (read_before false cs (n, before h.after)).0 ≡ (read_before false cs (n, plain)).0) s.2 test) r.0 h.some) in
            ap (λ x. (read_before false piece x).0) whole
            ∙ subst (λ cs. (read_before false cs (r.0, before h.after)).0 ≡ (read_before false cs (r.0, plain)).0) (sym c.is)
            (ap (λ (x : Reading). x.0) (read-append c.front cluster (r.0, before h.after) ∙ ap (read_before false c.front) same ∙ sym (read-append c.front cluster (r.0, plain))))
        | inr s ↦
            let all : piece ≡ cluster = c.is ∙ ap (λ xs. xs ++ cluster) s.0 in
            ap (λ x. (read_before false piece x).0) whole
            ∙ subst (λ cs. (read_before false cs (r.0, before h.after)).0 ≡ (read_before false cs (r.0, plain)).0) (sym all)
            (attached-same cluster (before h.after) plain (joining-before h.after h.letter) s.1 n some test r.0 h.some)
      ]

-- a piece before a reading of what begins with a character that begins the next piece
adds : (c : ℕ) (cs : List ℕ) (d : ℕ) → IsCut (c ∷ cs) d → (r : Reading) → First d r → Adds (c ∷ cs) r
adds c cs d is r (inl at_end) = ap (λ s. (read_before false (c ∷ cs) (r.0, s)).0) at_end
adds c cs d is r (inr (inl emoji)) =
    let e = ended c cs in
    let apart : e.end ≢ 0x200D = λ h. is.joiner emoji.above (ap last_of e.is ∙ more-last e.front e.end ∙ h) in
    ap (λ s. (read_before false (c ∷ cs) (r.0, s)).0) emoji.state ∙ subst (λ xs. Adds xs (r.0, before Emoji)) (sym e.is) (last-only e.front e.end Emoji bare_emoji (emoji-free e.end apart) r.0)
adds c cs d is r (inr (inr (inl f))) = ended-adds (ended c cs) (cases_Bool (is_indicator (ended c cs).end))
  where
    above : 32 < d
    above = grind (arith, nat_tests, f.indicator)

    ended-adds : (e : Ended (c ∷ cs)) → (is_indicator e.end ≡ true) ⊎ (is_indicator e.end ≡ false) → Adds (c ∷ cs) r
    ended-adds e (inl second) =
        ap (λ s. (read_before false (c ∷ cs) (r.0, s)).0) f.state
        ∙ subst (λ xs. Adds xs (r.0, before f.after)) (sym e.is) (flags-same e.front e.end second (ap ends_in_half_a_flag (sym e.is) ∙ is.flag f.indicator) f.after f.flag r.0 f.some)
    ended-adds e (inr other) =
        let apart : e.end ≢ 0x200D = λ h. is.joiner above (ap last_of e.is ∙ more-last e.front e.end ∙ h) in
        ap (λ s. (read_before false (c ∷ cs) (r.0, s)).0) f.state
        ∙ subst (λ xs. Adds xs (r.0, before f.after)) (sym e.is) (last-only e.front e.end f.after (bare_flag f.after f.flag) (flag-free f.after f.flag e.end other apart) r.0)
adds c cs d is r (inr (inr (inr (inl v)))) =
    let e = ended c cs in
    let apart : is_kirat_vowel e.end ≡ false = ap is_kirat_vowel (sym (ap last_of e.is ∙ more-last e.front e.end)) ∙ is.vowel v.kirat in
    ap (λ s. (read_before false (c ∷ cs) (r.0, s)).0) v.state ∙ subst (λ xs. Adds xs (r.0, before v.after)) (sym e.is) (last-only e.front e.end v.after (bare_vowel v.after v.vowel) (vowel-free v.after v.vowel e.end (no_vowel e.end apart)) r.0)
adds c cs d is r (inr (inr (inr (inr l)))) = letter-adds (c ∷ cs) d is r l

-- the columns of a piece, and of all that stands behind it
pub piece-adds : (c : ℕ) (cs : List ℕ) (d : ℕ) (rest : List ℕ) → d ≢ 10 → last_of (c ∷ cs) ≢ 10 → stays (c ∷ cs) d ≡ false → text_width ((c ∷ cs) ++ d ∷ rest) ≡ text_width (c ∷ cs) + text_width (d ∷ rest)
piece-adds c cs d rest no_newline no_end h =
    let is = cut (c ∷ cs) d no_newline no_end h in
    let r = read_before false (d ∷ rest) (0, plain) in
    read-width (c ∷ cs) (d ∷ rest)
    ∙ adds c cs d is r (first d no_newline is.begins (read_before false rest (0, plain)))
    ∙ read-shifted (c ∷ cs) r.0
    ∙ ap (λ n. text_width (c ∷ cs) + n) (sym (width-is (d ∷ rest)))
