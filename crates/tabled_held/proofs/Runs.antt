-- Characters again and again, as many of a run.
use Rattle.std.proofs.Math.Nat.{mul-div_cancel_left, suc-mul}
use Rattle.std.proofs.Math.Seq.{take-append_seam}
use Rattle.std.proofs.lemmas.Nat.{div-add-mod'}
use Rattle.std.proofs.Common.{◌%◌, ◌*◌, ◌++◌, ◌+◌, ◌-◌, ◌/◌, ◌<◌, ◌∙◌, ◌≡◌, ap, ap₂, arith, encode_utf8, encode_utf8_all, length, length-append, lit<, replicate, suc, sym, take, zero, ℕ}
use Rattle.std.proofs.lemmas.List.{replicate-append-replicate}
use Rattle.std.proofs.lemmas.Str.{encodes-append}
use Rattle.tabled_held.specs.Runs.{run_of}

encodes-long : (n c : ℕ) → length (encode_utf8_all (replicate n c)) ≡ n * length (encode_utf8 c)
encodes-long zero c = omega arith
encodes-long (suc n) c =
    let size = length (encode_utf8 c) in
    let more : length (encode_utf8_all (replicate n c)) ≡ n * size = encodes-long n c in
    length-append (encode_utf8 c) (encode_utf8_all (replicate n c)) ∙ omega (arith, more) ∙ sym (suc-mul n size)

-- some, and others after them
encodes-both : (n m k c : ℕ) → n + m ≡ k → encode_utf8_all (replicate n c) ++ encode_utf8_all (replicate m c) ≡ encode_utf8_all (replicate k c)
encodes-both n m k c is = sym (encodes-append (replicate n c) (replicate m c)) ∙ ap encode_utf8_all (replicate-append-replicate n m c ∙ ap (λ i. replicate i c) is)

-- as many as a run has
pub run-whole : (n c : ℕ) → n ≡ 64 → encode_utf8_all (replicate n c) ≡ run_of c
unfolding run_of
run-whole n c is = ap (λ i. encode_utf8_all (replicate i c)) is

-- the first n of a run
run-part : (n c : ℕ) → n < 64 → take (n * (length (run_of c) / 64)) (run_of c) ≡ encode_utf8_all (replicate n c)
unfolding run_of
run-part n c less =
    let size : length (encode_utf8_all (replicate 64 c)) / 64 ≡ length (encode_utf8 c) = ap (λ n. n / 64) (encodes-long 64 c) ∙ mul-div_cancel_left (length (encode_utf8 c)) (lit< tt) in
    ap₂ (λ k xs. take k xs) (ap (λ k. n * k) size ∙ sym (encodes-long n c)) (sym (encodes-both n (64 - n) 64 c (omega (arith, less))))
    ∙ take-append_seam (encode_utf8_all (replicate n c)) (encode_utf8_all (replicate (64 - n) c))

-- one run more
pub run-more : (k c : ℕ) → encode_utf8_all (replicate (k * 64) c) ++ run_of c ≡ encode_utf8_all (replicate ((k + 1) * 64) c)
unfolding run_of
run-more k c = encodes-both (k * 64) 64 ((k + 1) * 64) c (omega arith)

-- runs, and what is left
pub runs-all : (k n c : ℕ) → k ≡ n / 64 → encode_utf8_all (replicate (k * 64) c) ++ take (n % 64 * (length (run_of c) / 64)) (run_of c) ≡ encode_utf8_all (replicate n c)
runs-all k n c is = ap (λ xs. encode_utf8_all (replicate (k * 64) c) ++ xs) (run-part (n % 64) c (omega arith)) ∙ encodes-both (k * 64) (n % 64) n c (ap (λ i. i * 64 + n % 64) is ∙ div-add-mod' n 64)
