-- Runs: characters again and again.
use Rattle.std.specs.Prelude.{ℕ, List, encode_utf8_all, replicate}

-- the bytes of a run of a character
unfoldable pub run_of : ℕ → List ℕ
run_of c = encode_utf8_all (replicate 64 c)
