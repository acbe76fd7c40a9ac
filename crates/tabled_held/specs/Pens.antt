-- What a pen has drawn: what its writer has got, and what is held for it.
use Rattle.std.specs.Prelude.{◌≡◌, ℕ, List, [], Option, Result, encode_utf8_all}
use Rattle.std.specs.Borrow.{MutBor}
use Rattle.std.specs.Result.{result_err}
use Rattle.std.specs.declared.io.Error.{Error}
use Rattle.tabled_held.specs.declared.pen.Pen.{Pen}
use Rattle.tabled_held.specs.Sent.{GrowsBy, Kept}

-- bytes are sent to a pen's writer, or held for it, unless the writer has failed
pub record Sends {W : Type 0} (contents : W → Option (List ℕ)) (old new : Pen W) (bytes : List ℕ) : Type 0 where
  pub same_writer : new.writer.ghost_name ≡ old.writer.ghost_name
  pub grows : GrowsBy (contents old.writer.now) old.held (contents new.writer.now) new.held bytes

-- so are the bytes of characters
pub record Draws {W : Type 0} (contents : W → Option (List ℕ)) (old new : Pen W) (cs : List ℕ) : Type 0 where
  pub sends : Sends contents old new (encode_utf8_all cs)

-- a pen's writer is given back: what was held is sent, and it is told whether the writer has failed
pub record IsDone {W T : Type 0} (contents : W → Option (List ℕ)) (old : Pen W) (writer : MutBor W) (outcome : Result T Error) : Type 0 where
  pub same_writer : writer.ghost_name ≡ old.writer.ghost_name
  pub left : Kept
  pub grows : GrowsBy (contents old.writer.now) old.held (contents writer.now) left []
  pub empty : left.bytes ≡ []
  pub told : left.failure ≡ result_err outcome
