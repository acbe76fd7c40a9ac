use Rattle.tabled_language.proofs.Common.{IsUtf8-had}
use Rattle.tabled_language.proofs.short.ShortText.as_str.Goals as goal

pub from_utf8_unchecked-requires : goal.from_utf8_unchecked-requires
from_utf8_unchecked-requires c = IsUtf8-had _ c.self.invariant.2
