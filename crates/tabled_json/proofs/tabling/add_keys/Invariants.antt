use Rattle.tabled_json.proofs.Common.{◌≡◌, take}
use Rattle.tabled_json.specs.Records.{list_of}
use Rattle.tabled_json.specs.Tables.{AreListed, with_members}
use Rattle.tabled_texts.specs.Texts.{texts_of}
use Rattle.tabled_json.proofs.tabling.add_keys.Given as goal

abbrev pub invariant-loop-member : goal.invariant-loop-member
invariant-loop-member l = record {
  keys : texts_of l.keys.texts ≡ with_members (texts_of l.fn.keys.texts) (list_of (take l.member-index l.object));
  listed : AreListed l.keys;
}
