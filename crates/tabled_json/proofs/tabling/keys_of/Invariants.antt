use Rattle.tabled_json.proofs.Common.{◌≡◌, take}
use Rattle.tabled_json.specs.Records.{all_of}
use Rattle.tabled_json.specs.Tables.{AreListed, keys_of}
use Rattle.tabled_texts.specs.Texts.{texts_of}
use Rattle.tabled_json.proofs.tabling.keys_of.Given as goal

abbrev pub invariant-loop-object : goal.invariant-loop-object
invariant-loop-object l = record {
  keys : texts_of l.keys.texts ≡ keys_of (all_of (take l.object-index l.objects));
  listed : AreListed l.keys;
}
