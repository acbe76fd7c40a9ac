use Rattle.std.proofs.Common.{ap₂}
use Rattle.std.proofs.lemmas.Map.Text.{btree_map_updates_str}
use Rattle.std.specs.Str.{bytes_eq}
use Rattle.tabled_json.proofs.Columns.{find-added, none-among, none-from, option-some, with-known, with-new}
use Rattle.tabled_json.proofs.Common.{◌≡◌, ◌∷◌, ◌∙◌, ◌++◌, [], ℕ, None, Option, Some, ap, cond, length, map, map-append, not, subst, sym}
use Rattle.tabled_json.proofs.Parts.{length-map}
use Rattle.tabled_json.proofs.Tabled.{distinct-more}
use Rattle.tabled_json.specs.Tables.{AreDistinct, find_key}
use Rattle.tabled_texts.specs.Texts.{text_of, texts_of}
use Rattle.tabled_json.proofs.keys.Keys.add.Goals as goal

pub returns-in_ok-push-clause-with : goal.returns-in_ok-push-clause-with
returns-in_ok-push-clause-with c =
    let texts = texts_of c.args.self.now.texts in
    let key = c.args.key.now in
    let none : find_key key texts ≡ None = sym c.column-found.ensures ∙ none-from c.column-found.result (c.is_none.ensures ∙ ap not c.if-is_none.true) in
    ap (map text_of) c.in_ok-push.ensures.items ∙ map-append text_of c.args.self.now.texts.items (c.args.key ∷ []) ∙ with-new key texts none

pub returns-in_ok-push-clause-listed : goal.returns-in_ok-push-clause-listed
returns-in_ok-push-clause-listed c =
    let texts = texts_of c.args.self.now.texts in
    let key = c.args.key.now in
    let none : find_key key texts ≡ None = sym c.column-found.ensures ∙ none-from c.column-found.result (c.is_none.ensures ∙ ap not c.if-is_none.true) in
    let items : texts_of c.push.new.self ≡ texts ++ (key ∷ []) = ap (map text_of) c.in_ok-push.ensures.items ∙ map-append text_of c.args.self.now.texts.items (c.args.key ∷ []) in
    let count : c.len.result ≡ length texts = c.len.ensures ∙ c.args.self.now.texts.ok.0 ∙ sym (length-map text_of c.args.self.now.texts.items) in
    record {
      distinct = subst AreDistinct (sym items) (distinct-more texts key c.requires.distinct (none-among key texts none));
      found = λ q.
          btree_map_updates_str key c.args.self.now.columns c.insert.new.self _ c.in_ok-insert.ensures.updates q
          ∙ ap₂ (λ (n : ℕ) (o : Option ℕ). cond (bytes_eq key q) (Some n) o) count (c.requires.found q)
          ∙ find-added key texts (none-among key texts none) q ∙ ap (find_key q) (sym items);
    }

pub returns-else-is_none-clause-with : goal.returns-else-is_none-clause-with
returns-else-is_none-clause-with c =
    let texts = texts_of c.args.self.now.texts in
    let key = c.args.key.now in
    let some = option-some c.column-found.result (c.is_none.ensures ∙ ap not c.if-is_none.false) in
    with-known key texts some.0 (sym c.column-found.ensures ∙ some.1)
