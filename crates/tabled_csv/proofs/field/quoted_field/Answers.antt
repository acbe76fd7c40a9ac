use Rattle.tabled_csv.proofs.Common.{Dialect, true, ◌∷◌, ◌+◌, ◌-◌, ◌∙◌, ◌≡◌, IsUtf8, List, drop, length, subst, sym, take, take_rest, ℕ}
use Rattle.tabled_csv.proofs.Fielding.{behind-fault, quoted-form}
use Rattle.tabled_csv.specs.Fields.{ClosedBy, ClosesAt, FormAt, StopsQuoted}
use Rattle.tabled_csv.specs.declared.quoted.Closing.{Closing}
use Rattle.tabled_csv.specs.declared.stop.Stop.{Stop}
use Rattle.tabled_csv.proofs.Utf8Parts.{inner-utf8}
use Rattle.tabled_csv.proofs.field.quoted_field.Goals as goal

closes : (behind : List ℕ) (closing : Closing) (closed : ClosedBy behind closing) → ClosesAt behind closed.text (take (length behind - (closing.place + 1)) (drop (closing.place + 1) behind))
closes behind closing closed = subst (ClosesAt behind closed.text) (sym (take_rest behind (closing.place + 1))) closed.closes

form : (d : Dialect) (bytes behind : List ℕ) (closing : Closing) (closed : ClosedBy behind closing) (stop : Stop) (after : List ℕ) → bytes ≡ 34 ∷ behind → d.quoting ≡ true
    → StopsQuoted d.separator (take (length behind - (closing.place + 1)) (drop (closing.place + 1) behind)) stop after → FormAt d bytes closed.text stop after
form d bytes behind closing closed stop after begins quoting stops = quoted-form d bytes behind begins quoting closed.text _ stop after (closes behind closing closed) stops

pub returns-in_default-stop_at : goal.returns-in_default-stop_at
returns-in_default-stop_at c =
    behind-fault c.args.dialect c.args.bytes.now c.args.behind.now c.in-Some.ensures.text _ c.requires.behind c.requires.quoting
    (closes c.args.behind.now c.in-Some.closing c.in-Some.ensures) c.in_default-stop_at.ensures

pub returns-in_default-from_utf8 : goal.returns-in_default-from_utf8
returns-in_default-from_utf8 c =
    let closed = c.in-Some.ensures in
    let stop = c.in-Some-stop_at.stop in
    let after = c.in-Some-stop_at.after.now in
    let is : c.in_ok-undoubled.field-0.now ≡ closed.text = c.in_ok-undoubled.ensures closed.text closed.inner in (
      closed.text,
      stop,
      after,
      form c.args.dialect c.args.bytes.now c.args.behind.now c.in-Some.closing closed stop after c.requires.behind c.requires.quoting c.in-Some-stop_at.ensures,
      (λ valid. c.in_default-from_utf8.ensures.cases.0 (subst IsUtf8 (sym is) valid)),
      c.left_behind_text.ensures,
    )

pub is_utf8-requires : goal.is_utf8-requires
is_utf8-requires c is = inner-utf8 c.args.bytes.now c.args.behind.now c.in-Some.closing c.requires.behind c.in-Some.ensures (c.requires.text is)

pub returns-then-closing : goal.returns-then-closing
returns-then-closing c =
    let closed = c.in-Some.ensures in
    let stop = c.in-Some-stop_at.stop in
    let after = c.in-Some-stop_at.after.now in
    let read = c.in-Ok.ensures.cases in
    let is : c.in-Ok.text.now ≡ closed.text = read.0 ∙ c.in_ok-undoubled.ensures closed.text closed.inner in
    record {
      utf8 = subst IsUtf8 (sym read.0) read.1;
      at = subst (λ (text : List ℕ). FormAt c.args.dialect c.args.bytes.now text stop after) (sym is)
          (form c.args.dialect c.args.bytes.now c.args.behind.now c.in-Some.closing closed stop after c.requires.behind c.requires.quoting c.in-Some-stop_at.ensures);
    }

pub returns-then-not-is_utf8 : goal.returns-then-not-is_utf8
returns-then-not-is_utf8 c =
    let closed = c.in-Some.ensures in
    let stop = c.in-Some-stop_at.stop in
    let after = c.in-Some-stop_at.after.now in (
      closed.text,
      stop,
      after,
      form c.args.dialect c.args.bytes.now c.args.behind.now c.in-Some.closing closed stop after c.requires.behind c.requires.quoting c.in-Some-stop_at.ensures,
      (λ valid. c.if-not-is_utf8.ensures (subst IsUtf8 (sym (closed.same c.if-closing.false)) valid)),
      c.left_behind_text-then-not-is_utf8.ensures,
    )

pub returns : goal.returns
returns c =
    let closed = c.in-Some.ensures in
    let stop = c.in-Some-stop_at.stop in
    let after = c.in-Some-stop_at.after.now in
    let whole = c.from_utf8_unchecked.ensures in
    record {
      utf8 = subst IsUtf8 (sym whole) c.if-not-is_utf8.ensures;
      at = subst (λ (text : List ℕ). FormAt c.args.dialect c.args.bytes.now text stop after) (sym (whole ∙ closed.same c.if-closing.false))
          (form c.args.dialect c.args.bytes.now c.args.behind.now c.in-Some.closing closed stop after c.requires.behind c.requires.quoting c.in-Some-stop_at.ensures);
    }
