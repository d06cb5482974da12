use Rattle.std.proofs.Common.{◌≡◌, ◌<◌, ◌++◌, length, sym, ap, ap₂, ◌∙◌, arith, length-append}
use Rattle.std.proofs.lemmas.Bool.{cond-true, eq-eqb}
use Rattle.std.specs.Str.{chars}
use Rattle.an_selectors.specs.Places.{places_of_quote}
use Rattle.an_selectors.specs.Walk.{spans_of}
use Rattle.an_selectors.proofs.PlaceLemmas.{chars_whole, places_of_quote-whole, places-longer}
use Rattle.an_selectors.proofs.place.places_of_quote.Goals as goal

pub returns-then-is_shorter : goal.returns-then-is_shorter
returns-then-is_shorter c =
    places-longer _ _ _ _ c.utf8.exact c.utf8.prefix c.utf8.suffix c.utf8.text
    (c.is_shorter.ensures c.if-is_shorter.true) _ c.new.ensures.items

pub returns-then-width-eq0 : goal.returns-then-width-eq0
unfolding places_of_quote
returns-then-width-eq0 c =
    let none : length (chars c.args.exact.now) ≡ 0 =
    omega (arith, c.char_count-width.ensures.count) in
    c.new-then-width-eq0.ensures.items ∙ sym (cond-true _ _ _ (eq-eqb _ _ none))

pub spans_of-requires-clause-within : goal.spans_of-requires-clause-within
spans_of-requires-clause-within c =
    let points =
    chars_whole c.as_str.result.now c.args.exact.now c.args.prefix.now c.args.suffix.now
    c.utf8.prefix c.utf8.exact (c.as_str.ensures.value ∙ c.in_ok-whole.ensures.ok) in
    omega (
      arith,
      c.char_count.ensures.count,
      c.char_count-width.ensures.count,
      ap length points,
      length-append (chars c.args.prefix.now) (chars c.args.exact.now ++ chars c.args.suffix.now),
      length-append (chars c.args.exact.now) (chars c.args.suffix.now),
    )

pub returns : goal.returns
returns c =
    let exact = chars c.args.exact.now in
    let prefix = chars c.args.prefix.now in
    let suffix = chars c.args.suffix.now in
    let points = chars c.args.text.now in
    let whole =
    chars_whole c.as_str.result.now c.args.exact.now c.args.prefix.now c.args.suffix.now
    c.utf8.prefix c.utf8.exact (c.as_str.ensures.value ∙ c.in_ok-whole.ensures.ok) in
    let some : 0 < length exact = omega (arith, c.char_count-width.ensures.count) in
    let same : spans_of (chars c.as_str.result.now) c.char_count.result
    c.char_count-width.result points ≡ places_of_quote exact prefix suffix points =
    ap (λ needle. spans_of needle c.char_count.result c.char_count-width.result points) whole
    ∙ ap₂ (λ before width. spans_of (prefix ++ (exact ++ suffix)) before width points)
    c.char_count.ensures.count c.char_count-width.ensures.count
    ∙ places_of_quote-whole exact prefix suffix points some in
    rw (← same) c.spans_of.ensures
