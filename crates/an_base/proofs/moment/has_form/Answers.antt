use Rattle.std.proofs.Common.{◌≡◌, ◌==◌, true, length, eq-eqb, rules, tests}
use Rattle.std.proofs.lemmas.Iterator.{YieldsList-from_slice, YieldsList-from_zip}
use Rattle.std.proofs.lemmas.Iterator.Search.{all_from_yields_List}
use Rattle.an_base.specs.Moment.{has_form, fits, form}
use Rattle.an_base.proofs.moment.has_form.Goals as goal

pub returns-then-bytes : goal.returns-then-bytes
unfolding has_form
returns-then-bytes c =
    let all =
    all_from_yields_List {s = c.zip.result} (λ pair. fits pair.0 pair.1) c.all.new.self _
    c.all.result c.all.ensures.ran
    (YieldsList-from_zip {s = c.zip.result} (YieldsList-from_slice c.args.bytes.now cc)
    (YieldsList-from_slice form cc))
    (λ x b q k. search (rules, tests)) in
    let long : (length c.args.bytes.now == 20) ≡ true =
    eq-eqb (length c.args.bytes.now) 20 c.if-bytes.true in
    rw long all
