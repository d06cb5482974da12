use Rattle.std.proofs.Common.{◌≡◌, ◌<◌, Bool, true, false, not, length, sym, ◌∙◌, refl, arith}
use Rattle.std.specs.Prelude.{bytes_eq}
use Rattle.std.proofs.lemmas.Slice.Eq.{bytes_eq-Decides}
use Rattle.an_listed.proofs.AlikeLemmas.{alike_more}
use Rattle.an_listed.proofs.keys.have_same_terms.Goals as goal

holds : (b : Bool) → false ≡ not b → b ≡ true
holds true e = refl
holds false e = cc

pub loop-at-preserved : goal.loop-at-preserved
loop-at-preserved c =
    let within : c.loop-at.at < length c.args.keys.now.terms =
    omega (arith, c.len-at-end.ensures.length, c.loop-at-test.true) in
    let same : bytes_eq c.term.result.now c.term-in-loop-at.result.now ≡ true =
    holds (bytes_eq c.term.result.now c.term-in-loop-at.result.now)
    (sym c.if-ne.false ∙ c.ne.ensures) in
    let term : c.term.result.now ≡ c.term-in-loop-at.result.now =
    (bytes_eq-Decides c.term.result.now c.term-in-loop-at.result.now).0 same in
    record {
      long = c.loop-at.invariant.long;
      alike =
          alike_more c.args.own.now.terms c.args.keys.now.terms c.loop-at.at
          (omega (arith, within, c.loop-at.invariant.long)) within c.loop-at.invariant.alike
          (sym c.term.ensures.term ∙ term ∙ c.term-in-loop-at.ensures.term)
          (sym c.total.ensures.total ∙ c.if-total.false ∙ c.total-else-ne.ensures.total);
    }
