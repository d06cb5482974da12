use Rattle.std.proofs.Common.{◌&&◌, None, ap, subst, sym, ◌∙◌}
use Rattle.std.proofs.lemmas.Result.{IfOk-weaker}
use Rattle.an_slots.specs.Places.{Rises, has, places_from}
use Rattle.an_listed.specs.Filed.{is_under}
use Rattle.an_listed.specs.declared.filed.Filed.{Filed}
use Rattle.an_listed.proofs.asks.readable_anywhere.Goals as goal

pub places_of-requires : goal.places_of-requires
places_of-requires c =
    record { rises = subst (Rises 0) (sym c.as_slice.ensures.value) c.in_ok-read.ensures.rises }

pub returns : goal.returns
returns c =
    let rows = c.args.rows.now in
    let listed =
    ap
    (λ read. places_from {A = Filed} (λ row. is_under None row.note && has row.class read) 0 rows)
    c.as_slice.ensures.value in
    let judged =
    ap (λ test. places_from {A = Filed} test 0 rows)
    (λ i row. is_under None row.note && c.in_ok-read.ensures.read row.class i) in
    record {
      places =
          IfOk-weaker c.places_of.result _ _
          (λ places are. are ∙ listed ∙ judged) c.places_of.ensures;
    }
