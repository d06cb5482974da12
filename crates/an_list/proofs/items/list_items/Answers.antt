use Rattle.std.proofs.lemmas.Result.{IfOk-weaker}
use Rattle.an_list.proofs.ListedLemmas.{HasListed-sought}
use Rattle.an_list.proofs.items.list_items.Goals as goal

pub returns-clause-listed : goal.returns-clause-listed
returns-clause-listed g c =
    IfOk-weaker c.list_rows.result _ _
    (λ listed is rows stand. HasListed-sought c.args.base.now c.args.terms.now _ c.args.page.now
    rows listed c.in_ok-sought.ensures.value (is rows stand)) c.list_rows.ensures.listed
