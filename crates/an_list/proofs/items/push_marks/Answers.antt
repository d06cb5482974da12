use Rattle.std.proofs.Common.{◌+◌, sym, ◌∙◌}
use Rattle.an_list.proofs.ListedLemmas.{empty_of, unmarked-count, unmarked-text}
use Rattle.an_list.proofs.items.push_marks.Goals as goal

pub returns-then-len-eq0-clause-text : goal.returns-then-len-eq0-clause-text
returns-then-len-eq0-clause-text c =
    unmarked-text c.args.base.now c.args.terms.now c.args.page.now (c.args.marks.count + 1)
    c.args.row.now _ (empty_of c.args.terms.now (sym c.len.ensures.length ∙ c.if-len-eq0.true))

pub returns-then-len-eq0-clause-count : goal.returns-then-len-eq0-clause-count
returns-then-len-eq0-clause-count c =
    unmarked-count c.args.base.now c.args.terms.now c.args.page.now (c.args.marks.count + 1)
    c.args.row.now _ (empty_of c.args.terms.now (sym c.len.ensures.length ∙ c.if-len-eq0.true))
