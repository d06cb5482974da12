use Rattle.std.proofs.Common.{◌∙◌, ap, ap₂}
use Rattle.std.specs.Prelude.{string_bytes}
use Rattle.std.specs.String.{string_cmp}
use Rattle.an_postings.specs.Heads.{head_cmp}
use Rattle.an_postings.specs.HeadOrder.{key_order}
use Rattle.an_postings.proofs.term_key.TermKeyOrd.cmp.Goals as goal

pub returns : goal.returns
returns c =
    c.compare.ensures
    ∙ ap₂ (λ m bs. head_cmp m bs (string_bytes c.args.other.now)) c.self.invariant
    c.as_str.ensures.value
    ∙ key_order c.self.inside.text c.args.other.now
    ∙ ap (λ k. string_cmp k c.args.other.now) c.self.view_is
