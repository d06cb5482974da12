use Rattle.std.proofs.Common.{Bool, ◌&&◌, map, sym, ap, ◌∙◌}
use Rattle.an_base.specs.TextSet.{has_text}
use Rattle.an_listed.proofs.KeyLemmas.{posted-keys}
use Rattle.an_listed.proofs.keys.Keys.are_at.Goals as goal

pub returns-then-are_under : goal.returns-then-are_under
returns-then-are_under c =
    let keys = c.args.self.now in
    let term = c.args.term.now in
    record {
      at =
          c.has.ensures
          ∙ ap (λ (b : Bool). b && has_text term (map (λ e. e.term) keys.terms))
          (sym (sym c.are_under.ensures ∙ c.if-are_under.true))
          ∙ sym (posted-keys c.args.manifest.now term c.args.class keys);
    }

pub returns-else-are_under : goal.returns-else-are_under
returns-else-are_under c =
    let keys = c.args.self.now in
    let term = c.args.term.now in
    record {
      at =
          c.if-are_under.false
          ∙ ap (λ (b : Bool). b && has_text term (map (λ e. e.term) keys.terms))
          (sym (sym c.are_under.ensures ∙ c.if-are_under.false))
          ∙ sym (posted-keys c.args.manifest.now term c.args.class keys);
    }
