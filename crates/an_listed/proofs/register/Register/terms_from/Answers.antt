use Rattle.std.proofs.Common.{ℕ, Bool, List, ap, ◌∙◌}
use Rattle.std.specs.Option.{option_copied}
use Rattle.an_policy.specs.Audience.{identity}
use Rattle.an_postings.specs.Totals.{told_from}
use Rattle.an_slots.specs.Texts.{under}
use Rattle.an_listed.specs.Filed.{reads}
use Rattle.an_listed.specs.Stands.{text_within}
use Rattle.an_listed.proofs.ReadLemmas.{counts-read, if_both}
use Rattle.an_listed.proofs.register.Register.terms_from.Goals as goal

pub returns : goal.returns
returns c =
    let passes : ℕ → Bool = reads (identity c.args.who.now) c.args.classes.now in
    let read = c.in_ok-read.read.items in
    let prefix = c.args.prefix.now in
    let own = under c.text_within.result.now c.lists_within-lists.result.now in
    let is = ap (λ (m : List ℕ). under m c.lists_within-lists.result.now) c.text_within.ensures
    ∙ ap (under (text_within (option_copied c.args.manifest))) c.lists_within-lists.ensures.lists in
    record {
      terms = if_both c.from_prefix.result _ _ _ (λ terms told climbs rows stands.
          told
          ∙ ap (λ (cs : List ℕ). told_from prefix cs own) c.as_slice.ensures.value
          ∙ counts-read c.args.self.now rows stands (option_copied c.args.manifest) passes read
          (c.in_ok-read.ensures.read rows stands) c.in_ok-read.ensures.rises own is climbs prefix)
          c.from_prefix.ensures.told c.from_prefix.ensures.ascending;
    }
