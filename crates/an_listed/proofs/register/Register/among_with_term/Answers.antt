use Rattle.std.proofs.Common.{◌≡◌, ℕ, Bool, List, IfOk, ap, subst, ◌∙◌}
use Rattle.std.specs.List.{flat_map}
use Rattle.std.specs.Option.{option_copied}
use Rattle.std.proofs.lemmas.Result.{IfOk-weaker}
use Rattle.std.specs.Prelude.{filter}
use Rattle.an_policy.specs.Audience.{identity}
use Rattle.an_postings.specs.Postings.{Lists, places_in}
use Rattle.an_slots.specs.Places.{ascending, has}
use Rattle.an_slots.specs.Slot.{slot_of}
use Rattle.an_slots.specs.Texts.{under}
use Rattle.an_listed.specs.Filed.{reads}
use Rattle.an_listed.specs.Stands.{text_within}
use Rattle.an_listed.proofs.AmongLemmas.{looked-up}
use Rattle.an_listed.proofs.ReadLemmas.{words-read}
use Rattle.an_listed.proofs.register.Register.among_with_term.Goals as goal

pub returns-then-length_of-places : goal.returns-then-length_of-places
returns-then-length_of-places c =
    let read : ℕ → Bool = reads (identity c.args.who.now) c.args.classes.now in
    let term = c.args.term.now in
    let own = c.lists_of-own.ensures.lists
    ∙ ap (λ (m : List ℕ). under term (under m c.lists_within-lists.result.now))
    c.text_within-text.ensures
    ∙ ap (λ (lists : Lists). under term (under (text_within (option_copied c.args.manifest)) lists))
    c.lists_within-lists.ensures.lists in
    let same =
    looked-up c.args.self.now c.args.rows.now c.requires.stands
    (option_copied c.args.manifest) term read c.lists_of-own.result.now own c.args.places.now in
    record {
      having =
          subst (λ meant. IfOk c.looked_up.result (λ having. having.items ≡ meant)) same
          c.looked_up.ensures.having;
    }

pub returns : goal.returns
returns c =
    let lists = c.lists_within-lists.result.now in
    let text = c.text_within-text.result.now in
    let term = c.args.term.now in
    let passes : ℕ → Bool = reads (identity c.args.who.now) c.args.classes.now in
    let same =
    ap
    (λ (cs : List ℕ). ascending (flat_map (λ class. places_in lists (slot_of text term class)) cs))
    c.as_slice.ensures.value
    ∙ words-read c.args.self.now c.args.rows.now c.requires.stands (option_copied c.args.manifest)
    lists text c.lists_within-lists.ensures.lists c.text_within-text.ensures term passes
    c.in_ok-read.read.items c.in_ok-read.ensures.read c.in_ok-read.ensures.others in
    record {
      having =
          IfOk-weaker c.common.result _ _
          (λ having is.
          is ∙ ap (λ (others : List ℕ). filter (λ place. has place others) c.args.places.now) same)
          c.common.ensures.common;
    }
