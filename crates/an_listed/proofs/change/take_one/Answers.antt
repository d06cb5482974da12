use Rattle.std.proofs.Common.{◌≡◌, ℕ, ◌-◌, Bool, false, cond, sym, ap, ◌∙◌, refl}
use Rattle.an_postings.specs.Postings.{count_in, places_in}
use Rattle.an_slots.specs.Places.{without_place}
use Rattle.an_slots.specs.Rows.{is_posted, parts_in}
use Rattle.an_slots.specs.Slot.{Slot, at, slot_of}
use Rattle.an_listed.specs.Keys.{slot_at, total_at}
use Rattle.an_listed.proofs.change.take_one.Goals as goal

pub returns-then-are_at-clause-counts : goal.returns-then-are_at-clause-counts
returns-then-are_at-clause-counts c =
    let told : Slot × ℕ = (
      slot_of c.manifest-manifest.result.now c.term-term.result.now c.class-class.result,
      c.total.result,
    ) in
    let is : told ≡ (slot_at c.args.keys.now c.args.at, total_at c.args.keys.now c.args.at) =
    rw (
      c.manifest-manifest.ensures.manifest,
      c.term-term.ensures.term,
      c.class-class.ensures.class,
      c.total.ensures.total,
    ) refl in
    c.take.ensures.count
    ∙ ap (λ (p : Slot × ℕ). at p.0 (λ m. m - p.1) (count_in c.args.lists.now)) is

pub returns-else-are_at-clause-counts : goal.returns-else-are_at-clause-counts
returns-else-are_at-clause-counts c =
    let told : Slot × ℕ = (
      slot_of c.manifest-manifest.result.now c.term-term.result.now c.class-class.result,
      c.total-else-are_at.result,
    ) in
    let is : told ≡ (slot_at c.args.keys.now c.args.at, total_at c.args.keys.now c.args.at) =
    rw (
      c.manifest-manifest.ensures.manifest,
      c.term-term.ensures.term,
      c.class-class.ensures.class,
      c.total-else-are_at.ensures.total,
    ) refl in
    c.take_out.ensures.count
    ∙ ap (λ (p : Slot × ℕ). at p.0 (λ m. m - p.1) (count_in c.args.lists.now)) is

pub returns-else-are_at-clause-places : goal.returns-else-are_at-clause-places
returns-else-are_at-clause-places c =
    let now = places_in c.args.lists.now in
    let slot = slot_at c.args.keys.now c.args.at in
    let told : Slot =
    slot_of c.manifest-manifest.result.now c.term-term.result.now c.class-class.result in
    let is : told ≡ slot =
    rw (c.manifest-manifest.ensures.manifest, c.term-term.ensures.term, c.class-class.ensures.class)
    refl in
    let out : false ≡ is_posted slot (parts_in c.args.new.now) =
    sym c.if-are_at.false ∙ c.are_at.ensures
    ∙ ap (λ (s : Slot). is_posted s (parts_in c.args.new.now)) is in
    c.take_out.ensures.places
    ∙ ap (λ (s : Slot). at s (without_place c.args.place) now) is
    ∙ ap (λ (b : Bool). cond b now (at slot (without_place c.args.place) now)) out
