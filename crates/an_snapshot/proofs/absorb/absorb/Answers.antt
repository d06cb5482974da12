use Rattle.std.proofs.Common.{◌≡◌, List, All, map, sym, ap, subst, ◌∙◌}
use Rattle.an_policy.specs.declared.group.Audience.{Audience}
use Rattle.an_state.specs.Entries.{with_rows, after}
use Rattle.an_state.specs.State.{State}
use Rattle.an_state.specs.declared.activity.Activity.{Activity}
use Rattle.an_state.specs.declared.entry.Entry.{Entry}
use Rattle.an_state.specs.declared.entry.Row.{Row}
use Rattle.an_listed.specs.declared.filed.Filed.{Filed}
use Rattle.an_snapshot.specs.Fits.{rows_of}
use Rattle.an_snapshot.specs.Listing.{IsFiled}
use Rattle.an_snapshot.specs.Plan.{state_behind}
use Rattle.an_snapshot.specs.Steps.{row_of_step}
use Rattle.an_snapshot.proofs.StepLemmas.{after-behind, filed-behind, listing-after, listing-grown, steps-filed}
use Rattle.an_snapshot.specs.Changes.{IsChangeFiled, KeptChanges}
use Rattle.an_snapshot.specs.declared.change.FiledChange.{FiledChange}
use Rattle.an_snapshot.proofs.AddedLemmas.{changes-after, changes-grown, changes-prepared}
use Rattle.an_snapshot.proofs.AllLemmas.{All-gives}
use Rattle.an_snapshot.proofs.ChangeLemmas.{change-grown}
use Rattle.an_snapshot.proofs.PairLemmas.{Extends-refl}
use Rattle.an_snapshot.proofs.absorb.absorb.Goals as goal

pub returns-in-Some-clause-listing : goal.returns-in-Some-clause-listing
returns-in-Some-clause-listing c =
    let s : State = c.args.book.now.state in
    let entry : Entry = c.args.entry.now in
    let old : List Audience = c.changes_of.new.classes in
    let new : List Audience = c.prepare.new.classes in
    let rows : List Filed = c.args.listed.now.rows in
    let listing =
    listing-grown s c.args.classes.now old rows c.changes_of.ensures.grows c.requires.listing in
    let steps = c.in-Some.prepared.steps.items in
    let activities : List Activity = c.in-Some.prepared.activities.items in
    let t : State = with_rows (rows_of entry) s in
    let planned = rw c.in-Some.is at c.in_ok-prepared.ensures.planned in
    let state : c.put.new.book.state ≡ after s entry =
    c.put.ensures.state
    ∙ ap (λ (u : State). state_behind u (map row_of_step steps) activities) c.prepare.ensures.state
    ∙ ap (λ (l : List Row). state_behind s l activities) planned.1
    ∙ ap (state_behind s (rows_of entry)) planned.3
    ∙ after-behind s entry in
    let before =
    subst (All (IsFiled t new)) (sym c.prepare.ensures.rows)
    (filed-behind entry s old new rows c.prepare.ensures.grows listing planned.0) in
    rw state (listing-after entry s old new rows c.put.new.listed.rows listing planned.0
    (c.put.ensures.notes ∙ ap (λ (u : State). u.notes) state)
    (c.put.ensures.filed t new (steps-filed t new steps planned.2) before))

pub returns-in-Some-clause-changes : goal.returns-in-Some-clause-changes
returns-in-Some-clause-changes c =
    let s : State = c.args.book.now.state in
    let entry : Entry = c.args.entry.now in
    let first : List Audience = c.args.classes.now in
    let old : List Audience = c.changes_of.new.classes in
    let new : List Audience = c.prepare.new.classes in
    let changes : KeptChanges = c.changes_of.new.changes in
    let added : List FiledChange = c.in_ok-added.added.items in
    let steps = c.in-Some.prepared.steps.items in
    let activities : List Activity = c.in-Some.prepared.activities.items in
    let planned = rw c.in-Some.is at c.in_ok-prepared.ensures.planned in
    let state : c.put.new.book.state ≡ after s entry =
    c.put.ensures.state
    ∙ ap (λ (u : State). state_behind u (map row_of_step steps) activities) c.prepare.ensures.state
    ∙ ap (λ (l : List Row). state_behind s l activities) planned.1
    ∙ ap (state_behind s (rows_of entry)) planned.3
    ∙ after-behind s entry in
    let kept =
    changes-grown s first new c.args.changes.now changes
    (λ audience class is.
    c.prepare.ensures.grows audience class (c.changes_of.ensures.grows audience class is))
    c.changes_of.ensures.extends c.changes_of.ensures.rows c.requires.changes in
    let filed =
    All-gives (IsChangeFiled old changes.pairs) (IsChangeFiled new changes.pairs) added
    (change-grown old new c.prepare.ensures.grows changes.pairs changes.pairs
    (Extends-refl changes.pairs)) c.in_ok-added.ensures.filed in
    rw state (changes-after entry s new changes c.add_changes.new.changes added kept
    c.add_changes.ensures.rows c.add_changes.ensures.pairs c.in_ok-added.ensures.added filed)

pub returns-in_err-added-clause-changes : goal.returns-in_err-added-clause-changes
returns-in_err-added-clause-changes c =
    changes-grown c.args.book.now.state c.args.classes.now c.changes_of.new.classes
    c.args.changes.now c.changes_of.new.changes c.changes_of.ensures.grows
    c.changes_of.ensures.extends c.changes_of.ensures.rows c.requires.changes

pub returns-in_err-prepared-clause-changes : goal.returns-in_err-prepared-clause-changes
returns-in_err-prepared-clause-changes c =
    changes-prepared c.args.book.now.state c.prepare.new.book.state c.args.classes.now
    c.changes_of.new.classes c.prepare.new.classes c.args.changes.now c.changes_of.new.changes
    c.prepare.ensures.state c.changes_of.ensures.grows c.prepare.ensures.grows
    c.changes_of.ensures.extends c.changes_of.ensures.rows c.requires.changes

pub returns-in-None-clause-changes : goal.returns-in-None-clause-changes
returns-in-None-clause-changes c =
    changes-prepared c.args.book.now.state c.prepare.new.book.state c.args.classes.now
    c.changes_of.new.classes c.prepare.new.classes c.args.changes.now c.changes_of.new.changes
    c.prepare.ensures.state c.changes_of.ensures.grows c.prepare.ensures.grows
    c.changes_of.ensures.extends c.changes_of.ensures.rows c.requires.changes
