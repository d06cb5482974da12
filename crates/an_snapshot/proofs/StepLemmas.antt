-- What is planned over what rows leave is so behind the rows, and what steps make of a snapshot's
-- lists.
use Rattle.std.proofs.Common.{◌≡◌, true, List, [], ◌∷◌, ◌++◌, All, map, refl, sym, ap, ◌∙◌}
use Rattle.std.specs.List.{flat_map}
use Rattle.std.proofs.lemmas.Bool.{and_parts}
use Rattle.std.proofs.lemmas.List.Elements.{All-append, All-cons, All-head, All-tail}
use Rattle.an_policy.specs.Audience.{deciding}
use Rattle.an_policy.specs.Classes.{Grows}
use Rattle.an_policy.specs.declared.group.Audience.{Audience}
use Rattle.an_state.specs.Entries.{with_row, with_rows, after}
use Rattle.an_keyed.proofs.PutLemmas.{distinct-put_row}
use Rattle.an_state.specs.State.{State, ManifestState, NoteState, empty, is_distinct, keys_are_distinct, reader_key}
use Rattle.an_state.specs.View.{audience_of_note}
use Rattle.an_state.specs.declared.activity.Activity.{Activity}
use Rattle.an_state.specs.declared.entry.Entry.{Entry}
use Rattle.an_state.specs.declared.entry.Entry.TheVariants.{Restored, Done}
use Rattle.an_state.specs.declared.entry.Row.{Row}
use Rattle.an_state.specs.declared.entry.Row.TheVariants as kept
use Rattle.an_state.proofs.DistinctLemmas.{distinct-after, distinct-empty}
use Rattle.an_listed.specs.Room.{HasRoom}
use Rattle.an_listed.specs.Stands.{Listings}
use Rattle.an_listed.specs.declared.filed.Filed.{Filed}
use Rattle.an_listed.proofs.SpaceLemmas.{first-room}
use Rattle.an_snapshot.specs.Fits.{activities_of, fits, keep_groups, notes_stand, rows_of}
use Rattle.an_snapshot.specs.Listing.{IsFiled, IsListing}
use Rattle.an_snapshot.specs.Over.{audience_over, stand_over}
use Rattle.an_snapshot.specs.Plan.{AreLeft, rows_fit, state_behind}
use Rattle.an_snapshot.specs.Steps.{HasStepRoom, IsOther, IsStep, IsStepOver, filed_in}
use Rattle.an_snapshot.specs.declared.planned_row.PlannedRow.{PlannedRow}
use Rattle.an_snapshot.specs.declared.planned_row.PlannedRow.TheVariants.{Other, Note}
use Rattle.an_snapshot.proofs.AllLemmas.{All-gives, All-nil}
use Rattle.an_snapshot.proofs.FiledLemmas.{filed-kept}
use Rattle.an_snapshot.proofs.OverLemmas.{audience-over}
use Rattle.an_snapshot.proofs.StandOver.{stand-rows}

-- ---- a plan

pub step-grown : (s : State) (manifests : List ManifestState) (old new : List Audience)
    → Grows old new → (step : PlannedRow) → IsStepOver s manifests old step
    → IsStepOver s manifests new step
step-grown s manifests old new grows (Other row) is = is
step-grown s manifests old new grows (Note row filed) is =
    (is.0, λ audience then. grows (deciding audience) filed.class (is.1 audience then))

pub step-behind : (rows : List Row) (s : State) (manifests : List ManifestState)
    → manifests ≡ (with_rows rows empty).manifests → (classes : List Audience) (step : PlannedRow)
    → IsStepOver s manifests classes step → IsStep (with_rows rows s) classes step
step-behind rows s manifests left classes (Other row) is = is
step-behind rows s manifests left classes (Note row filed) is = (
  is.0,
  λ audience then. is.1 audience
      (ap (λ (ms : List ManifestState). audience_over s ms row) left
      ∙ sym (audience-over rows s row) ∙ ap (audience_of_note (with_rows rows s)) (sym is.0)
      ∙ then),
)

-- the rows fit where no group changes and annotations stand over what is left
pub rows-fit : (rows : List Row) (s : State) (manifests : List ManifestState)
    (notes : List NoteState) → AreLeft rows manifests notes → is_distinct s ≡ true
    → notes_stand s ≡ true
    → keep_groups s rows ≡ true → rows_fit s rows ≡ stand_over s manifests notes
rows-fit rows s manifests notes left distinct stand keeps =
    rw keeps (sym (stand-rows rows s stand distinct)
    ∙ ap (λ (ms : List ManifestState). stand_over s ms (with_rows rows empty).notes)
    (sym left.manifests)
    ∙ ap (stand_over s manifests) (sym left.notes))

-- ---- an entry

no_more : {A : Type 0} (xs : List A) → xs ++ [] ≡ xs
no_more [] = refl
no_more (x ∷ xs) = ap (λ (l : List _). x ∷ l) (no_more xs)

pub after-behind : (s : State) (entry : Entry)
    → state_behind s (rows_of entry) (activities_of entry) ≡ after s entry
after-behind s (Restored row) =
    let t = with_row s row in
    ap (λ (l : List Activity). record t { activities = l }) (no_more t.activities)
after-behind s (Done command moment by rows activities) = refl

pub fits-rows : (s : State) (entry : Entry) → fits s entry ≡ rows_fit s (rows_of entry)
unfolding fits
fits-rows s (Restored row) = refl
fits-rows s (Done command moment by rows activities) = refl

pub fits-stand : (s : State) (entry : Entry) → fits s entry ≡ true
    → notes_stand (after s entry) ≡ true
unfolding fits
fits-stand s entry is = (and_parts (keep_groups s (rows_of entry)) _ is).1

pub fits-keep : (s : State) (entry : Entry) → fits s entry ≡ true
    → keep_groups s (rows_of entry) ≡ true
unfolding fits
fits-keep s entry is = (and_parts (keep_groups s (rows_of entry)) _ is).0

-- ---- what is filed

pub notes-other : (s : State) (row : Row) → IsOther row → (with_row s row).notes ≡ s.notes
notes-other s (kept.Reader row) is = refl
notes-other s (kept.Manifest row) is = refl
notes-other s (kept.Note row) is = absurd is
notes-other s (kept.Activity activity) is = refl

pub step-room : (step : PlannedRow) (rest : List Filed) (lists : Listings)
    → HasRoom (filed_in step ++ rest) lists → HasStepRoom step lists
step-room (Other row) rest lists room = tt
step-room (Note row filed) rest lists room = first-room filed rest lists room

step-filed : (s : State) (classes : List Audience) (step : PlannedRow) → IsStep s classes step
    → All (IsFiled s classes) (filed_in step)
step-filed s classes (Other row) is = All-nil (IsFiled s classes)
step-filed s classes (Note row filed) is =
    All-cons (IsFiled s classes) filed [] is.1 (All-nil (IsFiled s classes))

pub steps-filed : (s : State) (classes : List Audience) (steps : List PlannedRow)
    → All (IsStep s classes) steps → All (IsFiled s classes) (flat_map filed_in steps)
steps-filed s classes [] all = All-nil (IsFiled s classes)
steps-filed s classes (step ∷ steps) all =
    All-append (IsFiled s classes) (filed_in step) (flat_map filed_in steps)
    (step-filed s classes step (All-head (IsStep s classes) step steps all))
    (steps-filed s classes steps (All-tail (IsStep s classes) step steps all))

-- ---- the names of readers

readers-row : (s : State) (row : Row) → keys_are_distinct reader_key s.readers ≡ true
    → keys_are_distinct reader_key (with_row s row).readers ≡ true
readers-row s (kept.Reader row) distinct = distinct-put_row reader_key row s.readers distinct
readers-row s (kept.Manifest row) distinct = distinct
readers-row s (kept.Note row) distinct = distinct
readers-row s (kept.Activity activity) distinct = distinct

readers-rows : (rows : List Row) (s : State) → keys_are_distinct reader_key s.readers ≡ true
    → keys_are_distinct reader_key (with_rows rows s).readers ≡ true
readers-rows [] s distinct = distinct
readers-rows (row ∷ rows) s distinct =
    readers-rows rows (with_row s row) (readers-row s row distinct)

-- no entry gives two readers one name
readers-after : (s : State) (entry : Entry) → keys_are_distinct reader_key s.readers ≡ true
    → keys_are_distinct reader_key (after s entry).readers ≡ true
readers-after s (Restored row) distinct = readers-row s row distinct
readers-after s (Done command moment by rows activities) distinct = readers-rows rows s distinct

-- ---- a listing

pub listing-empty : IsListing empty [] []
listing-empty = record {
  notes = refl;
  filed = All-nil (IsFiled empty []);
  distinct = distinct-empty;
  readers = refl;
  stand = refl;
}

-- with more classes it is a listing still
pub listing-grown : (s : State) (old new : List Audience) (rows : List Filed) → Grows old new
    → IsListing s old rows → IsListing s new rows
listing-grown s old new rows grows listing = record {
  notes = listing.notes;
  filed =
      All-gives (IsFiled s old) (IsFiled s new) rows
      (λ filed is audience then. grows (deciding audience) filed.class (is audience then))
      listing.filed;
  distinct = listing.distinct;
  readers = listing.readers;
  stand = listing.stand;
}

-- what was filed before stays so behind an entry that fits
pub filed-behind : (entry : Entry) (s : State) (old new : List Audience) (listed : List Filed)
    → Grows old new → IsListing s old listed → fits s entry ≡ true
    → All (IsFiled (with_rows (rows_of entry) s) new) listed
filed-behind entry s old new listed grows listing is =
    filed-kept (rows_of entry) s old new listed grows (fits-keep s entry is) listing

-- what is filed behind rows is so behind their entry
filed-after : (entry : Entry) (s : State) (classes : List Audience) (listed : List Filed)
    → All (IsFiled (with_rows (rows_of entry) s) classes) listed
    → All (IsFiled (after s entry) classes) listed
filed-after (Restored row) s classes listed all = all
filed-after (Done command moment by rows activities) s classes listed all = all

pub listing-after : (entry : Entry) (s : State) (old new : List Audience)
    (before behind : List Filed) → IsListing s old before → fits s entry ≡ true
    → map (λ (f : Filed). f.note) behind ≡ (after s entry).notes
    → All (IsFiled (with_rows (rows_of entry) s) new) behind → IsListing (after s entry) new behind
listing-after entry s old new before behind listing is notes filed = record {
  notes = notes;
  filed = filed-after entry s new behind filed;
  distinct = distinct-after s entry listing.distinct;
  readers = readers-after s entry listing.readers;
  stand = fits-stand s entry is;
}
