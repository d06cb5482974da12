-- What an entry adds to a state's changes.
use Rattle.std.proofs.Common.{◌≡◌, List, [], ◌∷◌, ◌++◌, All, refl, sym, ap, subst, ◌∙◌}
use Rattle.std.specs.List.{flat_map}
use Rattle.std.proofs.lemmas.List.{map-append}
use Rattle.std.proofs.lemmas.List.Elements.{All-append}
use Rattle.an_policy.specs.Classes.{Grows}
use Rattle.an_policy.specs.declared.group.Audience.{Audience}
use Rattle.an_state.specs.Entries.{after, with_row, with_rows}
use Rattle.an_state.specs.State.{State, empty}
use Rattle.an_state.specs.declared.activity.Activity.{Activity}
use Rattle.an_state.specs.declared.entry.Entry.{Entry}
use Rattle.an_state.specs.declared.entry.Entry.TheVariants.{Restored, Done}
use Rattle.an_state.specs.declared.entry.Row.{Row}
use Rattle.an_state.specs.declared.entry.Row.TheVariants as kept
use Rattle.an_snapshot.specs.Changes.{AreChanges, IsChangeFiled, KeptChanges, activities_in, added_by, added_by_row}
use Rattle.an_snapshot.specs.Pairs.{Extends}
use Rattle.an_snapshot.specs.declared.change.FiledChange.{FiledChange}
use Rattle.an_snapshot.proofs.AllLemmas.{All-gives, All-nil}
use Rattle.an_snapshot.proofs.ChangeLemmas.{change-grown}
use Rattle.an_snapshot.proofs.PairLemmas.{Extends-refl}
use Rattle.an_snapshot.proofs.StepLemmas.{listing-grown}

-- ---- activities

no_more : {A : Type 0} (xs : List A) → xs ≡ xs ++ []
no_more [] = refl
no_more (x ∷ xs) = ap (λ (l : List _). x ∷ l) (no_more xs)

joined : {A : Type 0} (xs ys zs : List A) → (xs ++ ys) ++ zs ≡ xs ++ (ys ++ zs)
joined [] ys zs = refl
joined (x ∷ xs) ys zs = ap (λ (l : List _). x ∷ l) (joined xs ys zs)

row-adds : (s : State) (row : Row) → (with_row s row).activities ≡ s.activities ++ added_by_row row
row-adds s (kept.Reader row) = no_more s.activities
row-adds s (kept.Manifest row) = no_more s.activities
row-adds s (kept.Note row) = no_more s.activities
row-adds s (kept.Activity activity) = refl

rows-add : (rows : List Row) (s : State)
    → (with_rows rows s).activities ≡ s.activities ++ flat_map added_by_row rows
rows-add [] s = no_more s.activities
rows-add (row ∷ rows) s =
    rows-add rows (with_row s row)
    ∙ ap (λ (l : List Activity). l ++ flat_map added_by_row rows) (row-adds s row)
    ∙ joined s.activities (added_by_row row) (flat_map added_by_row rows)

entry-adds : (entry : Entry) (s : State)
    → (after s entry).activities ≡ s.activities ++ added_by entry
entry-adds (Restored row) s = row-adds s row
entry-adds (Done command moment by rows activities) s =
    ap (λ (l : List Activity). l ++ activities) (rows-add rows s)
    ∙ joined s.activities (flat_map added_by_row rows) activities

-- ---- changes

pub changes-empty : (kept : KeptChanges) → kept.rows ≡ [] → AreChanges empty [] kept
changes-empty kept none = record {
  activities = ap activities_in none;
  filed =
      subst (All (IsChangeFiled [] kept.pairs)) (sym none) (All-nil (IsChangeFiled [] kept.pairs));
}

-- with more classes and pairs the changes are kept still
pub changes-grown : (s : State) (old new : List Audience) (before after : KeptChanges)
    → Grows old new → Extends before.pairs after.pairs → after.rows ≡ before.rows
    → AreChanges s old before → AreChanges s new after
changes-grown s old new before after grows extends rows are = record {
  activities = ap activities_in rows ∙ are.activities;
  filed = subst (All (IsChangeFiled new after.pairs)) (sym rows)
      (All-gives (IsChangeFiled old before.pairs) (IsChangeFiled new after.pairs) before.rows
      (change-grown old new grows before.pairs after.pairs extends) are.filed);
}

-- the same with the same pairs
pub classes-grown : (s : State) (old new : List Audience) (kept : KeptChanges) → Grows old new
    → AreChanges s old kept → AreChanges s new kept
classes-grown s old new kept grows =
    changes-grown s old new kept kept grows (Extends-refl kept.pairs) refl

-- the same where the entry's rows are planned too
pub changes-prepared : (s t : State) (first old new : List Audience) (before after : KeptChanges)
    → t ≡ s → Grows first old → Grows old new → Extends before.pairs after.pairs
    → after.rows ≡ before.rows
    → AreChanges s first before → AreChanges t new after
changes-prepared s t first old new before after same grows more extends rows are =
    subst (λ (u : State). AreChanges u new after) (sym same)
    (classes-grown s old new after more
    (changes-grown s first old before after grows extends rows are))

pub ruleset kept_changes = (changes-grown, listing-grown)

-- behind an entry its changes are kept too
pub changes-after : (entry : Entry) (s : State) (classes : List Audience)
    (before later : KeptChanges) (added : List FiledChange) → AreChanges s classes before
    → later.rows ≡ before.rows ++ added → later.pairs ≡ before.pairs
    → activities_in added ≡ added_by entry → All (IsChangeFiled classes before.pairs) added
    → AreChanges (after s entry) classes later
changes-after entry s classes before later added are rows pairs is filed = record {
  activities =
      ap activities_in rows
      ∙ map-append (λ (change : FiledChange). change.activity) before.rows added
      ∙ ap (λ (l : List Activity). l ++ activities_in added) are.activities
      ∙ ap (λ (l : List Activity). s.activities ++ l) is
      ∙ sym (entry-adds entry s);
  filed =
      rw (rows, pairs)
      (All-append (IsChangeFiled classes before.pairs) before.rows added are.filed filed);
}
