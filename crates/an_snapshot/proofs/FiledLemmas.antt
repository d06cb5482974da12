-- What is filed stays filed behind rows that keep groups, and with more classes.
use Rattle.std.proofs.Common.{◌≡◌, ℕ, Bool, true, cond, is_some, List, [], ◌∷◌, All, map, Option, Some, None, option_map, option_and_then, inl, inr, refl, sym, ap, subst, ◌∙◌}
use Rattle.std.specs.List.{list_all}
use Rattle.std.proofs.lemmas.Bool.{cases_Bool, and_parts}
use Rattle.std.proofs.lemmas.Option.{same_Some}
use Rattle.an_base.specs.Outcome.{passes}
use Rattle.an_keyed.specs.Key.{Key, same_key}
use Rattle.an_policy.specs.Audience.{deciding}
use Rattle.an_policy.specs.Group.{same_group}
use Rattle.an_policy.specs.declared.group.Audience.{Audience}
use Rattle.an_policy.specs.declared.group.Group.{Group}
use Rattle.an_state.specs.Entries.{with_row, with_rows}
use Rattle.an_state.specs.Sound.{stands_on_live, is_live_manifest}
use Rattle.an_state.specs.State.{State, ManifestState, NoteState, LiveNote, manifest_key, manifest_row}
use Rattle.an_state.specs.View.{audience_of_note, note_audience}
use Rattle.an_state.specs.declared.entry.Row.{Row}
use Rattle.an_state.specs.declared.entry.Row.TheVariants as kept
use Rattle.an_policy.specs.Classes.{Grows}
use Rattle.an_listed.specs.declared.filed.Filed.{Filed}
use Rattle.an_snapshot.specs.Fits.{keeps_group, keep_groups}
use Rattle.an_snapshot.specs.Listing.{IsFiled, IsListing}
use Rattle.an_keyed.proofs.KeyLemmas.{same_key-true}
use Rattle.an_keyed.proofs.PutLemmas.{row_of-put_row}
use Rattle.an_policy.proofs.AudienceLemmas.{same_group-true}
use Rattle.an_snapshot.proofs.AllLemmas.{All-weaker}

-- ---- groups

abbrev group_under : State → List ℕ → Option Group
group_under s name = option_map (λ m. m.group) (manifest_row s name)

-- a row that keeps groups leaves a manifest that has one its group
group-row : (s : State) (row : Row) (name : List ℕ) (group : Group) → keeps_group s row ≡ true
    → group_under s name ≡ Some group → group_under (with_row s row) name ≡ Some group
group-row s (kept.Reader r) name group keeps is = is
group-row s (kept.Note n) name group keeps is = is
group-row s (kept.Activity a) name group keeps is = is
group-row s (kept.Manifest m) name group keeps is =
    ap (option_map (λ (k : ManifestState). k.group))
    (row_of-put_row manifest_key m (record { owner = None; name = name }) s.manifests)
    ∙ either (manifest_row s name) refl
  where
    either : (found : Option ManifestState) → manifest_row s name ≡ found
        → option_map (λ (k : ManifestState). k.group)
        (cond (same_key (manifest_key m) (record { owner = None; name = name })) (Some m)
        (manifest_row s name)) ≡ Some group
    either None e =
        absurd (let none : group_under s name ≡ None =
        ap (option_map (λ (k : ManifestState). k.group)) e in
        cc)
    either (Some old) e =
        elim (cases_Bool (same_key (manifest_key m) (record { owner = None; name = name }))) [
          | inl same ↦
              let names : m.name ≡ name =
              ap (λ (k : Key). k.name)
              (same_key-true (manifest_key m) (record { owner = None; name = name }) same) in
              let found : manifest_row s m.name ≡ Some old = ap (manifest_row s) names ∙ e in
              let one : same_group old.group m.group ≡ true =
              subst (λ (o : Option ManifestState).
              (elim o [ None ↦ true | Some k ↦ same_group k.group m.group ]) ≡ true) found keeps in
              let group-is : old.group ≡ group =
              same_Some old.group group
              (sym (ap (option_map (λ (k : ManifestState). k.group)) e) ∙ is) in
              rw same
              (ap (λ (g : Group). Some g) (sym (same_group-true old.group m.group one) ∙ group-is))
          | inr differ ↦ rw differ is
        ]

pub group-rows : (rows : List Row) (s : State) (name : List ℕ) (group : Group)
    → keep_groups s rows ≡ true → group_under s name ≡ Some group
    → group_under (with_rows rows s) name ≡ Some group
group-rows [] s name group keeps is = is
group-rows (row ∷ rows) s name group keeps is =
    let parts = and_parts (keeps_group s row) _ keeps in
    group-rows rows (with_row s row) name group parts.1 (group-row s row name group parts.0 is)

-- ---- audiences

-- the audience of an annotation by its manifest's group
abbrev audience_by : (row : NoteState) (live : LiveNote) → Group → Audience
audience_by row live group = record { outer = group; inner = live.group; owner = Some row.owner }

by-group : (row : NoteState) (live : LiveNote) (found : Option ManifestState)
    → option_map (λ m. note_audience m row live) found
    ≡ option_map (audience_by row live) (option_map (λ m. m.group) found)
by-group row live None = refl
by-group row live (Some m) = refl

some-group : (found : Option ManifestState) → passes (λ m. is_some m.live) found ≡ true
    → (group : Group) × (option_map (λ m. m.group) found ≡ Some group)
some-group None h = absurd (cc)
some-group (Some m) h = (m.group, refl)

-- behind rows that keep groups an annotation that stood has its audience
pub audience-kept : (rows : List Row) (s : State) (row : NoteState) (audience : Audience)
    → keep_groups s rows ≡ true → stands_on_live s row ≡ true
    → audience_of_note (with_rows rows s) row ≡ Some audience
    → audience_of_note s row ≡ Some audience
audience-kept rows s row audience keeps = either row.live
  where
    either : (live : Option LiveNote)
        → (elim live [ None ↦ true | Some l ↦ is_live_manifest s l.manifest ]) ≡ true
        → option_and_then
        (λ l. option_map (λ m. note_audience m row l) (manifest_row (with_rows rows s) l.manifest))
        live ≡ Some audience
        → option_and_then
        (λ l. option_map (λ m. note_audience m row l) (manifest_row s l.manifest)) live
        ≡ Some audience
    either None stands is = is
    either (Some l) stands is =
        let group = some-group (manifest_row s l.manifest) stands in
        let then = group-rows rows s l.manifest group.0 keeps group.1 in
        let was =
        by-group row l (manifest_row s l.manifest) ∙ ap (option_map (audience_by row l)) group.1 in
        let will =
        by-group row l (manifest_row (with_rows rows s) l.manifest)
        ∙ ap (option_map (audience_by row l)) then in
        was ∙ sym will ∙ is

-- ---- what is filed

all-map : {A B : Type 0} (f : A → B) (p : B → Bool) (xs : List A)
    → list_all p (map f xs) ≡ list_all (λ x. p (f x)) xs
all-map f p [] = refl
all-map f p (x ∷ xs) = rw (all-map f p xs) refl

-- what is listed is filed behind the rows too, with more classes
pub filed-kept : (rows : List Row) (s : State) (old new : List Audience) (listed : List Filed)
    → Grows old new → keep_groups s rows ≡ true → IsListing s old listed
    → All (IsFiled (with_rows rows s) new) listed
filed-kept rows s old new listed grows keeps listing =
    All-weaker (λ filed. stands_on_live s filed.note) (IsFiled s old)
    (IsFiled (with_rows rows s) new) listed
    (λ filed stands is audience then. grows (deciding audience) filed.class
    (is audience (audience-kept rows s filed.note audience keeps stands then)))
    (sym (all-map (λ (filed : Filed). filed.note) (stands_on_live s) listed)
    ∙ ap (list_all (stands_on_live s)) listing.notes ∙ listing.stand) listing.filed
