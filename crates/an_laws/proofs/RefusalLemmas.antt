-- What it tells of a write that nothing refuses it.
use Rattle.std.proofs.Common.{◌≡◌, ℕ, Bool, true, false, cond, not, is_some, List, [], ◌∷◌, Option, Some, None, Result, Ok, Err, refl, sym, ap, ◌∙◌}
use Rattle.std.specs.Prelude.{⊤}
use Rattle.std.specs.Result.{result_map_both}
use Rattle.std.proofs.lemmas.Bool.{and_parts, not-false}
use Rattle.std.proofs.lemmas.Slice.Eq.{bytes_eq-Decides}
use Rattle.serde_json.specs.Data.{Data}
use Rattle.an_base.specs.Outcome.{when, first_of, passes, or_refuse}
use Rattle.an_manifest.specs.Manifest.{manifest_of}
use Rattle.an_model.specs.Note.{note_of}
use Rattle.an_policy.specs.Audience.{Identity}
use Rattle.an_policy.specs.Reader.{reader_of, token_in, role_in, user_in, groups_in}
use Rattle.an_policy.specs.declared.group.Group.{Group}
use Rattle.an_policy.specs.declared.group.Group.TheVariants.{Public, Private, Named}
use Rattle.an_policy.specs.declared.inner.Inner.{Inner}
use Rattle.an_policy.specs.declared.reader.Reader.{Reader}
use Rattle.an_policy.specs.declared.reader.ReaderError.{ReaderError}
use Rattle.an_policy.specs.declared.reader.ReaderError.TheVariants as error
use Rattle.an_policy.specs.declared.reader.Role.{Role}
use Rattle.an_machine.specs.Asked.{asked_of, asked_manifest, asked_note, manifest_asked, manifest_under, no_manifest, no_note, no_reader, object_asked, version_asked}
use Rattle.an_policy.specs.Group.{is_private, same_group}
use Rattle.an_state.specs.Commands.{object_of, version_of}
use Rattle.an_machine.specs.Refusals.{has_other_group, is_hidden, is_token_taken, refusals_before, refusals_behind, takes_token}
use Rattle.an_state.specs.Sound.{is_live_manifest}
use Rattle.an_state.specs.State.{State, ManifestState, manifest_row}
use Rattle.an_state.specs.View.{shows_manifest}
use Rattle.an_machine.specs.declared.asked.Asked.{Asked}
use Rattle.an_machine.specs.declared.asked.Asked.TheVariants.{Deletion}
use Rattle.an_machine.specs.declared.asked.Asked.TheVariants as put
use Rattle.an_machine.specs.declared.asked.ManifestPut.{ManifestPut}
use Rattle.an_state.specs.declared.command.Command.{Command}
use Rattle.an_state.specs.declared.command.Command.TheVariants.{PutReader, DropReader, PutManifest, DropManifest, PutNote, DropNote}
use Rattle.an_state.specs.declared.command.Object.TheVariants as object
use Rattle.an_machine.specs.declared.command.Refused.{Refused}
use Rattle.an_machine.specs.declared.command.Refused.TheVariants.{NoManifest, TokenTaken, GroupFixed, PrivateManifest}

-- ---- lists of refusals

-- none of these refuses
abbrev pub NoneOf : {E : Type 0} → List (Option E) → Type 0
NoneOf [] = ⊤
NoneOf (refusal ∷ refusals) = (refusal ≡ None) × NoneOf refusals

-- where there is no first refusal there is none
pub none-of : {E : Type 0} (refusals : List (Option E)) → first_of refusals ≡ None → NoneOf refusals
none-of [] none = tt
none-of (None ∷ refusals) none = (refl, none-of refusals none)
none-of (Some refusal ∷ refusals) none = absurd (cc)

-- a refusal that doesn't come has no cause
pub none-when : {E : Type 0} (cause : Bool) (refusal : E) → when cause refusal ≡ None
    → cause ≡ false
none-when true refusal none = absurd (cc)
none-when false refusal none = refl

-- ---- groups

-- two groups that are the same are equal
pub same_group-equal : (a b : Group) → same_group a b ≡ true → a ≡ b
same_group-equal Public Public is = refl
same_group-equal Private Private is = refl
same_group-equal (Named a) (Named b) is = ap (λ name. Named name) ((bytes_eq-Decides a b).0 is)
same_group-equal Public Private is = absurd (cc)
same_group-equal Public (Named b) is = absurd (cc)
same_group-equal Private Public is = absurd (cc)
same_group-equal Private (Named b) is = absurd (cc)
same_group-equal (Named a) Public is = absurd (cc)
same_group-equal (Named a) Private is = absurd (cc)

-- ---- what a command asks for has the command's object, number and manifest

pub record Agree (command : Command) (asked : Asked) : Type 0 where
  pub object : object_asked asked ≡ object_of command
  pub version : version_asked asked ≡ version_of command
  pub manifest : manifest_asked asked ≡ manifest_under command

-- what is read of a tree, where it is read
map-ok : {A B E D : Type 0} (f : A → B) (g : E → D) (read : Result A E) (y : B)
    → result_map_both f g read ≡ Ok y → (x : A) × (read ≡ Ok x) × (y ≡ f x)
map-ok f g (Ok x) y is = (x, refl, cc)
map-ok f g (Err e) y is = absurd (cc)

reader-built : (name : List ℕ) (version : ℕ) (token : Option (List ℕ)) (role : Option Role)
    (user : Option (List ℕ)) (groups : Option (List (List ℕ))) (reader : Reader)
    → or_refuse error.Token token
    (λ token. or_refuse error.Role role
    (λ role. or_refuse error.User user (λ user. or_refuse error.Groups groups (λ groups.
    Ok (record {
      name = name;
      version = version;
      token = token;
      role = role;
      user = user;
      groups = groups;
    }))))) ≡ Ok reader
    → (reader.name ≡ name) × (reader.version ≡ version)
reader-built name version None role user groups reader is = absurd (cc)
reader-built name version (Some token) None user groups reader is = absurd (cc)
reader-built name version (Some token) (Some role) None groups reader is = absurd (cc)
reader-built name version (Some token) (Some role) (Some user) None reader is = absurd (cc)
reader-built name version (Some token) (Some role) (Some user) (Some groups) reader is =
    let same : reader
    ≡ record {
      name = name;
      version = version;
      token = token;
      role = role;
      user = user;
      groups = groups;
    } = cc in
    (ap (λ r. r.name) same, ap (λ r. r.version) same)

-- the reader that a tree describes has the name and the number that it was put with
reader-named : (tree : Data) (name : List ℕ) (version : ℕ) (reader : Reader)
    → reader_of tree name version ≡ Ok reader → (reader.name ≡ name) × (reader.version ≡ version)
reader-named tree name version reader is =
    reader-built name version (token_in tree) (role_in tree) (user_in tree)
    (groups_in tree) reader is

agree-reader : (name : List ℕ) (version : ℕ) (tree : Data) (asked : Asked)
    → asked_of (PutReader name version tree) ≡ Ok asked → Agree (PutReader name version tree) asked
agree-reader name version tree asked is =
    let read = map-ok put.Reader no_reader (reader_of tree name version) asked is in
    let named = reader-named tree name version read.0 read.1 in
    rw read.2
    (record { object = ap (λ n. object.Reader n) named.0; version = named.1; manifest = refl })

-- a manifest that is put isn't private
agree-unless_private : (name : List ℕ) (version : ℕ) (group : Group) (tree : Data) (asked : Asked)
    (private : Bool)
    → cond private (Err PrivateManifest)
    (result_map_both (asked_manifest name version group) no_manifest (manifest_of tree)) ≡ Ok asked
    → Agree (PutManifest name version group tree) asked
agree-unless_private name version group tree asked true is = absurd (cc)
agree-unless_private name version group tree asked false is =
    let read = map-ok (asked_manifest name version group) no_manifest (manifest_of tree) asked is in
    rw read.2 (record { object = refl; version = refl; manifest = refl })

agree-note : (owner name : List ℕ) (version : ℕ) (manifest : List ℕ) (group : Inner) (tree : Data)
    (asked : Asked)
    → asked_of (PutNote owner name version manifest group tree) ≡ Ok asked
    → Agree (PutNote owner name version manifest group tree) asked
agree-note owner name version manifest group tree asked is =
    let read =
    map-ok (asked_note owner name version manifest group) no_note (note_of tree) asked is in
    rw read.2 (record { object = refl; version = refl; manifest = refl })

agree-deletion : (command : Command) (asked : Asked) → manifest_under command ≡ None
    → ◌≡◌ {A = Result Asked Refused}
    (Ok (Deletion (object_of command) (version_of command))) (Ok asked)
    → Agree command asked
agree-deletion command asked none is =
    let same : asked ≡ Deletion (object_of command) (version_of command) = cc in
    rw same (record { object = refl; version = refl; manifest = sym none })

pub asked-agrees : (command : Command) (asked : Asked) → asked_of command ≡ Ok asked
    → Agree command asked
asked-agrees (PutReader name version tree) asked is = agree-reader name version tree asked is
asked-agrees (DropReader name version) asked is =
    agree-deletion (DropReader name version) asked refl is
asked-agrees (PutManifest name version group tree) asked is =
    agree-unless_private name version group tree asked (is_private group) is
asked-agrees (DropManifest name version) asked is =
    agree-deletion (DropManifest name version) asked refl is
asked-agrees (PutNote owner name version manifest group tree) asked is =
    agree-note owner name version manifest group tree asked is
asked-agrees (DropNote owner name version) asked is =
    agree-deletion (DropNote owner name version) asked refl is

-- ---- what isn't refused

-- no other live reader has the token of a reader that is put
pub reader-untaken : (s : State) (reader : Reader)
    → first_of (refusals_behind s (put.Reader reader)) ≡ None
    → is_token_taken s reader.name reader.token ≡ false
reader-untaken s reader none =
    none-when (takes_token s (put.Reader reader)) TokenTaken
    (none-of (refusals_behind s (put.Reader reader)) none).1.0

-- a manifest that is put has the group of the one that it replaces
pub manifest-fixed : (s : State) (m : ManifestPut)
    → first_of (refusals_behind s (put.Manifest m)) ≡ None
    → passes (λ row. not (same_group row.group m.group)) (manifest_row s m.name) ≡ false
manifest-fixed s m none =
    none-when (has_other_group s (put.Manifest m)) GroupFixed
    (none-of (refusals_behind s (put.Manifest m)) none).0

-- a manifest that a caller may read is live
shown-live : (who : Identity) (found : Option ManifestState)
    → passes (shows_manifest who) found ≡ true → passes (λ row. is_some row.live) found ≡ true
shown-live who None shown = shown
shown-live who (Some row) shown = (and_parts _ _ shown).0

-- the manifest of an annotation that is put is live
pub note-based : (s : State) (who : Identity) (command : Command) (manifest : List ℕ)
    → first_of (refusals_before s who command) ≡ None → manifest_under command ≡ Some manifest
    → is_live_manifest s manifest ≡ true
note-based s who command manifest none under =
    let shown =
    none-when (passes (is_hidden s who) (manifest_under command)) NoManifest
    (none-of (refusals_before s who command) none).1.1.0 in
    let mine : is_hidden s who manifest ≡ false =
    ap (passes (is_hidden s who)) (sym under) ∙ shown in
    shown-live who (manifest_row s manifest) (not-false _ mine)
