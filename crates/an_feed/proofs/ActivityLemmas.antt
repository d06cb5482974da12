-- An activity of the stream, as it is served, read back.
use Rattle.std.proofs.Common.{◌≡◌, ℕ, ◌≤◌, Bool, true, cond, List, [], ◌∷◌, map, Option, Some, None, refl, ap, ◌∙◌, arith, option_and_then, codes}
use Rattle.std.specs.Prelude.{option_map, is_some, is_ok}
use Rattle.std.specs.List.{list_all, cons_option}
use Rattle.std.proofs.Common.{ap₂}
use Rattle.std.specs.List.{AllByRecursion}
use Rattle.std.specs.Str.{is_utf8}
use Rattle.serde_json.specs.Data.{Data, string, object, member, no_members, depth, items_depth}
use Rattle.serde_json.specs.View.{items_of}
use Rattle.an_base.specs.Items.{items_list}
use Rattle.an_base.specs.Moment.{moment_of, moment_text}
use Rattle.an_base.specs.Object.{with_member_if}
use Rattle.an_base.specs.Outcome.{passes}
use Rattle.an_base.specs.Tree.{is_whole, items_are_whole}
use Rattle.an_base.proofs.MomentLaws.{moment_read, moment_text-ascii}
use Rattle.an_policy.specs.declared.kind.Kind.{Kind}
use Rattle.an_policy.specs.declared.kind.Kind.TheVariants as kind
use Rattle.json.proofs.Printed.Utf8.{are_ascii, IsUtf8-are_ascii}
use Rattle.std.proofs.lemmas.Str.{is_utf8-from_IsUtf8, IsUtf8-from_ascii}
use Rattle.std.proofs.lemmas.Bool.{and_from}
use Rattle.an_harvest.specs.Feed.{Change, change_of, changes_of, is_activity, has_moment, kind_in, manifest_in, id_in}
use Rattle.an_state.specs.declared.activity.Seen.{Seen}
use Rattle.an_state.specs.declared.command.Object.{Object}
use Rattle.an_state.specs.declared.command.Object.TheVariants as object
use Rattle.an_stream.specs.Activity.{activity, kind_text, thing_of}
use Rattle.an_feed.specs.Told.{change_told, IsTold, IsNamed, iri_of, is_manifest}

pub ascii : (xs : List ℕ) → are_ascii xs ≡ true → is_utf8 xs ≡ true
ascii xs h = is_utf8-from_IsUtf8 xs (IsUtf8-are_ascii xs h)

-- ---- an activity

moment-read : (seen : Seen) → IsTold seen
    → passes (λ text. is_ok (moment_of text)) (Some (moment_text seen.moment)) ≡ true
moment-read seen told = ap is_ok (moment_read seen.moment told.moment)

-- with its moment read, an activity is read by its members
module _ (base : List ℕ) (seen : Seen) (told : IsTold seen) where
  moment-there : has_moment (activity base seen) ≡ true
  unfolding activity
  moment-there = by seen.object
    where
      by : (o : Object)
          → has_moment (with_member_if (codes "object") (thing_of base o)
          (object (member (codes "endTime") (string (moment_text seen.moment))
          (member (codes "type") (string (kind_text seen.kind)) no_members)))) ≡ true
      by (object.Reader name) = moment-read seen told
      by (object.Manifest name) = moment-read seen told
      by (object.Note owner name) = moment-read seen told

abbrev change_with : Option (List ℕ) → Option Bool → Option Kind → Option Change
change_with ids manifests kinds =
    option_and_then (λ id. option_and_then
    (λ manifest. option_map (λ kind. record { id = id; manifest = manifest; kind = kind }) kinds)
    manifests) ids

abbrev made : List ℕ → List ℕ → Object → Kind → Data
made base moment o k =
    with_member_if (codes "object") (thing_of base o)
    (object (member (codes "endTime") (string moment)
    (member (codes "type") (string (kind_text k)) no_members)))

parts : (base moment : List ℕ) (o : Object) → IsNamed o → (k : Kind)
    → change_with (id_in (codes "object") (made base moment o k))
    (manifest_in (made base moment o k)) (kind_in (made base moment o k))
    ≡ Some (record { id = iri_of base o; manifest = is_manifest o; kind = k })
parts base moment (object.Reader name) named k = absurd named
parts base moment (object.Manifest name) named kind.Create = refl
parts base moment (object.Manifest name) named kind.Update = refl
parts base moment (object.Manifest name) named kind.Delete = refl
parts base moment (object.Note owner name) named kind.Create = refl
parts base moment (object.Note owner name) named kind.Update = refl
parts base moment (object.Note owner name) named kind.Delete = refl

pub change-activity : (base : List ℕ) (seen : Seen) → IsTold seen
    → change_of (activity base seen) ≡ Some (change_told base seen)
unfolding activity
change-activity base seen told =
    let a : Data = made base (moment_text seen.moment) seen.object seen.kind in
    ap
    (λ (b : Bool). cond b (change_with (id_in (codes "object") a) (manifest_in a) (kind_in a)) None)
    (moment-there base seen told)
    ∙ parts base (moment_text seen.moment) seen.object told.named seen.kind

-- ---- an activity is a tree

activity-whole : (base : List ℕ) (seen : Seen) → IsTold seen
    → is_utf8 (iri_of base seen.object) ≡ true → is_whole (activity base seen) ≡ true
unfolding activity
activity-whole base seen told iri = by seen.object told.named iri seen.kind
  where
    moment : is_utf8 (moment_text seen.moment) ≡ true
    moment = is_utf8-from_IsUtf8 _ (IsUtf8-from_ascii _ (moment_text-ascii seen.moment told.moment))

    by : (o : Object) → IsNamed o → is_utf8 (iri_of base o) ≡ true → (k : Kind)
        → is_whole (made base (moment_text seen.moment) o k) ≡ true
    by (object.Reader name) named iri k = absurd named
    by (object.Manifest name) named iri kind.Create =
        rw (
          iri,
          moment,
          ascii (codes "endTime") refl,
          ascii (codes "object") refl,
          ascii (codes "id") refl,
          ascii (codes "type") refl,
          ascii (codes "Manifest") refl,
          ascii (codes "Create") refl,
        ) refl
    by (object.Manifest name) named iri kind.Update =
        rw (
          iri,
          moment,
          ascii (codes "endTime") refl,
          ascii (codes "object") refl,
          ascii (codes "id") refl,
          ascii (codes "type") refl,
          ascii (codes "Manifest") refl,
          ascii (codes "Update") refl,
        ) refl
    by (object.Manifest name) named iri kind.Delete =
        rw (
          iri,
          moment,
          ascii (codes "endTime") refl,
          ascii (codes "object") refl,
          ascii (codes "id") refl,
          ascii (codes "type") refl,
          ascii (codes "Manifest") refl,
          ascii (codes "Delete") refl,
        ) refl
    by (object.Note owner name) named iri kind.Create =
        rw (
          iri,
          moment,
          ascii (codes "endTime") refl,
          ascii (codes "object") refl,
          ascii (codes "id") refl,
          ascii (codes "type") refl,
          ascii (codes "Annotation") refl,
          ascii (codes "Create") refl,
        ) refl
    by (object.Note owner name) named iri kind.Update =
        rw (
          iri,
          moment,
          ascii (codes "endTime") refl,
          ascii (codes "object") refl,
          ascii (codes "id") refl,
          ascii (codes "type") refl,
          ascii (codes "Annotation") refl,
          ascii (codes "Update") refl,
        ) refl
    by (object.Note owner name) named iri kind.Delete =
        rw (
          iri,
          moment,
          ascii (codes "endTime") refl,
          ascii (codes "object") refl,
          ascii (codes "id") refl,
          ascii (codes "type") refl,
          ascii (codes "Annotation") refl,
          ascii (codes "Delete") refl,
        ) refl

activity-shallow : (base : List ℕ) (seen : Seen) → depth (activity base seen) ≤ 2
unfolding activity
activity-shallow base seen = by seen.object seen.kind
  where
    by : (o : Object) (k : Kind) → depth (made base (moment_text seen.moment) o k) ≤ 2
    by (object.Reader name) k = omega arith
    by (object.Manifest name) k = omega arith
    by (object.Note owner name) k = omega arith

pub activities-shallow : (base : List ℕ) (seens : List Seen)
    → items_depth (items_of (map (activity base) seens)) ≤ 2
activities-shallow base [] = omega arith
activities-shallow base (seen ∷ seens) =
    omega (arith, activity-shallow base seen, activities-shallow base seens)

-- ---- several activities

pub all-activities : (base : List ℕ) (seens : List Seen) → AllByRecursion IsTold seens
    → list_all is_activity (map (activity base) seens) ≡ true
all-activities base [] h = refl
all-activities base (seen ∷ seens) h =
    rw (ap is_some (change-activity base seen h.0)) (all-activities base seens h.1)

pub changes-told : (base : List ℕ) (seens : List Seen) → AllByRecursion IsTold seens
    → changes_of (map (activity base) seens) ≡ map (change_told base) seens
changes-told base [] h = refl
changes-told base (seen ∷ seens) h =
    ap₂ cons_option (change-activity base seen h.0) (changes-told base seens h.1)

pub listed : (items : List Data) → items_list (items_of items) ≡ items
listed [] = refl
listed (tree ∷ items) = ap (λ rest. tree ∷ rest) (listed items)

pub items-whole : (base : List ℕ) (seens : List Seen) → AllByRecursion IsTold seens
    → AllByRecursion (λ seen. is_utf8 (iri_of base seen.object) ≡ true) seens
    → items_are_whole (items_of (map (activity base) seens)) ≡ true
items-whole base [] told iris = refl
items-whole base (seen ∷ seens) told iris =
    and_from _ _ (activity-whole base seen told.0 iris.0) (items-whole base seens told.1 iris.1)
