-- Objects are told apart by their IRIs, and so the last change of an IRI is the last change of the
-- object.
use Rattle.std.proofs.Common.{◌≡◌, ℕ, Bool, true, false, cond, if◌then◌else◌, List, [], ◌∷◌, ◌++◌, map, Option, Some, None, option_map, refl, sym, ap, ap₂, ◌∙◌, subst, codes, bytes_eq}
use Rattle.std.specs.Prelude.{filter, is_none, slice_index}
use Rattle.an_base.specs.Outcome.{passes}
use Rattle.an_feed.proofs.NameLemmas.{NoSlash, name-apart}
use Rattle.an_keyed.specs.Key.{Key, same_key}
use Rattle.an_policy.specs.Seen.{is_deletion}
use Rattle.an_state.specs.View.{is_change_of, key_of_object, last_change}
use Rattle.std.proofs.Common.{nat_eq}
use Rattle.std.proofs.lemmas.Bool.{false≢true}
use Rattle.std.specs.List.{All, AllByRecursion, last_or}
use Rattle.std.proofs.lemmas.List.Elements.{recursion_from_All}
use Rattle.an_harvest.specs.Feed.{Change}
use Rattle.an_harvest.specs.Live.{last_of, left_by, left_at, live_at}
use Rattle.std.proofs.Common.{◌&&◌}
use Rattle.std.proofs.lemmas.Bool.{and_parts}
use Rattle.std.proofs.lemmas.Slice.Eq.{bytes_eq-Decides}
use Rattle.an_state.specs.declared.activity.Seen.{Seen}
use Rattle.an_state.specs.declared.command.Object.{Object}
use Rattle.an_state.specs.declared.command.Object.TheVariants as object
use Rattle.an_feed.specs.Told.{IsNamed, IsTold, change_told, iri_of, is_manifest, lives, object_of_key}

strip : (base xs ys : List ℕ) → base ++ xs ≡ base ++ ys → xs ≡ ys
strip [] xs ys h = h
strip (b ∷ base) xs ys h = strip base xs ys (cc)

-- ---- IRIs

-- two texts are the same where they are the same with a slash between
split : (a b c d : List ℕ) → NoSlash a → NoSlash c → a ++ 47 ∷ b ≡ c ++ 47 ∷ d → (a ≡ c) × (b ≡ d)
split [] b [] d h k e = (refl, cc)
split [] b (y ∷ c) d h k e = let y_is : y ≡ 47 = cc in absurd (k.0 y_is)
split (x ∷ a) b [] d h k e = let x_is : x ≡ 47 = cc in absurd (h.0 x_is)
split (x ∷ a) b (y ∷ c) d h k e =
    let heads : x ≡ y = cc in
    let rest = split a b c d h.1 k.1 (cc) in
    (ap₂ (λ x a. x ∷ a) heads rest.0, rest.1)

abbrev Apart : Object → Type 0
Apart (object.Reader name) = ⊥
Apart (object.Manifest name) = NoSlash name
Apart (object.Note owner name) = NoSlash owner

pub iri-injective : (base : List ℕ) (o p : Object) → Apart o → Apart p
    → iri_of base o ≡ iri_of base p → o ≡ p
iri-injective base (object.Reader n) p h k e = absurd h
iri-injective base (object.Manifest n) (object.Reader m) h k e = absurd k
iri-injective base (object.Manifest n) (object.Manifest m) h k e =
    ap object.Manifest (strip (codes "/manifests/") n m
    (strip base (codes "/manifests/" ++ n) (codes "/manifests/" ++ m) e))
iri-injective base (object.Manifest n) (object.Note owner m) h k e =
    let f =
    strip base (codes "/manifests/" ++ n)
    (codes "/annotations/" ++ (owner ++ (codes "/" ++ m))) e in
    absurd (false≢true (ap (λ l. nat_eq (slice_index l 1) 97) f))
iri-injective base (object.Note owner n) (object.Reader m) h k e = absurd k
iri-injective base (object.Note owner n) (object.Manifest m) h k e =
    let f =
    strip base (codes "/annotations/" ++ (owner ++ (codes "/" ++ n)))
    (codes "/manifests/" ++ m) e in
    absurd (false≢true (ap (λ l. nat_eq (slice_index l 1) 97) (sym f)))
iri-injective base (object.Note owner n) (object.Note writer m) h k e =
    let f =
    strip (codes "/annotations/") (owner ++ 47 ∷ n) (writer ++ 47 ∷ m)
    (strip base (codes "/annotations/" ++ (owner ++ (codes "/" ++ n)))
    (codes "/annotations/" ++ (writer ++ (codes "/" ++ m))) e) in
    let s = split owner n writer m h k f in
    ap₂ object.Note s.0 s.1

-- the last change of an IRI is what the last change of the view with it tells
filter-told : (base id : List ℕ) (seens : List Seen)
    → filter (λ change. bytes_eq change.id id) (map (change_told base) seens)
    ≡ map (change_told base) (filter (λ seen. bytes_eq (iri_of base seen.object) id) seens)
filter-told base id [] = refl
filter-told base id (seen ∷ seens) =
    by (bytes_eq (iri_of base seen.object) id)
    ∙ ap (λ rest. cond_cons (bytes_eq (iri_of base seen.object) id) rest)
    (filter-told base id seens)
    ∙ sym (again (bytes_eq (iri_of base seen.object) id))
  where
    cond_cons : Bool → List Change → List Change
    cond_cons b rest = cond b (change_told base seen ∷ rest) rest

    by : (b : Bool)
        → cond b (change_told base seen
        ∷ filter (λ change. bytes_eq change.id id) (map (change_told base) seens))
        (filter (λ change. bytes_eq change.id id) (map (change_told base) seens))
        ≡ cond b (change_told base seen
        ∷ filter (λ change. bytes_eq change.id id) (map (change_told base) seens))
        (filter (λ change. bytes_eq change.id id) (map (change_told base) seens))
    by b = refl

    again : (b : Bool)
        → map (change_told base) (cond b
        (seen ∷ filter (λ seen. bytes_eq (iri_of base seen.object) id) seens)
        (filter (λ seen. bytes_eq (iri_of base seen.object) id) seens))
        ≡ cond b (change_told base seen
        ∷ map (change_told base) (filter (λ seen. bytes_eq (iri_of base seen.object) id) seens))
        (map (change_told base) (filter (λ seen. bytes_eq (iri_of base seen.object) id) seens))
    again true = refl
    again false = refl

last-map : (base : List ℕ) (start : Option Seen) (seens : List Seen)
    → last_or (option_map (change_told base) start) (map (change_told base) seens)
    ≡ option_map (change_told base) (last_or start seens)
last-map base start [] = refl
last-map base start (seen ∷ seens) = last-map base (Some seen) seens

pub last-told : (base id : List ℕ) (seens : List Seen)
    → last_of id (map (change_told base) seens)
    ≡ option_map (change_told base)
    (last_or None (filter (λ seen. bytes_eq (iri_of base seen.object) id) seens))
last-told base id seens =
    ap (last_or None) (filter-told base id seens)
    ∙ last-map base None (filter (λ seen. bytes_eq (iri_of base seen.object) id) seens)

-- ---- objects, by their IRIs

abbrev same_object : Object → Object → Bool
same_object (object.Reader n) p = false
same_object (object.Manifest n) (object.Reader m) = false
same_object (object.Manifest n) (object.Manifest m) = bytes_eq n m
same_object (object.Manifest n) (object.Note b m) = false
same_object (object.Note a n) (object.Reader m) = false
same_object (object.Note a n) (object.Manifest m) = false
same_object (object.Note a n) (object.Note b m) = bytes_eq a b && bytes_eq n m

-- IRIs are equal where objects are the same
pub same-by-iri : (base : List ℕ) (o p : Object) → Apart o → Apart p
    → bytes_eq (iri_of base o) (iri_of base p) ≡ same_object o p
same-by-iri base o p h k = by o p h k (bytes_eq (iri_of base o) (iri_of base p)) refl
  where
    apart : (o p : Object) → Apart o → Apart p → bytes_eq (iri_of base o) (iri_of base p) ≡ true
        → o ≡ p
    apart o p h k e =
        iri-injective base o p h k ((bytes_eq-Decides (iri_of base o) (iri_of base p)).0 e)

    same : (xs : List ℕ) → bytes_eq xs xs ≡ true
    same xs = (bytes_eq-Decides xs xs).1 refl

    itself : (o : Object) → Apart o → same_object o o ≡ true
    itself (object.Reader n) h = absurd h
    itself (object.Manifest n) h = same n
    itself (object.Note a n) h = rw (same a, same n) refl

    back : (o p : Object) → same_object o p ≡ true → o ≡ p
    back (object.Reader n) p e = absurd (false≢true e)
    back (object.Manifest n) (object.Reader m) e = absurd (false≢true e)
    back (object.Manifest n) (object.Manifest m) e = ap object.Manifest ((bytes_eq-Decides n m).0 e)
    back (object.Manifest n) (object.Note b m) e = absurd (false≢true e)
    back (object.Note a n) (object.Reader m) e = absurd (false≢true e)
    back (object.Note a n) (object.Manifest m) e = absurd (false≢true e)
    back (object.Note a n) (object.Note b m) e =
        let q = and_parts (bytes_eq a b) (bytes_eq n m) e in
        ap₂ object.Note ((bytes_eq-Decides a b).0 q.0) ((bytes_eq-Decides n m).0 q.1)

    by : (o p : Object) → Apart o → Apart p → (b : Bool)
        → bytes_eq (iri_of base o) (iri_of base p) ≡ b → b ≡ same_object o p
    by o p h k true e = sym (ap (same_object o) (sym (apart o p h k e)) ∙ itself o h)
    by o p h k false e = other (same_object o p) refl
      where
        other : (c : Bool) → same_object o p ≡ c → false ≡ c
        other true is =
            absurd (false≢true (sym e
            ∙ ap (λ q. bytes_eq (iri_of base o) (iri_of base q)) (sym (back o p is))
            ∙ same (iri_of base o)))
        other false is = refl

filter-same : (base : List ℕ) (o : Object) (seens : List Seen) → Apart o
    → AllByRecursion (λ seen. Apart seen.object) seens
    → filter (λ seen. bytes_eq (iri_of base seen.object) (iri_of base o)) seens
    ≡ filter (λ seen. same_object seen.object o) seens
filter-same base o [] h all = refl
filter-same base o (seen ∷ seens) h all =
    ap (λ b. cond b
    (seen ∷ filter (λ seen. bytes_eq (iri_of base seen.object) (iri_of base o)) seens)
    (filter (λ seen. bytes_eq (iri_of base seen.object) (iri_of base o)) seens))
    (same-by-iri base seen.object o all.0 h)
    ∙ ap (λ rest. cond (same_object seen.object o) (seen ∷ rest) rest)
    (filter-same base o seens h all.1)

-- what lives of an object is what the last change of it in the view leaves
pub live-of-object : (base : List ℕ) (o : Object) (seens : List Seen) → Apart o
    → AllByRecursion (λ seen. Apart seen.object) seens
    → left_at (map (change_told base) seens) (iri_of base o)
    ≡ option_map (λ seen. left_by (change_told base seen))
    (last_or None (filter (λ seen. same_object seen.object o) seens))
live-of-object base o seens h all =
    ap (option_map left_by) (last-told base (iri_of base o) seens
    ∙ ap (λ l. option_map (change_told base) (last_or None l)) (filter-same base o seens h all))
    ∙ map-map (last_or None (filter (λ seen. same_object seen.object o) seens))
  where
    map-map : (l : Option Seen)
        → option_map left_by (option_map (change_told base) l)
        ≡ option_map (λ seen. left_by (change_told base seen)) l
    map-map None = refl
    map-map (Some seen) = refl

-- ---- by keys

named-apart : (o : Object) → IsNamed o → Apart o
named-apart (object.Reader name) h = h
named-apart (object.Manifest name) h = name-apart name h
named-apart (object.Note owner name) h = name-apart owner h.0

told-apart : (seens : List Seen) → AllByRecursion IsTold seens
    → AllByRecursion (λ seen. Apart seen.object) seens
told-apart [] h = tt
told-apart (seen ∷ seens) h = (named-apart seen.object h.0.named, told-apart seens h.1)

key-same : (o : Object) (owner : Option (List ℕ)) (name : List ℕ)
    → passes (λ its. same_key its (record { owner = owner; name = name })) (key_of_object o)
    ≡ same_object o (object_of_key (record { owner = owner; name = name }))
key-same (object.Reader n) None name = refl
key-same (object.Reader n) (Some owner) name = refl
key-same (object.Manifest n) None name = refl
key-same (object.Manifest n) (Some owner) name = refl
key-same (object.Note a n) None name = refl
key-same (object.Note a n) (Some owner) name = refl

filter-key : (key : Key) (seens : List Seen)
    → filter (λ seen. same_object seen.object (object_of_key key)) seens
    ≡ filter (is_change_of key) seens
filter-key key [] = refl
filter-key key (seen ∷ seens) =
    ap (λ b. cond b (seen ∷ filter (λ seen. same_object seen.object (object_of_key key)) seens)
    (filter (λ seen. same_object seen.object (object_of_key key)) seens))
    (sym (key-same seen.object key.owner key.name))
    ∙ ap (λ rest. cond (is_change_of key seen) (seen ∷ rest) rest) (filter-key key seens)

some-same : (x y : Seen) → Some x ≡ Some y → x ≡ y
some-same x y e = cc

-- the last change that passes a test is one of the changes, and passes it
last-filtered : (p : Seen → Bool) (start : Option Seen) (seens : List Seen)
    → AllByRecursion IsTold seens
    → ((first : Seen) → start ≡ Some first → (p first ≡ true) × IsTold first)
    → (change : Seen) → last_or start (filter p seens) ≡ Some change
    → (p change ≡ true) × IsTold change
last-filtered p start [] all h change is = h change is
last-filtered p start (seen ∷ seens) all h change is =
    by (p seen) refl is (λ first known ends. last-filtered p first seens all.1 known change ends)
  where
    by : (b : Bool) → p seen ≡ b
        → last_or start (cond b (seen ∷ filter p seens) (filter p seens)) ≡ Some change
        → ((start : Option Seen)
        → ((first : Seen) → start ≡ Some first → (p first ≡ true) × IsTold first)
        → last_or start (filter p seens) ≡ Some change → (p change ≡ true) × IsTold change)
        → (p change ≡ true) × IsTold change
    by true here is rest =
        rest (Some seen)
        (λ first e. subst (λ x. (p x ≡ true) × IsTold x) (some-same seen first e) (here, all.0)) is
    by false here is rest = rest start h is

never : (p : Seen → Bool) (first : Seen) → ◌≡◌ {A = Option Seen} None (Some first)
    → (p first ≡ true) × IsTold first
never p first e = absurd (cc)

same-kind : (o : Object) (owner : Option (List ℕ)) (name : List ℕ)
    → same_object o (object_of_key (record { owner = owner; name = name })) ≡ true
    → is_manifest o ≡ is_none owner
same-kind (object.Reader n) None name h = absurd (false≢true h)
same-kind (object.Reader n) (Some owner) name h = absurd (false≢true h)
same-kind (object.Manifest n) None name h = refl
same-kind (object.Manifest n) (Some owner) name h = absurd (false≢true h)
same-kind (object.Note a n) None name h = absurd (false≢true h)
same-kind (object.Note a n) (Some owner) name h = refl

abbrev by_left : Option (Option Bool) → Option Bool
by_left None = None
by_left (Some left) = left

live-by : (changes : List Change) (id : List ℕ)
    → live_at [] changes id ≡ by_left (left_at changes id)
live-by changes id = go (last_of id changes)
  where
    go : (o : Option Change)
        → elim o [ None ↦ None | Some change ↦ left_by change ] ≡ by_left (option_map left_by o)
    go None = refl
    go (Some change) = refl

-- a harvest of all changes has an object exactly where its last change makes or changes it
pub lives_told : (base : List ℕ) (key : Key) (seens : List Seen) → IsNamed (object_of_key key)
    → All IsTold seens
    → live_at [] (map (change_told base) seens) (iri_of base (object_of_key key)) ≡ lives key seens
lives_told base key seens named told =
    live-by (map (change_told base) seens) (iri_of base (object_of_key key))
    ∙ ap by_left (live-of-object base (object_of_key key) seens
    (named-apart (object_of_key key) named) (told-apart seens all)
    ∙ ap (λ l. option_map (λ seen. left_by (change_told base seen)) (last_or None l))
    (filter-key key seens))
    ∙ at (last_change key seens) refl
  where
    all : AllByRecursion IsTold seens
    all = recursion_from_All IsTold seens told

    at : (o : Option Seen) → last_change key seens ≡ o
        → by_left (option_map (λ seen. left_by (change_told base seen)) o)
        ≡ elim o [
          | None ↦ None
          | Some change ↦ if is_deletion change.kind then None else Some (is_none key.owner)
        ]
    at None is = refl
    at (Some change) is =
        ap (λ m. cond (is_deletion change.kind) None (Some m))
        (same-kind change.object key.owner key.name
        (sym (key-same change.object key.owner key.name)
        ∙ (last-filtered (is_change_of key) None seens all (never (is_change_of key)) change is).0))

key-of : (o : Object) → IsNamed o → (key : Key) × (object_of_key key ≡ o)
key-of (object.Reader name) named = absurd named
key-of (object.Manifest name) named = (record { owner = None; name = name }, refl)
key-of (object.Note owner name) named = (record { owner = Some owner; name = name }, refl)

-- and nothing that is no manifest's IRI and no annotation's
pub only_told : (base id : List ℕ) (seens : List Seen) (manifest : Bool) → All IsTold seens
    → live_at [] (map (change_told base) seens) id ≡ Some manifest
    → (key : Key) × IsNamed (object_of_key key) × (iri_of base (object_of_key key) ≡ id)
only_told base id seens manifest told h =
    by (last_or None (filter (λ seen. bytes_eq (iri_of base seen.object) id) seens)) refl
    (sym (ap (λ o. by_left (option_map left_by o)) (last-told base id seens))
    ∙ sym (live-by (map (change_told base) seens) id) ∙ h)
  where
    by : (o : Option Seen)
        → last_or None (filter (λ seen. bytes_eq (iri_of base seen.object) id) seens) ≡ o
        → by_left (option_map left_by (option_map (change_told base) o)) ≡ Some manifest
        → (key : Key) × IsNamed (object_of_key key) × (iri_of base (object_of_key key) ≡ id)
    by None at h = absurd (cc)
    by (Some seen) at h =
        let found =
        last-filtered (λ seen. bytes_eq (iri_of base seen.object) id) None seens
        (recursion_from_All IsTold seens told)
        (never (λ seen. bytes_eq (iri_of base seen.object) id)) seen at in
        let key = key-of seen.object found.1.named in (
          key.0,
          subst IsNamed (sym key.1) found.1.named,
          ap (iri_of base) key.1 ∙ (bytes_eq-Decides (iri_of base seen.object) id).0 found.0,
        )

pub ruleset found = (lives_told, only_told)
