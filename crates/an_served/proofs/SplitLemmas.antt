-- An object's members, before and behind a name.
use Rattle.std.proofs.Common.{◌≡◌, ℕ, List, ◌++◌, Bool, true, false, ◌&&◌, if◌then◌else◌, Option, Some, None, Ordering, Less, Equal, Greater, nat_cmp, refl, sym, ap, ◌∙◌, append_assoc}
use Rattle.std.proofs.lemmas.Bool.{and_from, and_parts}
use Rattle.std.proofs.lemmas.Cmp.{nat_list_cmp_total}
use Rattle.std.specs.Cmp.Lexicographic.{slice_cmp}
use Rattle.std.specs.Ordering.{is_lt, ordering_reverse}
use Rattle.serde_json.specs.Data.{Data, Members, no_members, member, put}
use Rattle.serde_json.specs.Find.{get_member}
use Rattle.an_base.specs.Cut.{is_before, below}
use Rattle.an_base.specs.Tree.{ascend, names}
use Rattle.an_base.specs.Write.{member_text, commas}
use Rattle.an_served.specs.ManifestParts.{beyond}
use Rattle.an_manifest.proofs.TakeLemmas.{less, same_name, is_below, is_below-trans, put-below, get_member-below}

abbrev pub joined : Members → Members → Members
joined no_members members = members
joined (member name value front) members = member name value (joined front members)

pub commas-joined : (front back : Members)
    → commas (joined front back) ≡ commas front ++ commas back
commas-joined no_members back = refl
commas-joined (member name value front) back =
    ap (λ rest. member_text name value ++ rest) (commas-joined front back)
    ∙ sym (append_assoc (member_text name value) (commas front) (commas back))

-- ---- one name beside another

turned : (name other : List ℕ) (o : Ordering) → slice_cmp nat_cmp name other ≡ o
    → is_before other name ≡ is_lt (ordering_reverse o)
turned name other o is =
    ap is_lt (nat_list_cmp_total.antisymm other name) ∙ ap (λ p. is_lt (ordering_reverse p)) is

before : (name other : List ℕ) → is_before name other ≡ true → slice_cmp nat_cmp name other ≡ Less
before name other is = less _ is

pub before-trans : (a b c : List ℕ) → is_before a b ≡ true → is_before b c ≡ true
    → is_before a c ≡ true
before-trans a b c first second =
    ap is_lt (nat_list_cmp_total.trans a b c (before a b first) (before b c second))

below-behind : (name : List ℕ) (members : Members) → is_below name members ≡ true
    → below name members ≡ no_members
below-behind name no_members h = refl
below-behind name (member other value members) h =
    let parts = and_parts (is_before name other) _ h in
    rw (turned name other Less (before name other parts.0)) (below-behind name members parts.1)

beyond-behind : (name : List ℕ) (members : Members) → is_below name members ≡ true
    → beyond name members ≡ members
beyond-behind name no_members h = refl
beyond-behind name (member other value members) h =
    let parts = and_parts (is_before name other) _ h in
    rw parts.0 (ap (member other value) (beyond-behind name members parts.1))

-- ---- members are those before a name, the one of the name, and those behind it

abbrev pub with_found : List ℕ → Option Data → Members → Members
with_found name None members = members
with_found name (Some value) members = member name value members

split_at : (o : Ordering) (name other : List ℕ) (value : Data) (members : Members)
    → slice_cmp nat_cmp name other ≡ o → is_below other members ≡ true
    → members
    ≡ joined (below name members) (with_found name (get_member name members) (beyond name members))
    → member other value members
    ≡ joined (below name (member other value members))
    (with_found name (get_member name (member other value members))
    (beyond name (member other value members)))
split_at Less name other value members is h later =
    let behind = is_below-trans name other members is h in
    let none = below-behind name members behind in
    let all = beyond-behind name members behind in
    let absent = get_member-below name members behind in
    rw (turned name other Less is, ap is_lt is, is, none, all, absent) refl
split_at Equal name other value members is h later =
    let same = same_name name other is in
    let behind : is_below name members ≡ true = ap (λ n. is_below n members) same ∙ h in
    let none = below-behind name members behind in
    let all = beyond-behind name members behind in
    rw (turned name other Equal is, ap is_lt is, is, none, all)
    (ap (λ n. member n value members) (sym same))
split_at Greater name other value members is h later =
    rw (turned name other Greater is, ap is_lt is, is) (ap (member other value) later)

pub split : (name : List ℕ) (members : Members) → ascend (names members) ≡ true
    → members
    ≡ joined (below name members) (with_found name (get_member name members) (beyond name members))
split name no_members h = refl
split name (member other value members) h =
    let parts = and_parts (is_below other members) _ h in
    split_at _ name other value members refl parts.0 (split name members parts.1)

pub split-absent : (name : List ℕ) (members : Members) → ascend (names members) ≡ true
    → get_member name members ≡ None
    → members ≡ joined (below name members) (beyond name members)
split-absent name members h absent =
    split name members h
    ∙ ap (λ found. joined (below name members) (with_found name found (beyond name members))) absent

pub split-found : (name : List ℕ) (value : Data) (members : Members) → ascend (names members) ≡ true
    → get_member name members ≡ Some value
    → members ≡ joined (below name members) (member name value (beyond name members))
split-found name value members h found =
    split name members h
    ∙ ap (λ found. joined (below name members) (with_found name found (beyond name members))) found

put_at : (o : Ordering) (name other : List ℕ) (new value : Data) (members : Members)
    → slice_cmp nat_cmp name other ≡ o → is_below other members ≡ true
    → put name new members ≡ joined (below name members) (member name new (beyond name members))
    → put name new (member other value members)
    ≡ joined (below name (member other value members))
    (member name new (beyond name (member other value members)))
put_at Less name other new value members is h later =
    let behind = is_below-trans name other members is h in
    let none = below-behind name members behind in
    let all = beyond-behind name members behind in
    rw (turned name other Less is, ap is_lt is, is, none, all) refl
put_at Equal name other new value members is h later =
    let same = same_name name other is in
    let behind : is_below name members ≡ true = ap (λ n. is_below n members) same ∙ h in
    let none = below-behind name members behind in
    let all = beyond-behind name members behind in
    rw (turned name other Equal is, ap is_lt is, is, none, all)
    (ap (λ n. member n new members) (sym same))
put_at Greater name other new value members is h later =
    rw (turned name other Greater is, ap is_lt is, is) (ap (member other value) later)

pub put-split : (name : List ℕ) (new : Data) (members : Members) → ascend (names members) ≡ true
    → put name new members ≡ joined (below name members) (member name new (beyond name members))
put-split name new no_members h = refl
put-split name new (member other value members) h =
    let parts = and_parts (is_below other members) _ h in
    put_at _ name other new value members refl parts.0 (put-split name new members parts.1)

-- ---- what is before a name, and what is behind it

abbrev pub are_before : List ℕ → Members → Bool
are_before name no_members = true
are_before name (member other value members) = is_before other name && are_before name members

kept_before : (b : Bool) (name other : List ℕ) (value : Data) (members : Members)
    → is_before other name ≡ b → are_before name members ≡ true
    → are_before name (if b then member other value members else members) ≡ true
kept_before true name other value members is h = and_from _ _ is h
kept_before false name other value members is h = h

pub are_before-below : (name : List ℕ) (members : Members)
    → are_before name (below name members) ≡ true
are_before-below name no_members = refl
are_before-below name (member other value members) =
    kept_before _ name other value (below name members) refl (are_before-below name members)

kept_behind : (b : Bool) (name other : List ℕ) (value : Data) (members : Members)
    → is_before name other ≡ b → is_below name members ≡ true
    → is_below name (if b then member other value members else members) ≡ true
kept_behind true name other value members is h = and_from _ _ is h
kept_behind false name other value members is h = h

pub is_below-beyond : (name : List ℕ) (members : Members)
    → is_below name (beyond name members) ≡ true
is_below-beyond name no_members = refl
is_below-beyond name (member other value members) =
    kept_behind _ name other value (beyond name members) refl (is_below-beyond name members)

-- a member goes behind all that stand before its name
pub put-past : (name : List ℕ) (value : Data) (front back : Members) → are_before name front ≡ true
    → put name value (joined front back) ≡ joined front (put name value back)
put-past name value no_members back h = refl
put-past name value (member other tree front) back h =
    let parts = and_parts (is_before other name) _ h in
    let above : slice_cmp nat_cmp name other ≡ Greater =
    nat_list_cmp_total.antisymm name other ∙ ap ordering_reverse (before other name parts.0) in
    rw above (ap (member other tree) (put-past name value front back parts.1))

put_front_at : (o : Ordering) (name other : List ℕ) (value tree : Data) (front back : Members)
    → slice_cmp nat_cmp name other ≡ o
    → put name value (joined front back) ≡ joined (put name value front) back
    → put name value (member other tree (joined front back))
    ≡ joined (put name value (member other tree front)) back
put_front_at Less name other value tree front back is later = rw is refl
put_front_at Equal name other value tree front back is later = rw is refl
put_front_at Greater name other value tree front back is later =
    rw is (ap (member other tree) later)

-- a member goes before all that stand behind its name
pub put-front : (name : List ℕ) (value : Data) (front back : Members) → is_below name back ≡ true
    → put name value (joined front back) ≡ joined (put name value front) back
put-front name value no_members back h = put-below name value back h
put-front name value (member other tree front) back h =
    put_front_at _ name other value tree front back refl (put-front name value front back h)

is_below-put_at : (o : Ordering) (name other third : List ℕ) (value tree : Data) (members : Members)
    → slice_cmp nat_cmp other third ≡ o → is_before name other ≡ true
    → is_below name (member third tree members) ≡ true
    → is_below name (put other value members) ≡ true
    → is_below name (put other value (member third tree members)) ≡ true
is_below-put_at Less name other third value tree members is first h later =
    rw is (and_from _ _ first h)
is_below-put_at Equal name other third value tree members is first h later = rw is h
is_below-put_at Greater name other third value tree members is first h later =
    rw is (and_from _ _ (and_parts (is_before name third) _ h).0 later)

pub is_below-put : (name other : List ℕ) (value : Data) (members : Members)
    → is_before name other ≡ true → is_below name members ≡ true
    → is_below name (put other value members) ≡ true
is_below-put name other value no_members first h = and_from _ _ first refl
is_below-put name other value (member third tree members) first h =
    is_below-put_at _ name other third value tree members refl first h
    (is_below-put name other value members first (and_parts (is_before name third) _ h).1)

-- ---- the parts ascend

is_below-below_at : (b : Bool) (name other : List ℕ) (value : Data) (members : Members)
    → is_before name other ≡ true → is_below name members ≡ true
    → is_below name (if b then member other value members else members) ≡ true
is_below-below_at true name other value members is h = and_from _ _ is h
is_below-below_at false name other value members is h = h

is_below-below : (name cut : List ℕ) (members : Members) → is_below name members ≡ true
    → is_below name (below cut members) ≡ true
is_below-below name cut no_members h = refl
is_below-below name cut (member other value members) h =
    let parts = and_parts (is_before name other) _ h in
    is_below-below_at (is_before other cut) name other value (below cut members) parts.0
    (is_below-below name cut members parts.1)

is_below-beyond_of : (name cut : List ℕ) (members : Members) → is_below name members ≡ true
    → is_below name (beyond cut members) ≡ true
is_below-beyond_of name cut no_members h = refl
is_below-beyond_of name cut (member other value members) h =
    let parts = and_parts (is_before name other) _ h in
    is_below-below_at (is_before cut other) name other value (beyond cut members) parts.0
    (is_below-beyond_of name cut members parts.1)

ascend_if : (b : Bool) (other : List ℕ) (value : Data) (members : Members)
    → is_below other members ≡ true → ascend (names members) ≡ true
    → ascend (names (if b then member other value members else members)) ≡ true
ascend_if true other value members h later = and_from _ _ h later
ascend_if false other value members h later = later

pub ascend-below : (cut : List ℕ) (members : Members) → ascend (names members) ≡ true
    → ascend (names (below cut members)) ≡ true
ascend-below cut no_members h = refl
ascend-below cut (member other value members) h =
    let parts = and_parts (is_below other members) _ h in
    ascend_if (is_before other cut) other value (below cut members)
    (is_below-below other cut members parts.0) (ascend-below cut members parts.1)

pub ascend-beyond : (cut : List ℕ) (members : Members) → ascend (names members) ≡ true
    → ascend (names (beyond cut members)) ≡ true
ascend-beyond cut no_members h = refl
ascend-beyond cut (member other value members) h =
    let parts = and_parts (is_below other members) _ h in
    ascend_if (is_before cut other) other value (beyond cut members)
    (is_below-beyond_of other cut members parts.0) (ascend-beyond cut members parts.1)

-- ---- one cut before another

below_at : (b : Bool) (low high other : List ℕ) (value : Data) (members : Members)
    → is_before low high ≡ true → is_before other low ≡ b
    → below low (below high members) ≡ below low members
    → below low
    (if is_before other high then member other value (below high members) else below high members)
    ≡ (if b then member other value (below low members) else below low members)
below_at true low high other value members order is later =
    rw (before-trans other low high is order, is) (ap (member other value) later)
below_at false low high other value members order is later = by_high (is_before other high) refl
  where
    by_high : (c : Bool) → is_before other high ≡ c
        → below low (if is_before other high then member other value (below high members)
        else below high members) ≡ below low members
    by_high true e = rw (e, is) later
    by_high false e = rw e later

-- what is below the lower of two names
pub below-below : (low high : List ℕ) (members : Members) → is_before low high ≡ true
    → below low (below high members) ≡ below low members
below-below low high no_members order = refl
below-below low high (member other value members) order =
    below_at _ low high other value members order refl (below-below low high members order)

beyond_at : (b : Bool) (low high other : List ℕ) (value : Data) (members : Members)
    → is_before low high ≡ true → is_before high other ≡ b
    → beyond high (beyond low members) ≡ beyond high members
    → beyond high
    (if is_before low other then member other value (beyond low members) else beyond low members)
    ≡ (if b then member other value (beyond high members) else beyond high members)
beyond_at true low high other value members order is later =
    rw (before-trans low high other order is, is) (ap (member other value) later)
beyond_at false low high other value members order is later = by_low (is_before low other) refl
  where
    by_low : (c : Bool) → is_before low other ≡ c
        → beyond high (if is_before low other then member other value (beyond low members)
        else beyond low members) ≡ beyond high members
    by_low true e = rw (e, is) later
    by_low false e = rw e later

-- what is behind the higher of two names
pub beyond-beyond : (low high : List ℕ) (members : Members) → is_before low high ≡ true
    → beyond high (beyond low members) ≡ beyond high members
beyond-beyond low high no_members order = refl
beyond-beyond low high (member other value members) order =
    beyond_at _ low high other value members order refl (beyond-beyond low high members order)

pub below-joined : (cut : List ℕ) (front back : Members)
    → below cut (joined front back) ≡ joined (below cut front) (below cut back)
below-joined cut no_members back = refl
below-joined cut (member other value front) back =
    by_test (is_before other cut) (below-joined cut front back)
  where
    by_test : (b : Bool) → below cut (joined front back) ≡ joined (below cut front) (below cut back)
        → (if b then member other value (below cut (joined front back))
        else below cut (joined front back))
        ≡ joined (if b then member other value (below cut front) else below cut front)
        (below cut back)
    by_test true rest = ap (member other value) rest
    by_test false rest = rest

pub below-all : (cut : List ℕ) (members : Members) → are_before cut members ≡ true
    → below cut members ≡ members
below-all cut no_members h = refl
below-all cut (member other value members) h =
    let parts = and_parts (is_before other cut) _ h in
    rw parts.0 (ap (member other value) (below-all cut members parts.1))

pub are_before-trans : (low high : List ℕ) (members : Members) → is_before low high ≡ true
    → are_before low members ≡ true → are_before high members ≡ true
are_before-trans low high no_members order h = refl
are_before-trans low high (member other value members) order h =
    let parts = and_parts (is_before other low) _ h in
    and_from _ _ (before-trans other low high parts.0 order)
    (are_before-trans low high members order parts.1)
