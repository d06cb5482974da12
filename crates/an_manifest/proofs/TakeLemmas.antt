-- A member that is taken out of an object: it isn't there, and it can be put back with another
-- value.
use Rattle.std.proofs.Common.{◌≡◌, ℕ, List, Bool, true, bytes_eq, Some, None, Ordering, Less, Equal, Greater, nat_cmp, refl, sym, ap, ◌∙◌}
use Rattle.std.proofs.lemmas.Bool.{and_from, and_parts}
use Rattle.std.proofs.lemmas.Cmp.{nat_list_cmp_total}
use Rattle.std.proofs.lemmas.Map.Text.{is_eq-slice_cmp}
use Rattle.std.proofs.lemmas.Slice.Eq.{bytes_eq-Decides}
use Rattle.std.specs.Cmp.Lexicographic.{slice_cmp}
use Rattle.std.specs.List.{list_all}
use Rattle.std.specs.Ordering.{is_eq, is_lt}
use Rattle.serde_json.specs.Data.{Data, Members, no_members, member, put}
use Rattle.serde_json.specs.Find.{get_member}
use Rattle.an_base.specs.Object.{without}
use Rattle.an_base.specs.Tree.{ascend, names}

pub less : (o : Ordering) → is_lt o ≡ true → o ≡ Less
less Less h = refl
less Equal h = absurd (cc)
less Greater h = absurd (cc)

pub same_name : (name other : List ℕ) → slice_cmp nat_cmp name other ≡ Equal → name ≡ other
same_name name other is =
    (bytes_eq-Decides name other).0 (sym (is_eq-slice_cmp name other) ∙ ap is_eq is)

-- whether two names are the same, by how they compare
by_order : (o : Ordering) (name other : List ℕ) → slice_cmp nat_cmp name other ≡ o
    → bytes_eq name other ≡ is_eq o
by_order o name other is = sym (is_eq-slice_cmp name other) ∙ ap is_eq is

-- the name is below all names of the members
abbrev pub is_below : List ℕ → Members → Bool
is_below name members = list_all (λ later. is_lt (slice_cmp nat_cmp name later)) (names members)

pub is_below-trans : (name other : List ℕ) (members : Members) → slice_cmp nat_cmp name other ≡ Less
    → is_below other members ≡ true → is_below name members ≡ true
is_below-trans name other no_members less_than h = refl
is_below-trans name other (member later value members) less_than h =
    let parts = and_parts (is_lt (slice_cmp nat_cmp other later)) _ h in
    and_from _ _ (ap is_lt (nat_list_cmp_total.trans name other later less_than (less _ parts.0)))
    (is_below-trans name other members less_than parts.1)

pub put-below : (name : List ℕ) (value : Data) (members : Members) → is_below name members ≡ true
    → put name value members ≡ member name value members
put-below name value no_members h = refl
put-below name value (member later tree members) h =
    rw (less _ (and_parts (is_lt (slice_cmp nat_cmp name later)) _ h).0) refl

without-below : (name : List ℕ) (members : Members) → is_below name members ≡ true
    → without name members ≡ members
without-below name no_members h = refl
without-below name (member later tree members) h =
    let parts = and_parts (is_lt (slice_cmp nat_cmp name later)) _ h in
    rw (by_order Less name later (less _ parts.0))
    (ap (member later tree) (without-below name members parts.1))

put-without_at : (o : Ordering) (name other : List ℕ) (value tree : Data) (more : Members)
    → slice_cmp nat_cmp name other ≡ o → is_below other more ≡ true
    → put name value (without name more) ≡ put name value more
    → put name value (without name (member other tree more))
    ≡ put name value (member other tree more)
put-without_at Less name other value tree more is h later =
    let rest = without-below name more (is_below-trans name other more is h) in
    rw (by_order Less name other is, rest)
put-without_at Equal name other value tree more is h later =
    let same = same_name name other is in
    rw (by_order Equal name other is, is)
    (put-below name value more (ap (λ n. is_below n more) same ∙ h)
    ∙ ap (λ n. member n value more) same)
put-without_at Greater name other value tree more is h later =
    rw (by_order Greater name other is, is) (ap (member other tree) later)

pub put-without : (name : List ℕ) (value : Data) (members : Members) → ascend (names members) ≡ true
    → put name value (without name members) ≡ put name value members
put-without name value no_members h = refl
put-without name value (member other tree members) h =
    let parts = and_parts (is_below other members) _ h in
    put-without_at _ name other value tree members refl parts.0
    (put-without name value members parts.1)

pub get_member-below : (name : List ℕ) (members : Members) → is_below name members ≡ true
    → get_member name members ≡ None
get_member-below name no_members h = refl
get_member-below name (member later tree members) h =
    let parts = and_parts (is_lt (slice_cmp nat_cmp name later)) _ h in
    rw (less _ parts.0) (get_member-below name members parts.1)

get_member-without_at : (o : Ordering) (name other : List ℕ) (tree : Data) (more : Members)
    → slice_cmp nat_cmp name other ≡ o → is_below other more ≡ true
    → get_member name (without name more) ≡ None
    → get_member name (without name (member other tree more)) ≡ None
get_member-without_at Less name other tree more is h later =
    rw (by_order Less name other is, is) later
get_member-without_at Equal name other tree more is h later =
    rw (by_order Equal name other is)
    (get_member-below name more (ap (λ n. is_below n more) (same_name name other is) ∙ h))
get_member-without_at Greater name other tree more is h later =
    rw (by_order Greater name other is, is) later

pub get_member-without_same : (name : List ℕ) (members : Members) → ascend (names members) ≡ true
    → get_member name (without name members) ≡ None
get_member-without_same name no_members h = refl
get_member-without_same name (member other tree members) h =
    let parts = and_parts (is_below other members) _ h in
    get_member-without_at _ name other tree members refl parts.0
    (get_member-without_same name members parts.1)

without-absent_at : (o : Ordering) (name other : List ℕ) (tree : Data) (more : Members)
    → slice_cmp nat_cmp name other ≡ o
    → (get_member name more ≡ None → without name more ≡ more)
    → get_member name (member other tree more) ≡ None
    → without name (member other tree more) ≡ member other tree more
without-absent_at Less name other tree more is later h =
    let rest : get_member name more ≡ None = sym (rw is refl) ∙ h in
    rw (by_order _ name other is) (ap (member other tree) (later rest))
without-absent_at Equal name other tree more is later h =
    let found : Some tree ≡ None = sym (rw is refl) ∙ h in absurd (cc)
without-absent_at Greater name other tree more is later h =
    let rest : get_member name more ≡ None = sym (rw is refl) ∙ h in
    rw (by_order _ name other is) (ap (member other tree) (later rest))

pub without-absent : (name : List ℕ) (members : Members) → get_member name members ≡ None
    → without name members ≡ members
without-absent name no_members h = refl
without-absent name (member other tree members) h =
    without-absent_at _ name other tree members refl (without-absent name members) h
