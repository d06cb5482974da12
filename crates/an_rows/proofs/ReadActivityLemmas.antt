-- The text of a valid activity reads back as the activity, and so that of each valid row as the
-- row.
use Rattle.std.proofs.Common.{◌≡◌, ◌≤◌, ℕ, ℤ, List, Bool, true, false, ◌&&◌, ◌||◌, codes, bytes_eq, Option, Some, None, Ok, is_none, is_some, option_map, option_and_then, refl, ap, subst, ◌∙◌, arith}
use Rattle.std.proofs.lemmas.Bool.{and_parts, and_from, cond-true}
use Rattle.std.proofs.lemmas.Option.{same_Some}
use Rattle.std.proofs.lemmas.Slice.Eq.{bytes_eq-Decides}
use Rattle.std.specs.Str.{is_utf8}
use Rattle.serde_json.specs.Data.{Data, string, object, Members, no_members, member, depth, members_depth}
use Rattle.serde_json.specs.Find.{get, get_member, as_str, as_number, as_i64}
use Rattle.an_base.specs.Moment.{is_moment}
use Rattle.an_base.specs.Name.{is_name}
use Rattle.an_base.specs.Outcome.{only_if, passes}
use Rattle.an_base.specs.Tree.{ascend, names}
use Rattle.an_policy.specs.Group.{group_text}
use Rattle.an_policy.specs.Inner.{is_valid_inner}
use Rattle.an_policy.specs.declared.group.Audience.{Audience}
use Rattle.an_policy.specs.declared.group.Group.{Group}
use Rattle.an_policy.specs.declared.inner.Inner.{Inner}
use Rattle.an_policy.specs.declared.inner.Inner.TheVariants.{Public, Private, Names}
use Rattle.an_policy.proofs.GroupLemmas as groups
use Rattle.an_state.specs.declared.activity.Activity.{Activity}
use Rattle.an_state.specs.declared.entry.Row.{Row}
use Rattle.an_state.specs.declared.entry.Row.TheVariants as kept
use Rattle.an_rows.specs.Format.{can_say, inner_in, inner_tree}
use Rattle.an_rows.specs.RowTree.{moment_tree, given, audience_tree, by_text, activity_members, row_text, table_of}
use Rattle.an_rows.specs.Valid.{if_any, is_manifest_group, is_public, is_inner, is_valid_audience, is_valid_activity, is_valid_row, row_can}
use Rattle.an_rows.specs.RowRead.{name_in, moment_in, group_in, if_audience, audience_of, audience_with, audience_if, if_seen, activity_on, activity_in, row_of_text}
use Rattle.an_rows.specs.declared.format.Format.{Format}
use Rattle.an_rows.specs.declared.refusal.RowError.TheVariants.{Bytes}
use Rattle.an_rows.proofs.WholeLemmas.{Fine, FineMembers, fine-none, fine-member, fine-text, fine-moment, fine-given, small-utf8, name-utf8, group-utf8, max-both}
use Rattle.an_rows.proofs.ReadLemmas.{next, read_then, passing, moment-read, read-from, reader-reads-back}
use Rattle.an_rows.proofs.ReadTreeLemmas.{manifest-reads-back}
use Rattle.an_rows.proofs.ReadNoteLemmas.{note-reads-back}
use Rattle.an_rows.proofs.InnerLemmas.{fine-inner, inner-shallow, written-read}

-- ---- members that may be there

past-given : (wanted name : List ℕ) (value : Option Data) (others : Members)
    → ((v : Data) → get_member wanted (member name v others) ≡ get_member wanted others)
    → get_member wanted (given name value others) ≡ get_member wanted others
past-given wanted name None others apart = refl
past-given wanted name (Some v) others apart = apart v

given-there : (name : List ℕ) (value : Option Data) (others : Members)
    → ((v : Data) → get_member name (member name v others) ≡ Some v)
    → get_member name others ≡ None → get_member name (given name value others) ≡ value
given-there name None others here none = none
given-there name (Some v) others here none = here v

-- a name that may be there is read from its text
name-if : (name : Option (List ℕ)) → if_any is_name name ≡ true
    → option_and_then (only_if is_name) (option_and_then as_str (option_map string name)) ≡ name
name-if None h = refl
name-if (Some name) h = passing is_name name h

by-read : (by : Option (List ℕ)) → if_any is_name by ≡ true → only_if is_name (by_text by) ≡ by
by-read None h = refl
by-read (Some name) h = passing is_name name h

fine-name : (name : Option (List ℕ)) → if_any is_name name ≡ true → (its : Data)
    → option_map string name ≡ Some its → Fine its
fine-name None h its is = absurd (cc)
fine-name (Some name) h its is =
    subst Fine (same_Some (string name) its is) (fine-text name (name-utf8 name h))

by-utf8 : (by : Option (List ℕ)) → if_any is_name by ≡ true → is_utf8 (by_text by) ≡ true
by-utf8 None h = small-utf8 _ refl
by-utf8 (Some name) h = name-utf8 name h

-- ---- an audience

inner-valid : (owner : Option (List ℕ)) (audience : Audience) → is_inner owner audience ≡ true
    → is_valid_inner audience.inner ≡ true
inner-valid None audience h = public-valid audience.inner (and_parts _ _ h).0
  where
    public-valid : (inner : Inner) → is_public inner ≡ true → is_valid_inner inner ≡ true
    public-valid Public is = refl
    public-valid Private is = absurd (cc)
    public-valid (Names names) is = absurd (cc)
inner-valid (Some owner) audience h = (and_parts _ _ h).0

-- the owner of a valid audience has a name
owner-named : (owner its : Option (List ℕ)) (public valid : Bool) → if_any is_name owner ≡ true
    → (elim owner
    [ None ↦ (public && is_none its) | Some o ↦ (valid && passes (λ i. bytes_eq i o) its) ]) ≡ true
    → if_any is_name its ≡ true
owner-named owner None public valid named h = refl
owner-named None (Some i) public valid named h =
    let wrong : false ≡ true = (and_parts public false h).1 in absurd (cc)
owner-named (Some o) (Some i) public valid named h =
    ap is_name ((bytes_eq-Decides i o).0 (and_parts valid _ h).1) ∙ named

-- the value of an audience, by its parts
abbrev audience_value : Format → Inner → Group → Option (List ℕ) → Members
audience_value format inner outer owner =
    member (codes "inner") (inner_tree format inner)
    (member (codes "outer") (string (group_text outer))
    (given (codes "owner") (option_map string owner) no_members))

order-audience : (format : Format) (inner : Inner) (outer : Group) (owner : Option (List ℕ))
    → ascend (names (audience_value format inner outer owner)) ≡ true
order-audience format inner outer None = refl
order-audience format inner outer (Some o) = refl

depth-audience : (format : Format) (inner : Inner) (outer : Group) (owner : Option (List ℕ))
    → members_depth (audience_value format inner outer owner) ≤ 1
depth-audience format inner outer None =
    max-both (depth (inner_tree format inner)) 0 1 (inner-shallow format inner) (omega arith)
depth-audience format inner outer (Some o) =
    max-both (depth (inner_tree format inner)) 0 1 (inner-shallow format inner) (omega arith)

module _ (format : Format) (owner : Option (List ℕ)) (audience : Audience)
    (named : if_any is_name owner ≡ true) (can : can_say format audience.inner ≡ true)
    (valid : is_valid_audience owner audience ≡ true) where
  parts : (is_manifest_group audience.outer ≡ true) × (is_inner owner audience ≡ true)
  unfolding is_valid_audience
  parts = and_parts (is_manifest_group audience.outer) _ valid

  own-named : if_any is_name audience.owner ≡ true
  own-named = inner-named owner parts.1 named
    where
      inner-named : (owner : Option (List ℕ)) → is_inner owner audience ≡ true
          → if_any is_name owner ≡ true → if_any is_name audience.owner ≡ true
      inner-named None h k = owner-named None audience.owner (is_public audience.inner) true k h
      inner-named (Some o) h k =
          owner-named (Some o) audience.owner true (is_valid_inner audience.inner) k h

  fine-audience : Fine (audience_tree format audience)
  unfolding audience_tree
  fine-audience =
      let inner = fine-inner format audience.inner (inner-valid owner audience parts.1) can in
      let outer = group-utf8 audience.outer (and_parts _ _ parts.0).0 in
      let fine = fine-member (codes "inner") (inner_tree format audience.inner) _ refl inner
      (fine-member (codes "outer") (string (group_text audience.outer)) _ refl (fine-text _ outer)
      (fine-given (codes "owner") (option_map string audience.owner) no_members refl
      (fine-name audience.owner own-named) fine-none)) in
      record {
        whole =
            and_from _ _
            (order-audience format audience.inner audience.outer audience.owner) fine.whole;
        shallow = omega (arith, depth-audience format audience.inner audience.outer audience.owner);
      }

  audience-read : audience_of format owner (audience_tree format audience) ≡ Ok audience
  unfolding audience_of audience_with audience_tree
  audience-read =
      let value = object (audience_value format audience.inner audience.outer audience.owner) in
      let its : name_in (codes "owner") value ≡ audience.owner =
      ap (λ found. option_and_then (only_if is_name) (option_and_then as_str found))
      (given-there (codes "owner") (option_map string audience.owner) no_members (λ v. refl) refl)
      ∙ name-if audience.owner own-named in
      next Bytes (inner_in format (codes "inner") value) audience.inner _
      (written-read format audience.inner (inner-valid owner audience parts.1) can)
      ∙ next Bytes (group_in (codes "outer") value) audience.outer _
      (groups.read_back audience.outer (and_parts _ _ parts.0).0)
      ∙ ap (λ o. if_audience owner
      (record { outer = audience.outer; inner = audience.inner; owner = o })) its
      ∙ cond-true _ _ _ valid

-- an audience that may be there
-- that the format can say
abbrev can_if : Format → Option Audience → Bool
can_if format audience = if_any (λ its. can_say format its.inner) audience

audience-if : (format : Format) (owner : Option (List ℕ)) (audience : Option Audience)
    → if_any is_name owner ≡ true → can_if format audience ≡ true
    → if_any (is_valid_audience owner) audience ≡ true
    → audience_if format owner (option_map (audience_tree format) audience) ≡ Ok audience
audience-if format owner None named can valid = refl
audience-if format owner (Some audience) named can valid =
    read_then (audience_of format owner (audience_tree format audience)) audience _
    (audience-read format owner audience named can valid)

fine-if : (format : Format) (owner : Option (List ℕ)) (audience : Option Audience)
    → if_any is_name owner ≡ true → can_if format audience ≡ true
    → if_any (is_valid_audience owner) audience ≡ true → (its : Data)
    → option_map (audience_tree format) audience ≡ Some its → Fine its
fine-if format owner None named can valid its is = absurd (cc)
fine-if format owner (Some audience) named can valid its is =
    subst Fine (same_Some (audience_tree format audience) its is)
    (fine-audience format owner audience named can valid)

-- ---- an activity

activity-by : (format : Format) (value : Data) (a : Activity)
    → moment_in (codes "at") value ≡ Some a.at → name_in (codes "name") value ≡ Some a.name
    → name_in (codes "owner") value ≡ a.owner → name_in (codes "by") value ≡ a.by
    → audience_if format a.owner (get (codes "before") value) ≡ Ok a.before
    → audience_if format a.owner (get (codes "after") value) ≡ Ok a.after
    → (is_some a.before || is_some a.after) ≡ true → activity_in format value ≡ Ok a
unfolding activity_in activity_on
activity-by format value a at name owner by before after seen =
    next Bytes (moment_in (codes "at") value) a.at _ at
    ∙ next Bytes (name_in (codes "name") value) a.name _ name
    ∙ ap (λ o. activity_on format a.at o a.name value) owner
    ∙ read_then (audience_if format a.owner (get (codes "before") value)) a.before _ before
    ∙ read_then (audience_if format a.owner (get (codes "after") value)) a.after _ after
    ∙ ap (λ b. if_seen (record {
      at = a.at;
      by = b;
      owner = a.owner;
      name = a.name;
      before = a.before;
      after = a.after;
    })) by
    ∙ cond-true _ _ _ seen

-- the tail of the members, from the owner's and from the one before on
abbrev owner_part : Activity → Members
owner_part a = given (codes "owner") (option_map string a.owner) no_members

abbrev by_part : Activity → Members
by_part a =
    member (codes "by") (string (by_text a.by))
    (member (codes "name") (string a.name) (owner_part a))

abbrev before_part : Format → Activity → Members
before_part format a =
    given (codes "before") (option_map (audience_tree format) a.before) (by_part a)

order-activity : (format : Format) (at : ℤ) (by owner : Option (List ℕ)) (name : List ℕ)
    (before after : Option Audience)
    → ascend (names (activity_members format
    (record { at = at; by = by; owner = owner; name = name; before = before; after = after })))
    ≡ true
unfolding activity_members
order-activity format at by None name None None = refl
order-activity format at by None name None (Some a) = refl
order-activity format at by None name (Some b) None = refl
order-activity format at by None name (Some b) (Some a) = refl
order-activity format at by (Some o) name None None = refl
order-activity format at by (Some o) name None (Some a) = refl
order-activity format at by (Some o) name (Some b) None = refl
order-activity format at by (Some o) name (Some b) (Some a) = refl

module _ (format : Format) (a : Activity) where
  abbrev at_part : Members
  at_part = member (codes "at") (moment_tree a.at) (before_part format a)

  abbrev value : Data
  value = object (activity_members format a)

  get-at : get (codes "at") value ≡ Some (moment_tree a.at)
  unfolding activity_members
  get-at =
      past-given (codes "at") (codes "after")
      (option_map (audience_tree format) a.after) at_part (λ v. refl)

  get-after : get (codes "after") value ≡ option_map (audience_tree format) a.after
  unfolding activity_members
  get-after =
      given-there (codes "after") (option_map (audience_tree format) a.after) at_part (λ v. refl)
      (past-given (codes "after") (codes "before") (option_map (audience_tree format) a.before)
      (by_part a) (λ v. refl)
      ∙ past-given (codes "after") (codes "owner") (option_map string a.owner) no_members
      (λ v. refl))

  get-before : get (codes "before") value ≡ option_map (audience_tree format) a.before
  unfolding activity_members
  get-before =
      past-given (codes "before") (codes "after")
      (option_map (audience_tree format) a.after) at_part (λ v. refl)
      ∙ given-there (codes "before") (option_map (audience_tree format) a.before)
      (by_part a) (λ v. refl)
      (past-given (codes "before") (codes "owner") (option_map string a.owner) no_members
      (λ v. refl))

  -- what stands behind the audience before
  get-behind : (wanted : List ℕ)
      → ((v : Data)
      → get_member wanted (member (codes "after") v at_part) ≡ get_member wanted at_part)
      → ((v : Data)
      → get_member wanted (member (codes "before") v (by_part a)) ≡ get_member wanted (by_part a))
      → get_member wanted at_part ≡ get_member wanted (before_part format a)
      → get wanted value ≡ get_member wanted (by_part a)
  unfolding activity_members
  get-behind wanted after before at =
      past-given wanted (codes "after") (option_map (audience_tree format) a.after) at_part after
      ∙ at
      ∙ past-given wanted (codes "before") (option_map (audience_tree format) a.before)
      (by_part a) before

  get-by : get (codes "by") value ≡ Some (string (by_text a.by))
  get-by = get-behind (codes "by") (λ v. refl) (λ v. refl) refl

  get-name : get (codes "name") value ≡ Some (string a.name)
  get-name = get-behind (codes "name") (λ v. refl) (λ v. refl) refl

  get-owner : get (codes "owner") value ≡ option_map string a.owner
  get-owner =
      get-behind (codes "owner") (λ v. refl) (λ v. refl) refl
      ∙ given-there (codes "owner") (option_map string a.owner) no_members (λ v. refl) refl

  module _ (made : is_moment a.at ≡ true) (by : if_any is_name a.by ≡ true)
      (owned : if_any is_name a.owner ≡ true) (named : is_name a.name ≡ true)
      (before : if_any (is_valid_audience a.owner) a.before ≡ true)
      (after : if_any (is_valid_audience a.owner) a.after ≡ true)
      (can_before : can_if format a.before ≡ true) (can_after : can_if format a.after ≡ true)
      (seen : (is_some a.before || is_some a.after) ≡ true) where
    fine-activity : FineMembers (activity_members format a)
    unfolding activity_members
    fine-activity =
        fine-given (codes "after") (option_map (audience_tree format) a.after) _ refl
        (fine-if format a.owner a.after owned can_after after)
        (fine-member (codes "at") (moment_tree a.at) _ refl (fine-moment a.at made)
        (fine-given (codes "before") (option_map (audience_tree format) a.before) _ refl
        (fine-if format a.owner a.before owned can_before before)
        (fine-member (codes "by") (string (by_text a.by)) _ refl (fine-text _ (by-utf8 a.by by))
        (fine-member (codes "name") (string a.name) _ refl
        (fine-text a.name (name-utf8 a.name named))
        (fine-given (codes "owner") (option_map string a.owner) no_members refl
        (fine-name a.owner owned) fine-none)))))

    row-activity : activity_in format value ≡ Ok a
    row-activity =
        activity-by format value a
        (ap (λ found. option_and_then (only_if is_moment)
        (option_and_then as_i64 (option_and_then as_number found))) get-at
        ∙ moment-read a.at made)
        (ap (λ found. option_and_then (only_if is_name) (option_and_then as_str found)) get-name
        ∙ passing is_name a.name named)
        (ap (λ found. option_and_then (only_if is_name) (option_and_then as_str found)) get-owner
        ∙ name-if a.owner owned)
        (ap (λ found. option_and_then (only_if is_name) (option_and_then as_str found)) get-by
        ∙ by-read a.by by)
        (ap (audience_if format a.owner) get-before
        ∙ audience-if format a.owner a.before owned can_before before)
        (ap (audience_if format a.owner) get-after
        ∙ audience-if format a.owner a.after owned can_after after)
        seen

pub activity-reads-back : (format : Format) (a : Activity) → is_valid_activity a ≡ true
    → row_can format (kept.Activity a) ≡ true
    → row_of_text format 4 (row_text format (kept.Activity a)) ≡ Ok (kept.Activity a)
unfolding is_valid_activity
activity-reads-back format a valid can =
    let both = and_parts (can_if format a.before) _ can in
    let seen =
    and_parts (is_moment a.at && if_any is_name a.by && if_any is_name a.owner && is_name a.name
    && if_any (is_valid_audience a.owner) a.before && if_any (is_valid_audience a.owner) a.after) _
    valid in
    let after =
    and_parts (is_moment a.at && if_any is_name a.by && if_any is_name a.owner && is_name a.name
    && if_any (is_valid_audience a.owner) a.before) _ seen.0 in
    let before =
    and_parts (is_moment a.at && if_any is_name a.by && if_any is_name a.owner && is_name a.name)
    _ after.0 in
    let name =
    and_parts (is_moment a.at && if_any is_name a.by && if_any is_name a.owner) _ before.0 in
    let owner = and_parts (is_moment a.at && if_any is_name a.by) _ name.0 in
    let by = and_parts (is_moment a.at) _ owner.0 in
    read-from format (kept.Activity a) (activity_members format a) refl
    (fine-activity format a by.0 by.1 owner.1 name.1 before.1 after.1 both.0 both.1 seen.1)
    (order-activity format a.at a.by a.owner a.name a.before a.after)
    (read_then (activity_in format (object (activity_members format a))) a _
    (row-activity format a by.0 by.1 owner.1 name.1 before.1 after.1 both.0 both.1 seen.1))

-- ---- each row

pub row-reads-back : (format : Format) (row : Row) → is_valid_row row ≡ true
    → row_can format row ≡ true → row_of_text format (table_of row) (row_text format row) ≡ Ok row
row-reads-back format (kept.Reader row) valid can = reader-reads-back format row valid
row-reads-back format (kept.Manifest row) valid can = manifest-reads-back format row valid
row-reads-back format (kept.Note row) valid can = note-reads-back format row valid can
row-reads-back format (kept.Activity row) valid can = activity-reads-back format row valid can

pub ruleset rows_texts = (row-reads-back)
