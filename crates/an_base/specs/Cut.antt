-- Where a member of a name would stand in an object, and in its text.
use Rattle.std.specs.Prelude.{ℕ, List, ◌++◌, Bool, true, false, is_none, length, if◌then◌else◌}
use Rattle.std.specs.Ordering.{nat_cmp, is_lt}
use Rattle.std.specs.Cmp.Lexicographic.{slice_cmp}
use Rattle.std.specs.List.{list_all}
use Rattle.serde_json.specs.Data.{Data, null, boolean, number, string, array, object, Members}
use Rattle.serde_json.specs.Data.{no_members, member, put}
use Rattle.serde_json.specs.Find.{get_member}
use Rattle.an_base.specs.Tree.{names}
use Rattle.an_base.specs.Write.{member_text, commas}

-- the name stands before the other
abbrev pub is_before : List ℕ → List ℕ → Bool
is_before name other = is_lt (slice_cmp nat_cmp name other)

-- the members whose names stand before this one
abbrev pub below : List ℕ → Members → Members
below name no_members = no_members
below name (member other value members) =
    if is_before other name then member other value (below name members) else below name members

-- the other members
abbrev pub above : List ℕ → Members → Members
above name no_members = no_members
above name (member other value members) =
    if is_before other name then above name members else member other value (above name members)

-- how many bytes of the members' text stand before the name's place
abbrev pub cut : List ℕ → Members → ℕ
cut name members = length (commas (below name members))

abbrev pub is_object : Data → Bool
is_object null = false
is_object (boolean b) = false
is_object (number n) = false
is_object (string text) = false
is_object (array items) = false
is_object (object _) = true

-- the members of an object; what is no object has none
abbrev pub members_in : Data → Members
members_in null = no_members
members_in (boolean b) = no_members
members_in (number n) = no_members
members_in (string text) = no_members
members_in (array items) = no_members
members_in (object members) = members

-- the members with others put among them, the first of those first
abbrev pub put_all : Members → Members → Members
put_all no_members members = members
put_all (member name value others) members = put_all others (put name value members)

-- the members have none of the others' names
abbrev pub lacks : Members → Members → Bool
lacks others members = list_all (λ name. is_none (get_member name members)) (names others)

-- the members' text from a name's place on, with the others put among them
abbrev pub spliced : List ℕ → Members → Members → List ℕ
spliced low no_members members = commas (above low members)
spliced low (member name value others) members =
    commas (below name (above low members)) ++ (member_text name value
    ++ spliced name others members)
