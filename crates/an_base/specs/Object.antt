-- JSON objects with members put into them, and taken out.
use Rattle.std.specs.Prelude.{ℕ, List, Option, Some, None, bytes_eq, if◌then◌else◌}
use Rattle.serde_json.specs.Data.{Data, null, boolean, number, string, array, object, Members}
use Rattle.serde_json.specs.Data.{no_members, member, put}

-- the object with this member, in place of one of its name; what is no object stays as it is
abbrev pub with_member : List ℕ → Data → Data → Data
with_member name value null = null
with_member name value (boolean b) = boolean b
with_member name value (number n) = number n
with_member name value (string text) = string text
with_member name value (array items) = array items
with_member name value (object members) = object (put name value members)

-- the same, where there is a value
abbrev pub with_member_if : List ℕ → Option Data → Data → Data
with_member_if name None tree = tree
with_member_if name (Some value) tree = with_member name value tree

-- the members but the one of this name
abbrev pub without : List ℕ → Members → Members
without name no_members = no_members
without name (member other value members) =
    if bytes_eq name other then members else member other value (without name members)

-- the object without the member of this name; what is no object stays as it is
abbrev pub without_member : List ℕ → Data → Data
without_member name null = null
without_member name (boolean b) = boolean b
without_member name (number n) = number n
without_member name (string text) = string text
without_member name (array items) = array items
without_member name (object members) = object (without name members)
