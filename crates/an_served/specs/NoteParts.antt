-- For private clauses: the members that the server writes into an annotation.
use Rattle.std.specs.Prelude.{ℕ, ℤ, List, codes, Option, None, Some}
use Rattle.serde_json.specs.Data.{string, Members, no_members, member}
use Rattle.an_served.specs.Note.{moment_string}

abbrev pub modified_member : Option ℤ → Members
modified_member None = no_members
modified_member (Some moment) = member (codes "modified") (moment_string moment) no_members

abbrev pub id_member : List ℕ → Option ℤ → Members
id_member id modified = member (codes "id") (string id) (modified_member modified)

-- the members that are put into an annotation that is served, in the order of their names
abbrev pub served : List ℕ → List ℕ → ℤ → Option ℤ → Members
served id creator created modified =
    member (codes "created") (moment_string created)
    (member (codes "creator") (string creator) (id_member id modified))
