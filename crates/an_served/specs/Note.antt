-- An annotation as it is served (Web Annotation Data Model, section 3.3.1).
use Rattle.std.specs.Prelude.{ℕ, ℤ, List, codes, Option, option_map}
use Rattle.serde_json.specs.Data.{Data, string}
use Rattle.an_base.specs.Moment.{moment_text}
use Rattle.an_base.specs.Object.{with_member, with_member_if}

abbrev pub moment_string : ℤ → Data
moment_string moment = string (moment_text moment)

-- the tree that is kept, with its IRI, who made it and when, and when it was last changed
abbrev pub dressed : List ℕ → List ℕ → ℤ → Option ℤ → Data → Data
dressed id creator created modified tree =
    with_member_if (codes "modified") (option_map moment_string modified)
    (with_member (codes "id") (string id)
    (with_member (codes "creator") (string creator)
    (with_member (codes "created") (moment_string created) tree)))
