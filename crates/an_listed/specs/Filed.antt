-- Rows of annotations, each with the class of its audience.
use Rattle.std.specs.Prelude.{ℕ, ◌++◌, List, [], ◌∷◌, Bool, ◌&&◌, if◌then◌else◌, nat_lt, length}
use Rattle.std.specs.Prelude.{Option, Some, None, is_some, slice_get, slice_set}
use Rattle.an_base.specs.Outcome.{passes}
use Rattle.an_policy.specs.Audience.{Identity, may}
use Rattle.an_policy.specs.declared.group.Audience.{Audience}
use Rattle.an_state.specs.State.{NoteState}
use Rattle.an_state.specs.View.{is_on}
use Rattle.an_listed.specs.declared.filed.Filed.{Filed}

-- the rows with this one at the place, or after all of them
abbrev pub put_at : ℕ → Filed → List Filed → List Filed
put_at place row rows =
    if nat_lt place (length rows) then slice_set rows place row else rows ++ row ∷ []

-- the caller may read what has the audience of this class
abbrev pub reads : Identity → List Audience → ℕ → Bool
reads who classes class = passes (may who) (slice_get classes class)

-- the annotation is live, and on the manifest, where one is named
abbrev pub is_under : Option (List ℕ) → NoteState → Bool
is_under (Some manifest) row = is_on manifest row
is_under None row = is_some row.live

-- it is, and the caller may read it
abbrev pub reads_within : Identity → List Audience → Option (List ℕ) → Filed → Bool
reads_within who classes manifest row = is_under manifest row.note && reads who classes row.class
