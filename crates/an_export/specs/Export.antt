-- What a caller sees, as the lines that put it again. Each line ends in LF.
use Rattle.std.specs.Prelude.{ℕ, List, [], ◌++◌, codes}
use Rattle.std.specs.List.{flat_map}
use Rattle.std.specs.Option.{option_map_or}
use Rattle.serde_json.specs.Written.{compact_text}
use Rattle.an_base.specs.Moment.{moment_text}
use Rattle.an_policy.specs.Group.{group_text}
use Rattle.an_policy.specs.Inner.{inner_text}
use Rattle.an_state.specs.State.{ManifestState, NoteState, LiveManifest, LiveNote}
use Rattle.an_state.specs.View.{View}

-- CREATED - PUT /manifests/NAME?version=1&group=GROUP TREE
abbrev pub live_manifest_line : ManifestState → LiveManifest → List ℕ
live_manifest_line row live =
    moment_text live.created ++ (codes " - PUT /manifests/" ++ (row.name
    ++ (codes "?version=1&group=" ++ (group_text row.group
    ++ (codes " " ++ (compact_text live.tree ++ codes "\n"))))))

-- CREATED OWNER PUT /annotations/OWNER/NAME?version=1&manifest=MANIFEST&group=GROUP TREE
abbrev pub live_note_line : NoteState → LiveNote → List ℕ
live_note_line row live =
    moment_text live.created ++ (codes " " ++ (row.owner
    ++ (codes " PUT /annotations/" ++ (row.owner ++ (codes "/" ++ (row.name
    ++ (codes "?version=1&manifest=" ++ (live.manifest
    ++ (codes "&group=" ++ (inner_text live.group
    ++ (codes " " ++ (compact_text live.tree ++ codes "\n"))))))))))))

-- the line of a manifest; none of one that was deleted
abbrev pub manifest_line : ManifestState → List ℕ
manifest_line row = option_map_or (live_manifest_line row) row.live []

-- the line of an annotation; none of one that was deleted
abbrev pub note_line : NoteState → List ℕ
note_line row = option_map_or (live_note_line row) row.live []

-- the lines of the manifests of the view, and behind them those of its annotations, in their order
unfoldable pub exported : View → List ℕ
exported view = flat_map manifest_line view.manifests ++ flat_map note_line view.notes
