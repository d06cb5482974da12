-- The parts of a line make the line of a row.
use Rattle.std.proofs.Common.{◌≡◌, ℕ, List, [], ◌++◌, Option, None, Some, codes, refl, append_assoc}
use Rattle.std.specs.Prelude.{ℤ, option_map}
use Rattle.serde_json.specs.Data.{Data}
use Rattle.serde_json.specs.Written.{compact_text}
use Rattle.an_base.specs.Moment.{moment_text}
use Rattle.an_policy.specs.Group.{group_text}
use Rattle.an_policy.specs.Inner.{inner_text}
use Rattle.an_state.specs.State.{ManifestState, NoteState, LiveManifest, LiveNote}
use Rattle.an_export.specs.Export.{live_manifest_line, live_note_line, manifest_line}

-- ---- the head of a line, and what follows it

behind_six : (a b c d e f rest : List ℕ)
    → (a ++ (b ++ (c ++ (d ++ (e ++ f))))) ++ rest ≡ a ++ (b ++ (c ++ (d ++ (e ++ (f ++ rest)))))
behind_six a b c d e f rest = simp append_assoc

behind_twelve : (a b c d e f g h i j k l rest : List ℕ)
    → (a ++ (b ++ (c ++ (d ++ (e ++ (f ++ (g ++ (h ++ (i ++ (j ++ (k ++ l))))))))))) ++ rest
    ≡ a ++ (b ++ (c ++ (d ++ (e ++ (f ++ (g ++ (h ++ (i ++ (j ++ (k ++ (l ++ rest)))))))))))
behind_twelve a b c d e f g h i j k l rest = simp append_assoc

pub written_manifest : (row : ManifestState) (created : ℤ) (tree : Data) (head text : List ℕ)
    → head ≡ moment_text created
    ++ (codes " - PUT /manifests/"
    ++ (row.name ++ (codes "?version=1&group=" ++ (group_text row.group ++ codes " "))))
    → text ≡ compact_text tree
    → head ++ (text ++ codes "\n")
    ≡ live_manifest_line row (record { created = created; modified = None; tree = tree })
written_manifest row created tree head text head_is text_is =
    rw (head_is, text_is) (behind_six (moment_text created) (codes " - PUT /manifests/") row.name
    (codes "?version=1&group=") (group_text row.group) (codes " ")
    (compact_text tree ++ codes "\n"))

pub written_note : (row : NoteState) (live : LiveNote) (head text : List ℕ)
    → head ≡ moment_text live.created
    ++ (codes " "
    ++ (row.owner ++ (codes " PUT /annotations/" ++ (row.owner ++ (codes "/" ++ (row.name
    ++ (codes "?version=1&manifest="
    ++ (live.manifest ++ (codes "&group=" ++ (inner_text live.group ++ codes " "))))))))))
    → text ≡ compact_text live.tree
    → head ++ (text ++ codes "\n") ≡ live_note_line row live
written_note row live head text head_is text_is =
    rw (head_is, text_is) (behind_twelve (moment_text live.created) (codes " ") row.owner
    (codes " PUT /annotations/") row.owner (codes "/") row.name
    (codes "?version=1&manifest=") live.manifest (codes "&group=") (inner_text live.group)
    (codes " ") (compact_text live.tree ++ codes "\n"))

-- ---- the line of a manifest, by what is kept of it

pub live_line : (row : ManifestState) (created : ℤ) (tree : Data)
    → Some created ≡ option_map (λ live. live.created) row.live
    → Some tree ≡ option_map (λ live. live.tree) row.live
    → live_manifest_line row (record { created = created; modified = None; tree = tree })
    ≡ manifest_line row
live_line row created tree made kept = by row.live made kept
  where
    by : (live : Option LiveManifest) → Some created ≡ option_map (λ l. l.created) live
        → Some tree ≡ option_map (λ l. l.tree) live
        → live_manifest_line row (record { created = created; modified = None; tree = tree })
        ≡ manifest_line (record row { live = live })
    by None made kept = cc
    by (Some live) made kept = cc

pub no_line : (row : ManifestState) → None ≡ option_map (λ live. live.tree) row.live
    → [] ≡ manifest_line row
no_line row none = by row.live none
  where
    by : (live : Option LiveManifest) → None ≡ option_map (λ l. l.tree) live
        → [] ≡ manifest_line (record row { live = live })
    by None none = refl
    by (Some live) none = cc

pub ruleset manifest_lines = (live_line, no_line)
