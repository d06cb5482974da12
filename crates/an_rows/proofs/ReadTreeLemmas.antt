-- The text of a valid row of a manifest or an annotation reads back as the row.
use Rattle.std.proofs.Common.{◌≡◌, ℤ, true, false, ◌&&◌, codes, Option, Some, None, Ok, option_map, option_and_then, refl, sym, ap, subst, ◌∙◌}
use Rattle.std.proofs.lemmas.Bool.{and_parts}
use Rattle.std.proofs.lemmas.Option.{same_Some}
use Rattle.std.specs.Result.{result_ok}
use Rattle.serde_json.specs.Data.{Data, boolean, number, string, object, unsigned, Members, no_members}
use Rattle.an_base.specs.Moment.{is_moment}
use Rattle.an_base.specs.Name.{is_name}
use Rattle.an_base.specs.Outcome.{only_if}
use Rattle.an_base.specs.Tree.{ascend, names, is_tree}
use Rattle.an_manifest.specs.Manifest.{manifest_of}
use Rattle.an_manifest.proofs.ManifestLemmas.{kept_again}
use Rattle.an_policy.specs.Group.{group_named, group_text}
use Rattle.an_policy.specs.declared.group.Group.{Group}
use Rattle.an_policy.proofs.GroupLemmas as group
use Rattle.an_state.specs.Commands.{is_number}
use Rattle.an_state.specs.State.{ManifestState, LiveManifest}
use Rattle.an_state.specs.declared.entry.Row.TheVariants as kept
use Rattle.an_rows.specs.RowTree.{moment_tree, live_manifest_members, manifest_tombstone_members, row_text}
use Rattle.an_rows.specs.Valid.{is_manifest_group, is_sheet, if_any, is_valid_live_manifest, is_valid_manifest_row}
use Rattle.an_rows.specs.RowRead.{then_read, name_in, flag_in, version_in, moment_in, manifest_group_in, tree_in, live_manifest_in, manifest_if_live, manifest_named, manifest_row_in, row_of_text}
use Rattle.an_rows.specs.declared.format.Format.{Format}
use Rattle.an_rows.specs.declared.refusal.RowError.TheVariants.{Bytes}
use Rattle.an_rows.proofs.WholeLemmas.{Fine, FineMembers, fine-none, fine-member, fine-text, fine-flag, fine-number, fine-moment, fine-tree, fine-given, name-utf8, group-utf8}
use Rattle.an_rows.proofs.ReadLemmas.{next, read_then, passing, number-small, moment-read, read-from}

-- ---- a moment that may be there

pub fine-modified : (modified : Option ℤ) → if_any is_moment modified ≡ true → (its : Data)
    → option_map moment_tree modified ≡ Some its → Fine its
fine-modified None h its is = absurd (cc)
fine-modified (Some m) h its is = subst Fine (same_Some (moment_tree m) its is) (fine-moment m h)

-- a group is read from its text
group-read : (its : Group) → is_manifest_group its ≡ true
    → option_and_then (only_if is_manifest_group) (group_named (group_text its)) ≡ Some its
group-read its h =
    ap (option_and_then (only_if is_manifest_group)) (group.read_back its (and_parts _ _ h).0)
    ∙ passing is_manifest_group its h

-- ---- a manifest

manifest-by : (value : Data) (row : ManifestState) (live : LiveManifest)
    → name_in (codes "name") value ≡ Some row.name → version_in value ≡ Some row.version
    → manifest_group_in value ≡ Some row.group → flag_in value ≡ Some true
    → moment_in (codes "created") value ≡ Some live.created
    → moment_in (codes "modified") value ≡ live.modified → tree_in value ≡ Some live.tree
    → result_ok (manifest_of live.tree) ≡ Some live.tree → row.live ≡ Some live
    → manifest_row_in value ≡ Ok row
unfolding manifest_row_in manifest_named live_manifest_in
manifest-by value row live name version group flag created modified tree again is =
    let lives : live_manifest_in value ≡ Ok live =
    next Bytes (moment_in (codes "created") value) live.created _ created
    ∙ next Bytes (tree_in value) live.tree _ tree
    ∙ next Bytes (result_ok (manifest_of live.tree)) live.tree _ again
    ∙ ap (λ m. Ok (record { created = live.created; modified = m; tree = live.tree })) modified in
    next Bytes (name_in (codes "name") value) row.name _ name
    ∙ next Bytes (version_in value) row.version _ version
    ∙ next Bytes (manifest_group_in value) row.group _ group
    ∙ next Bytes (flag_in value) true
    (λ flag. then_read (manifest_if_live flag value)
    (λ its. Ok (record { name = row.name; version = row.version; group = row.group; live = its })))
    flag
    ∙ read_then (manifest_if_live true value) (Some live) _
    (read_then (live_manifest_in value) live _ lives)
    ∙ ap
    (λ its. Ok (record { name = row.name; version = row.version; group = row.group; live = its }))
    (sym is)

sheet-again : (tree : Data) → is_sheet tree ≡ true → result_ok (manifest_of tree) ≡ Some tree
unfolding is_sheet
sheet-again tree h = ap result_ok (kept_again tree (and_parts _ _ h).1)

sheet-tree : (tree : Data) → is_sheet tree ≡ true → is_tree tree ≡ true
unfolding is_sheet
sheet-tree tree h = (and_parts _ _ h).0

module _ (row : ManifestState) (created : ℤ) (tree : Data) (named : is_name row.name ≡ true)
    (numbered : is_number row.version ≡ true)
    (grouped : is_manifest_group row.group ≡ true) (made : is_moment created ≡ true)
    (sheet : is_sheet tree ≡ true) where
  abbrev its : Option ℤ → LiveManifest
  its modified = record { created = created; modified = modified; tree = tree }

  fine-manifest : (modified : Option ℤ) → if_any is_moment modified ≡ true
      → FineMembers (live_manifest_members row (its modified))
  unfolding live_manifest_members
  fine-manifest modified h =
      fine-member (codes "created") (moment_tree created) _ refl (fine-moment created made)
      (fine-member (codes "group") (string (group_text row.group)) _ refl
      (fine-text _ (group-utf8 row.group (and_parts _ _ grouped).0))
      (fine-member (codes "live") (boolean true) _ refl (fine-flag true)
      (fine-given (codes "modified") (option_map moment_tree modified) _ refl
      (fine-modified modified h)
      (fine-member (codes "name") (string row.name) _ refl
      (fine-text row.name (name-utf8 row.name named))
      (fine-member (codes "tree") tree _ refl (fine-tree tree (sheet-tree tree sheet))
      (fine-member (codes "version") (number (unsigned row.version)) no_members refl
      (fine-number row.version (number-small row.version numbered)) fine-none))))))

  order-manifest : (modified : Option ℤ)
      → ascend (names (live_manifest_members row (its modified))) ≡ true
  unfolding live_manifest_members
  order-manifest None = refl
  order-manifest (Some m) = refl

  row-manifest : (modified : Option ℤ) → if_any is_moment modified ≡ true
      → row.live ≡ Some (its modified)
      → manifest_row_in (object (live_manifest_members row (its modified))) ≡ Ok row
  unfolding live_manifest_members
  row-manifest None h is =
      manifest-by (object (live_manifest_members row (its None))) row (its None)
      (passing is_name row.name named) (passing is_number row.version numbered)
      (group-read row.group grouped) refl
      (moment-read created made) refl (passing is_tree tree (sheet-tree tree sheet))
      (sheet-again tree sheet) is
  row-manifest (Some m) h is =
      manifest-by (object (live_manifest_members row (its (Some m)))) row (its (Some m))
      (passing is_name row.name named) (passing is_number row.version numbered)
      (group-read row.group grouped) refl
      (moment-read created made) (moment-read m h) (passing is_tree tree (sheet-tree tree sheet))
      (sheet-again tree sheet) is

module _ (row : ManifestState) (named : is_name row.name ≡ true)
    (numbered : is_number row.version ≡ true) (grouped : is_manifest_group row.group ≡ true) where
  fine-manifest_tombstone : FineMembers (manifest_tombstone_members row)
  unfolding manifest_tombstone_members
  fine-manifest_tombstone =
      fine-member (codes "group") (string (group_text row.group)) _ refl
      (fine-text _ (group-utf8 row.group (and_parts _ _ grouped).0))
      (fine-member (codes "live") (boolean false) _ refl (fine-flag false)
      (fine-member (codes "name") (string row.name) _ refl
      (fine-text row.name (name-utf8 row.name named))
      (fine-member (codes "version") (number (unsigned row.version)) no_members refl
      (fine-number row.version (number-small row.version numbered)) fine-none)))

  order-manifest_tombstone : ascend (names (manifest_tombstone_members row)) ≡ true
  unfolding manifest_tombstone_members
  order-manifest_tombstone = refl

  row-manifest_tombstone : row.live ≡ None
      → manifest_row_in (object (manifest_tombstone_members row)) ≡ Ok row
  unfolding manifest_row_in manifest_named manifest_tombstone_members
  row-manifest_tombstone dead =
      let value = object (manifest_tombstone_members row) in
      next Bytes (name_in (codes "name") value) row.name _ (passing is_name row.name named)
      ∙ next Bytes (version_in value) row.version _ (passing is_number row.version numbered)
      ∙ next Bytes (manifest_group_in value) row.group _ (group-read row.group grouped)
      ∙ next Bytes (flag_in value) false
      (λ flag. then_read (manifest_if_live flag value)
      (λ its. Ok
      (record { name = row.name; version = row.version; group = row.group; live = its }))) refl
      ∙ ap
      (λ its. Ok (record { name = row.name; version = row.version; group = row.group; live = its }))
      (sym dead)

abbrev by_live_manifest : ManifestState → Option LiveManifest → Members
by_live_manifest row live =
    elim live [ None ↦ manifest_tombstone_members row | Some its ↦ live_manifest_members row its ]

reads-manifest : (format : Format) (row : ManifestState) (live : Option LiveManifest)
    → row.live ≡ live → is_valid_manifest_row row ≡ true
    → row_of_text format 2 (row_text format (kept.Manifest row)) ≡ Ok (kept.Manifest row)
unfolding is_valid_manifest_row
reads-manifest format row None is valid =
    let parts =
    and_parts (is_name row.name && is_number row.version && is_manifest_group row.group) _ valid in
    let first = and_parts (is_name row.name && is_number row.version) _ parts.0 in
    let both = and_parts (is_name row.name) _ first.0 in
    read-from format (kept.Manifest row) (manifest_tombstone_members row)
    (ap (by_live_manifest row) is)
    (fine-manifest_tombstone row both.0 both.1 first.1)
    (order-manifest_tombstone row both.0 both.1 first.1)
    (read_then (manifest_row_in (object (manifest_tombstone_members row))) row _
    (row-manifest_tombstone row both.0 both.1 first.1 is))
reads-manifest format row (Some live) is valid =
    let parts =
    and_parts (is_name row.name && is_number row.version && is_manifest_group row.group) _ valid in
    let first = and_parts (is_name row.name && is_number row.version) _ parts.0 in
    let both = and_parts (is_name row.name) _ first.0 in
    let lives =
    and_parts (is_moment live.created && if_any is_moment live.modified) _
    (sym (ap (if_any is_valid_live_manifest) is) ∙ parts.1) in
    let moments = and_parts (is_moment live.created) _ lives.0 in
    read-from format (kept.Manifest row) (live_manifest_members row live)
    (ap (by_live_manifest row) is)
    (fine-manifest row live.created live.tree both.0 both.1 first.1 moments.0 lives.1
    live.modified moments.1)
    (order-manifest row live.created live.tree both.0 both.1 first.1 moments.0 lives.1
    live.modified)
    (read_then (manifest_row_in (object (live_manifest_members row live))) row _
    (row-manifest row live.created live.tree both.0 both.1 first.1 moments.0 lives.1 live.modified
    moments.1 is))

pub manifest-reads-back : (format : Format) (row : ManifestState) → is_valid_manifest_row row ≡ true
    → row_of_text format 2 (row_text format (kept.Manifest row)) ≡ Ok (kept.Manifest row)
manifest-reads-back format row valid = reads-manifest format row row.live refl valid
