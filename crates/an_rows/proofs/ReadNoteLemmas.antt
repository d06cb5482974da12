-- The text of a valid row of an annotation reads back as the row.
use Rattle.std.proofs.Common.{◌≡◌, ℕ, ◌^◌, ℤ, List, true, false, ◌&&◌, nat_lt, codes, Option, Some, None, Ok, is_none, option_map, refl, sym, ap, ◌∙◌, arith}
use Rattle.std.proofs.lemmas.Bool.{and_parts}
use Rattle.std.proofs.lemmas.Bool.Decides.{nat_tests}
use Rattle.std.specs.Result.{result_ok}
use Rattle.serde_json.specs.Data.{Data, null, boolean, number, string, array, object, unsigned, Members, no_members}
use Rattle.serde_json.specs.Find.{get}
use Rattle.an_base.specs.Moment.{is_moment}
use Rattle.an_base.specs.Name.{is_name}
use Rattle.an_base.specs.Object.{without_member}
use Rattle.an_base.specs.Outcome.{unless}
use Rattle.an_base.specs.Tree.{ascend, names, is_tree}
use Rattle.an_manifest.proofs.TakeLemmas.{without-absent}
use Rattle.an_model.specs.Note.{note_refusal, is_bare, kept as kept_of, note_of}
use Rattle.an_policy.specs.Inner.{is_valid_inner}
use Rattle.an_policy.specs.Reader.{is_user}
use Rattle.an_policy.specs.declared.inner.Inner.{Inner}
use Rattle.an_state.specs.Commands.{is_number}
use Rattle.an_state.specs.State.{NoteState, LiveNote}
use Rattle.an_state.specs.declared.entry.Row.TheVariants as kept
use Rattle.an_rows.specs.Format.{can_say, inner_in, inner_name, inner_tree}
use Rattle.an_rows.specs.RowTree.{moment_tree, live_note_ending, live_note_members, note_tombstone_members, row_text}
use Rattle.an_rows.specs.Valid.{is_iri, is_tombstone_number, is_note, if_any, is_valid_live_note, is_number_of_note, is_valid_note_row, row_can}
use Rattle.an_rows.specs.RowRead.{name_in, flag_in, version_in, tombstone_version_in, moment_in, creator_in, tree_in, live_note_on, live_note_in, live_note_named, note_tombstone_named, note_named, note_row_in, row_of_text}
use Rattle.an_rows.specs.declared.format.Format.{Format}
use Rattle.an_rows.specs.declared.format.Format.TheVariants.{First, Second}
use Rattle.an_rows.specs.declared.refusal.RowError.TheVariants.{Bytes}
use Rattle.an_rows.proofs.WholeLemmas.{FineMembers, fine-none, fine-member, fine-text, fine-flag, fine-number, fine-moment, fine-tree, fine-given, name-utf8}
use Rattle.an_rows.proofs.ReadLemmas.{next, read_then, passing, number-small, moment-read, read-from}
use Rattle.an_rows.proofs.ReadTreeLemmas.{fine-modified}
use Rattle.an_rows.proofs.InnerLemmas.{fine-inner, small-inner_name, written-read}

-- ---- what is kept of an annotation is kept again as it is

nothing : {A : Type 0} (found : Option A) → is_none found ≡ true → found ≡ None
nothing None h = refl
nothing (Some a) h = absurd (cc)

without-none : (name : List ℕ) (tree : Data) → is_none (get name tree) ≡ true
    → without_member name tree ≡ tree
without-none name null h = refl
without-none name (boolean b) h = refl
without-none name (number n) h = refl
without-none name (string text) h = refl
without-none name (array items) h = refl
without-none name (object fields) h = ap object (without-absent name fields (nothing _ h))

bare-kept : (tree : Data) → is_bare tree ≡ true → kept_of tree ≡ tree
unfolding is_bare kept_of
bare-kept tree bare =
    let context = and_parts (is_none (get (codes "@context") tree)) _ bare in
    let created = and_parts (is_none (get (codes "created") tree)) _ context.1 in
    let creator = and_parts (is_none (get (codes "creator") tree)) _ created.1 in
    let id = and_parts (is_none (get (codes "id") tree)) _ creator.1 in
    let modified = and_parts (is_none (get (codes "modified") tree)) _ id.1 in
    ap (λ t. without_member (codes "modified")
    (without_member (codes "created")
    (without_member (codes "creator") (without_member (codes "id") t))))
    (without-none (codes "@context") tree context.0)
    ∙ ap (λ t. without_member (codes "modified")
    (without_member (codes "created") (without_member (codes "creator") t)))
    (without-none (codes "id") tree id.0)
    ∙ ap (λ t. without_member (codes "modified") (without_member (codes "created") t))
    (without-none (codes "creator") tree creator.0)
    ∙ ap (λ t. without_member (codes "modified") t) (without-none (codes "created") tree created.0)
    ∙ without-none (codes "modified") tree modified.0

note-again : (tree : Data) → is_note tree ≡ true → result_ok (note_of tree) ≡ Some tree
unfolding is_note note_of
note-again tree h =
    let parts = and_parts (is_tree tree && is_none (note_refusal tree)) _ h in
    ap (λ refusal. result_ok (unless refusal (kept_of tree)))
    (nothing (note_refusal tree) (and_parts _ _ parts.0).1)
    ∙ ap Some (bare-kept tree parts.1)

note-tree : (tree : Data) → is_note tree ≡ true → is_tree tree ≡ true
unfolding is_note
note-tree tree h = (and_parts (is_tree tree) _ (and_parts _ _ h).0).0

-- ---- a live annotation

note-by : (format : Format) (value : Data) (row : NoteState) (live : LiveNote)
    → name_in (codes "owner") value ≡ Some row.owner → name_in (codes "name") value ≡ Some row.name
    → flag_in value ≡ Some true → version_in value ≡ Some row.version
    → name_in (codes "manifest") value ≡ Some live.manifest
    → inner_in format (inner_name format) value ≡ Some live.group
    → creator_in value ≡ Some live.creator
    → moment_in (codes "created") value ≡ Some live.created
    → moment_in (codes "modified") value ≡ live.modified → tree_in value ≡ Some live.tree
    → result_ok (note_of live.tree) ≡ Some live.tree → row.live ≡ Some live
    → note_row_in format value ≡ Ok row
unfolding note_row_in live_note_named live_note_in live_note_on
note-by format value row live owner name flag version manifest group creator created modified
    tree again is =
    let lives : live_note_in format value ≡ Ok live =
    next Bytes (name_in (codes "manifest") value) live.manifest _ manifest
    ∙ next Bytes (inner_in format (inner_name format) value) live.group _ group
    ∙ next Bytes (creator_in value) live.creator _ creator
    ∙ next Bytes (moment_in (codes "created") value) live.created _ created
    ∙ next Bytes (tree_in value) live.tree _ tree
    ∙ next Bytes (result_ok (note_of live.tree)) live.tree _ again
    ∙ ap (λ m. Ok (record {
      manifest = live.manifest;
      group = live.group;
      creator = live.creator;
      created = live.created;
      modified = m;
      tree = live.tree;
    })) modified in
    next Bytes (name_in (codes "owner") value) row.owner _ owner
    ∙ next Bytes (name_in (codes "name") value) row.name _ name
    ∙ next Bytes (flag_in value) true (λ flag. note_named format row.owner row.name flag value) flag
    ∙ next Bytes (version_in value) row.version _ version
    ∙ read_then (live_note_in format value) live _ lives
    ∙ ap
    (λ its. Ok (record { owner = row.owner; name = row.name; version = row.version; live = its }))
    (sym is)

module _ (row : NoteState) (manifest : List ℕ) (group : Inner) (creator : List ℕ) (created : ℤ)
    (tree : Data)
    (owned : is_name row.owner ≡ true) (named : is_name row.name ≡ true)
    (numbered : is_number row.version ≡ true) (on : is_name manifest ≡ true)
    (grouped : is_valid_inner group ≡ true) (written : is_iri creator ≡ true)
    (made : is_moment created ≡ true) (note : is_note tree ≡ true) where
  abbrev its : Option ℤ → LiveNote
  its modified = record {
    manifest = manifest;
    group = group;
    creator = creator;
    created = created;
    modified = modified;
    tree = tree;
  }

  fine-note : (format : Format) (modified : Option ℤ) → can_say format group ≡ true
      → if_any is_moment modified ≡ true → FineMembers (live_note_members format row (its modified))
  unfolding live_note_members live_note_ending
  fine-note format modified can h =
      fine-member (codes "created") (moment_tree created) _ refl (fine-moment created made)
      (fine-member (codes "creator") (string creator) _ refl
      (fine-text creator (and_parts _ _ written).1)
      (fine-member (inner_name format) (inner_tree format group) _ (small-inner_name format)
      (fine-inner format group grouped can)
      (fine-member (codes "live") (boolean true) _ refl (fine-flag true)
      (fine-member (codes "manifest") (string manifest) _ refl
      (fine-text manifest (name-utf8 manifest on))
      (fine-given (codes "modified") (option_map moment_tree modified) _ refl
      (fine-modified modified h)
      (fine-member (codes "name") (string row.name) _ refl
      (fine-text row.name (name-utf8 row.name named))
      (fine-member (codes "owner") (string row.owner) _ refl
      (fine-text row.owner (name-utf8 row.owner owned))
      (fine-member (codes "tree") tree _ refl (fine-tree tree (note-tree tree note))
      (fine-member (codes "version") (number (unsigned row.version)) no_members refl
      (fine-number row.version (number-small row.version numbered)) fine-none)))))))))

  order-note : (format : Format) (modified : Option ℤ)
      → ascend (names (live_note_members format row (its modified))) ≡ true
  unfolding live_note_members live_note_ending
  order-note First None = refl
  order-note First (Some m) = refl
  order-note Second None = refl
  order-note Second (Some m) = refl

  row-note : (format : Format) (modified : Option ℤ) → can_say format group ≡ true
      → if_any is_moment modified ≡ true → row.live ≡ Some (its modified)
      → note_row_in format (object (live_note_members format row (its modified))) ≡ Ok row
  unfolding live_note_members live_note_ending
  row-note First None can h is =
      note-by First (object (live_note_members First row (its None))) row (its None)
      (passing is_name row.owner owned) (passing is_name row.name named) refl
      (passing is_number row.version numbered)
      (passing is_name manifest on) (written-read First group grouped can)
      (passing is_user creator (and_parts _ _ written).0)
      (moment-read created made) refl (passing is_tree tree (note-tree tree note))
      (note-again tree note) is
  row-note First (Some m) can h is =
      note-by First (object (live_note_members First row (its (Some m)))) row (its (Some m))
      (passing is_name row.owner owned) (passing is_name row.name named) refl
      (passing is_number row.version numbered)
      (passing is_name manifest on) (written-read First group grouped can)
      (passing is_user creator (and_parts _ _ written).0)
      (moment-read created made) (moment-read m h) (passing is_tree tree (note-tree tree note))
      (note-again tree note) is
  row-note Second None can h is =
      note-by Second (object (live_note_members Second row (its None))) row (its None)
      (passing is_name row.owner owned) (passing is_name row.name named) refl
      (passing is_number row.version numbered)
      (passing is_name manifest on) (written-read Second group grouped can)
      (passing is_user creator (and_parts _ _ written).0)
      (moment-read created made) refl (passing is_tree tree (note-tree tree note))
      (note-again tree note) is
  row-note Second (Some m) can h is =
      note-by Second (object (live_note_members Second row (its (Some m)))) row (its (Some m))
      (passing is_name row.owner owned) (passing is_name row.name named) refl
      (passing is_number row.version numbered)
      (passing is_name manifest on) (written-read Second group grouped can)
      (passing is_user creator (and_parts _ _ written).0)
      (moment-read created made) (moment-read m h) (passing is_tree tree (note-tree tree note))
      (note-again tree note) is

-- ---- a tombstone

tombstone-small : (n : ℕ) → is_tombstone_number n ≡ true → nat_lt n (2 ^ 64) ≡ true
unfolding is_tombstone_number
tombstone-small n h = grind (arith, nat_tests)

module _ (row : NoteState) (owned : is_name row.owner ≡ true) (named : is_name row.name ≡ true)
    (numbered : is_tombstone_number row.version ≡ true) where
  fine-note_tombstone : FineMembers (note_tombstone_members row)
  unfolding note_tombstone_members
  fine-note_tombstone =
      fine-member (codes "live") (boolean false) _ refl (fine-flag false)
      (fine-member (codes "name") (string row.name) _ refl
      (fine-text row.name (name-utf8 row.name named))
      (fine-member (codes "owner") (string row.owner) _ refl
      (fine-text row.owner (name-utf8 row.owner owned))
      (fine-member (codes "version") (number (unsigned row.version)) no_members refl
      (fine-number row.version (tombstone-small row.version numbered)) fine-none)))

  order-note_tombstone : ascend (names (note_tombstone_members row)) ≡ true
  unfolding note_tombstone_members
  order-note_tombstone = refl

  row-note_tombstone : (format : Format) → row.live ≡ None
      → note_row_in format (object (note_tombstone_members row)) ≡ Ok row
  unfolding note_row_in note_tombstone_named note_tombstone_members
  row-note_tombstone format dead =
      let value = object (note_tombstone_members row) in
      next Bytes (name_in (codes "owner") value) row.owner _ (passing is_name row.owner owned)
      ∙ next Bytes (name_in (codes "name") value) row.name _ (passing is_name row.name named)
      ∙ next Bytes (flag_in value) false
      (λ flag. note_named format row.owner row.name flag value) refl
      ∙ next Bytes (tombstone_version_in value) row.version _
      (passing is_tombstone_number row.version numbered)
      ∙ ap
      (λ its. Ok (record { owner = row.owner; name = row.name; version = row.version; live = its }))
      (sym dead)

-- ---- any row of an annotation

abbrev by_live_note : Format → NoteState → Option LiveNote → Members
by_live_note format row live =
    elim live [ None ↦ note_tombstone_members row | Some its ↦ live_note_members format row its ]

reads-note : (format : Format) (row : NoteState) (live : Option LiveNote) → row.live ≡ live
    → row_can format (kept.Note row) ≡ true → is_valid_note_row row ≡ true
    → row_of_text format 3 (row_text format (kept.Note row)) ≡ Ok (kept.Note row)
unfolding is_valid_note_row
reads-note format row None is can valid =
    let parts =
    and_parts
    (is_name row.owner && is_name row.name && is_number_of_note row.live row.version) _ valid in
    let first = and_parts (is_name row.owner && is_name row.name) _ parts.0 in
    let both = and_parts (is_name row.owner) _ first.0 in
    let number = sym (ap (λ live. is_number_of_note live row.version) is) ∙ first.1 in
    read-from format (kept.Note row) (note_tombstone_members row) (ap (by_live_note format row) is)
    (fine-note_tombstone row both.0 both.1 number) (order-note_tombstone row both.0 both.1 number)
    (read_then (note_row_in format (object (note_tombstone_members row))) row _
    (row-note_tombstone row both.0 both.1 number format is))
reads-note format row (Some live) is can valid =
    let parts =
    and_parts
    (is_name row.owner && is_name row.name && is_number_of_note row.live row.version) _ valid in
    let first = and_parts (is_name row.owner && is_name row.name) _ parts.0 in
    let both = and_parts (is_name row.owner) _ first.0 in
    let number = sym (ap (λ live. is_number_of_note live row.version) is) ∙ first.1 in
    let tree =
    and_parts (is_name live.manifest && is_valid_inner live.group && is_iri live.creator
    && is_moment live.created && if_any is_moment live.modified) _
    (sym (ap (if_any is_valid_live_note) is) ∙ parts.1) in
    let modified =
    and_parts (is_name live.manifest && is_valid_inner live.group && is_iri live.creator
    && is_moment live.created) _ tree.0 in
    let created =
    and_parts (is_name live.manifest && is_valid_inner live.group && is_iri live.creator) _
    modified.0 in
    let creator = and_parts (is_name live.manifest && is_valid_inner live.group) _ created.0 in
    let on = and_parts (is_name live.manifest) _ creator.0 in
    let said = sym (ap (if_any (λ its. can_say format its.group)) is) ∙ can in
    read-from format (kept.Note row) (live_note_members format row live)
    (ap (by_live_note format row) is)
    (fine-note row live.manifest live.group live.creator live.created live.tree both.0 both.1 number
    on.0 on.1 creator.1 created.1 tree.1 format live.modified said modified.1)
    (order-note row live.manifest live.group live.creator live.created live.tree both.0 both.1
    number on.0 on.1 creator.1 created.1 tree.1 format live.modified)
    (read_then (note_row_in format (object (live_note_members format row live))) row _
    (row-note row live.manifest live.group live.creator live.created live.tree both.0 both.1 number
    on.0 on.1 creator.1 created.1 tree.1 format live.modified said modified.1 is))

pub note-reads-back : (format : Format) (row : NoteState) → is_valid_note_row row ≡ true
    → row_can format (kept.Note row) ≡ true
    → row_of_text format 3 (row_text format (kept.Note row)) ≡ Ok (kept.Note row)
note-reads-back format row valid can = reads-note format row row.live refl can valid
