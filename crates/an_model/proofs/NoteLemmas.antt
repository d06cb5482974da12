-- What is kept of a tree is refused as the tree is.
use Rattle.std.proofs.Common.{◌≡◌, ℕ, List, [], ◌∷◌, Bool, false, not, ◌&&◌, if◌then◌else◌, Option, Some, None, is_some, option_map, bytes_eq, codes, true≢false, refl, sym, ap, ◌∙◌}
use Rattle.std.proofs.lemmas.Slice.Eq.{bytes_eq-Decides}
use Rattle.serde_json.specs.Data.{Data}
use Rattle.serde_json.specs.Find.{get, as_str}
use Rattle.an_base.specs.Items.{first_bad, many_if}
use Rattle.an_base.specs.Member.{has_item, has_type}
use Rattle.an_base.specs.Object.{without_member}
use Rattle.an_base.specs.Outcome.{when, first_of, passes}
use Rattle.an_base.specs.Tree.{one_or_many}
use Rattle.an_base.proofs.ObjectLemmas.{get-without_member}
use Rattle.an_model.specs.Targets.{is_empty, is_target, has_good_selectors, bad_target, bad_selector}
use Rattle.an_model.specs.Bodies.{is_body, bad_body_from, bad_body}
use Rattle.an_model.specs.Note.{is_motivation, bad_motivation, note_refusal, kept}
use Rattle.an_model.specs.declared.refusal.NoteError.{NoteError}
use Rattle.an_model.specs.declared.refusal.NoteError.TheVariants.{WrongType, Target, Selector, Body, Motivation}

-- the member of another name stays
get-other : (wanted name : List ℕ) (tree : Data) → bytes_eq wanted name ≡ false
    → get wanted (without_member name tree) ≡ get wanted tree
get-other wanted name tree apart =
    get-without_member wanted name tree
    (λ same. true≢false (sym ((bytes_eq-Decides wanted name).1 same) ∙ apart))

get-kept : (wanted : List ℕ) (tree : Data) → bytes_eq wanted (codes "@context") ≡ false
    → bytes_eq wanted (codes "id") ≡ false
    → bytes_eq wanted (codes "creator") ≡ false → bytes_eq wanted (codes "created") ≡ false
    → bytes_eq wanted (codes "modified") ≡ false
    → get wanted (kept tree) ≡ get wanted tree
unfolding kept
get-kept wanted tree context id creator created modified =
    get-other wanted _ _ modified ∙ get-other wanted _ _ created ∙ get-other wanted _ _ creator
    ∙ get-other wanted _ _ id
    ∙ get-other wanted _ tree context

target-kept : (tree : Data) → get (codes "target") (kept tree) ≡ get (codes "target") tree
target-kept tree = get-kept (codes "target") tree refl refl refl refl refl

body-kept : (tree : Data) → get (codes "body") (kept tree) ≡ get (codes "body") tree
body-kept tree = get-kept (codes "body") tree refl refl refl refl refl

-- ---- each test reads none of the members that are dropped

has_type-kept : (tree : Data)
    → has_type (codes "Annotation") (kept tree) ≡ has_type (codes "Annotation") tree
has_type-kept tree =
    ap (passes (λ types. has_item (codes "Annotation") (one_or_many types)))
    (get-kept (codes "type") tree refl refl refl refl refl)

bad_target-kept : (tree : Data) → bad_target (kept tree) ≡ bad_target tree
unfolding bad_target
bad_target-kept tree =
    ap (λ targets.
    if is_empty (many_if targets) then Some 0 else first_bad is_target (many_if targets))
    (target-kept tree)

bad_selector-kept : (tree : Data) → bad_selector (kept tree) ≡ bad_selector tree
unfolding bad_selector
bad_selector-kept tree =
    ap (λ targets. first_bad has_good_selectors (many_if targets)) (target-kept tree)

bad_body_from-kept : (value : Option Data) (tree : Data)
    → bad_body_from value (kept tree) ≡ bad_body_from value tree
bad_body_from-kept None tree = ap (λ bodies. first_bad is_body (many_if bodies)) (body-kept tree)
bad_body_from-kept (Some value) tree =
    ap (λ body. if is_some (as_str value) && not (is_some body) then None else Some 0)
    (body-kept tree)

bad_body-kept : (tree : Data) → bad_body (kept tree) ≡ bad_body tree
unfolding bad_body
bad_body-kept tree =
    ap (λ value. bad_body_from value (kept tree))
    (get-kept (codes "bodyValue") tree refl refl refl refl refl)
    ∙ bad_body_from-kept (get (codes "bodyValue") tree) tree

bad_motivation-kept : (tree : Data) → bad_motivation (kept tree) ≡ bad_motivation tree
unfolding bad_motivation
bad_motivation-kept tree =
    ap (λ motivations. first_bad is_motivation (many_if motivations))
    (get-kept (codes "motivation") tree refl refl refl refl refl)

-- the first refusal by what the tests say
refusal_by : Bool → Option ℕ → Option ℕ → Option ℕ → Option ℕ → Option NoteError
refusal_by typed target selector body motivation =
    first_of (when (not typed) WrongType ∷ option_map Target target ∷ option_map Selector selector
    ∷ option_map Body body ∷ option_map Motivation motivation ∷ [])

note_refusal-by : (tree : Data)
    → note_refusal tree
    ≡ refusal_by (has_type (codes "Annotation") tree) (bad_target tree) (bad_selector tree)
    (bad_body tree) (bad_motivation tree)
unfolding note_refusal refusal_by
note_refusal-by tree = refl

pub note_refusal-kept : (tree : Data) → note_refusal (kept tree) ≡ note_refusal tree
note_refusal-kept tree =
    cc (
      note_refusal-by (kept tree),
      note_refusal-by tree,
      has_type-kept tree,
      bad_target-kept tree,
      bad_selector-kept tree,
      bad_body-kept tree,
      bad_motivation-kept tree,
    )
