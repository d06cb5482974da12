-- What the cuts that are measured are.
use Rattle.std.proofs.Common.{◌≡◌, ℕ, ◌+◌, ◌-◌, ◌<◌, List, [], ◌∷◌, ◌++◌, length, get_or, drop, false, codes, Option, Some, None, refl, sym, ap, ◌∙◌, append_assoc, arith}
use Rattle.std.proofs.lemmas.List.{at_drop_more}
use Rattle.serde_json.specs.Data.{Data, null, boolean, number, string, array, object, Members, no_members, member}
use Rattle.serde_json.specs.Find.{get, as_object}
use Rattle.serde_json.specs.View.{view, items_view}
use Rattle.serde_json.specs.Written.{has_float, members_have_float}
use Rattle.serde_json.specs.declared.value.Value.{Value}
use Rattle.an_base.specs.Cut.{below, above, members_in}
use Rattle.an_base.specs.Write.{commas}
use Rattle.an_manifest.specs.declared.cut.Cut.{Cut}
use Rattle.an_manifest.specs.Cuts.{last_cut, cuts_at, canvas_cuts}
use Rattle.an_manifest.proofs.FloatLemmas.{HasNone, HasNone-get}

pub last_cut-more : (values : List Value) (start end : ℕ) → 0 < length values
    → last_cut (Some (items_view values)) start end ≡ end - 1
last_cut-more [] start end some = absurd (omega arith)
last_cut-more (value ∷ values) start end some = refl

-- no name stands before the empty one
above-all : (members : Members) → above [] members ≡ members
above-all no_members = refl
above-all (member [] value members) = ap (member [] value) (above-all members)
above-all (member (sign ∷ signs) value members) =
    ap (member (sign ∷ signs) value) (above-all members)

pub commas-members : (name : List ℕ) (tree : Data) (members : Members)
    → as_object tree ≡ Some members
    → commas (below name (above [] members)) ≡ commas (below name (members_in tree))
commas-members name null members is = absurd (cc)
commas-members name (boolean b) members is = absurd (cc)
commas-members name (number n) members is = absurd (cc)
commas-members name (string text) members is = absurd (cc)
commas-members name (array items) members is = absurd (cc)
commas-members name (object all) members is =
    let same : all ≡ members = cc in
    ap (λ ms. commas (below name ms)) (above-all members ∙ sym same)

pub float-members : (tree : Data) (members : Members) → has_float tree ≡ false
    → as_object tree ≡ Some members → members_have_float members ≡ false
float-members null members h is = absurd (cc)
float-members (boolean b) members h is = absurd (cc)
float-members (number n) members h is = absurd (cc)
float-members (string text) members h is = absurd (cc)
float-members (array items) members h is = absurd (cc)
float-members (object all) members h is =
    let same : all ≡ members = cc in ap members_have_float (sym same) ∙ h

found_float : (found : Option Data) (value : Data) → HasNone found → found ≡ Some value
    → has_float value ≡ false
found_float None value h is = absurd (cc)
found_float (Some tree) value h is = let same : tree ≡ value = cc in ap has_float (sym same) ∙ h

pub float-found : (name : List ℕ) (tree value : Data) → has_float tree ≡ false
    → get name tree ≡ Some value → has_float value ≡ false
float-found name tree value h is = found_float (get name tree) value (HasNone-get name tree h) is

-- the cuts of one canvas more
pub cut_more : (done new : List Cut) (cut : Cut) (values : List Value) (i : ℕ) (value : Value)
    → i < length values → value ≡ get_or values i value
    → new ≡ done ++ cut ∷ [] → cut ≡ cuts_at (codes "annotations") (view value)
    → new ++ canvas_cuts (items_view (drop (i + 1) values))
    ≡ done ++ canvas_cuts (items_view (drop i values))
cut_more done new cut values i value within at pushed is =
    let rest = canvas_cuts (items_view (drop (i + 1) values)) in
    ap (λ cuts. cuts ++ rest) pushed ∙ append_assoc done (cut ∷ []) rest
    ∙ ap (λ c. done ++ c ∷ rest) (is ∙ ap (λ v. cuts_at (codes "annotations") (view v)) at)
    ∙ ap (λ items. done ++ canvas_cuts items) (sym (at_drop_more items_view values i value within))

pub ruleset cutting = (last_cut-more, commas-members, float-members, float-found)
