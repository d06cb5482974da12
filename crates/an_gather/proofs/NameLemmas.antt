-- Names that are looked up.
use Rattle.std.proofs.Common.{◌≡◌, ℕ, ◌+◌, ◌<◌, List, [], ◌∷◌, ◌++◌, length, get_or, take, Bool, true, false, cond, bytes_eq, Bor, Some, None, refl, ap, ◌∙◌}
use Rattle.std.specs.Prelude.{filter, find}
use Rattle.std.proofs.lemmas.List.{take_more}
use Rattle.std.proofs.lemmas.List.Elements.{filter-append}
use Rattle.std.proofs.lemmas.Slice.Eq.{bytes_eq-Decides}
use Rattle.an_base.specs.Name.{is_name, name_in}
use Rattle.an_search.specs.Gathered.{lent_names}
use Rattle.an_state.specs.State.{ManifestState}
use Rattle.an_state.specs.View.{View, manifest_in}

-- the name that a text is is the text
pub named_text : (text name : List ℕ) → Some name ≡ name_in text → name ≡ text
named_text text name is = by (is_name text) is
  where
    by : (b : Bool) → Some name ≡ cond b (Some text) None → name ≡ text
    by true is = cc
    by false is = cc

found-passes : (p : ManifestState → Bool) (rows : List ManifestState) (row : ManifestState)
    → Some row ≡ find p rows → p row ≡ true
found-passes p [] row at = cc
found-passes p (first ∷ rows) row at = by (p first) refl at (found-passes p rows row)
  where
    by : (b : Bool) → p first ≡ b → Some row ≡ cond b (Some first) (find p rows)
        → (Some row ≡ find p rows → p row ≡ true) → p row ≡ true
    by true is at later = let same : row ≡ first = cc in ap p same ∙ is
    by false is at later = later at

-- the manifest of a name has it
pub found-name : (view : View) (name : List ℕ) (row : ManifestState)
    → Some row ≡ manifest_in view name → row.name ≡ name
found-name view name row at =
    (bytes_eq-Decides row.name name).0
    (found-passes (λ row. bytes_eq row.name name) view.manifests row at)

pub lent-push : (names : List (Bor (List ℕ))) (name : Bor (List ℕ))
    → lent_names (names ++ name ∷ []) ≡ lent_names names ++ name.now ∷ []
lent-push [] name = refl
lent-push (first ∷ names) name = ap (λ (l : List (List ℕ)). first.now ∷ l) (lent-push names name)

-- one name more
pub filter-more : (p : List ℕ → Bool) (names : List (List ℕ)) (i : ℕ) → i < length names
    → filter p (take (i + 1) names)
    ≡ filter p (take i names) ++ cond (p (get_or names i [])) (get_or names i [] ∷ []) []
filter-more p names i within =
    ap (filter p) (take_more names i [] within)
    ∙ filter-append p (take i names) (get_or names i [] ∷ [])
