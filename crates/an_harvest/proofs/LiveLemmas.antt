-- What lives after a stream of which a part was harvested before.
use Rattle.std.proofs.Common.{◌≡◌, ℕ, Bool, cond, List, [], ◌∷◌, ◌++◌, Option, Some, None, option_map, refl, sym, ap, ◌∙◌, bytes_eq}
use Rattle.std.specs.Option.{option_or, unwrap_or}
use Rattle.an_harvest.specs.Feed.{Change}
use Rattle.an_harvest.specs.Live.{last_of, left_by, left_at, live_at, object_at, IsLive}
use Rattle.an_harvest.specs.declared.known.KnownObject.{KnownObject}
use Rattle.an_harvest.proofs.LatestLemmas.{or-none, left_at-cons}

-- what the later changes leave comes before what the earlier ones leave
pub left_at-append : (a b : List Change) (id : List ℕ)
    → left_at (a ++ b) id ≡ option_or (left_at b id) (left_at a id)
left_at-append [] b id = sym (or-none (left_at b id))
left_at-append (c ∷ a) b id =
    left_at-cons c (a ++ b) id
    ∙ ap (λ o. option_or o (cond (bytes_eq c.id id) (Some (left_by c)) None))
    (left_at-append a b id)
    ∙ or-assoc (left_at b id) (left_at a id) (cond (bytes_eq c.id id) (Some (left_by c)) None)
    ∙ ap (option_or (left_at b id)) (sym (left_at-cons c a id))
  where
    or-assoc : (x y z : Option (Option Bool))
        → option_or (option_or x y) z ≡ option_or x (option_or y z)
    or-assoc None y z = refl
    or-assoc (Some x) y z = refl

-- an object is what changes leave of it, and what it was known as where they leave nothing
live-left : (known : List KnownObject) (changes : List Change) (id : List ℕ)
    → live_at known changes id ≡ unwrap_or (left_at changes id) (object_at known id)
live-left known changes id = by (last_of id changes)
  where
    by : (o : Option Change)
        → elim o [ None ↦ object_at known id | Some change ↦ left_by change ]
        ≡ unwrap_or (option_map left_by o) (object_at known id)
    by None = refl
    by (Some change) = refl

-- a harvest from what an earlier harvest found is a harvest of all
pub live-append : (known found more : List KnownObject) (a b : List Change) → IsLive known a found
    → IsLive found b more → IsLive known (a ++ b) more
live-append known found more a b first second id =
    second id ∙ live-left found b id
    ∙ ap (unwrap_or (left_at b id)) (first id ∙ live-left known a id)
    ∙ by (left_at b id) (left_at a id)
    ∙ ap (λ o. unwrap_or o (object_at known id)) (sym (left_at-append a b id))
    ∙ sym (live-left known (a ++ b) id)
  where
    by : (x y : Option (Option Bool))
        → unwrap_or x (unwrap_or y (object_at known id))
        ≡ unwrap_or (option_or x y) (object_at known id)
    by None y = refl
    by (Some x) y = refl
