-- Changes keep their pairs, and what a caller sees of them is told by these.
use Rattle.std.proofs.Common.{◌≡◌, ℕ, List, [], ◌∷◌, All, Option, Some, None, option_and_then, option_map, slice_get, refl, sym, ap, subst, ◌∙◌}
use Rattle.std.specs.List.{cons_option}
use Rattle.std.proofs.lemmas.List.Elements.{All-head, All-tail}
use Rattle.std.proofs.lemmas.Option.{slice_get-map}
use Rattle.an_base.specs.Outcome.{passes}
use Rattle.an_policy.specs.Audience.{Identity, deciding, may}
use Rattle.an_policy.specs.Classes.{Grows}
use Rattle.an_policy.specs.Seen.{as_seen}
use Rattle.an_policy.specs.declared.group.Audience.{Audience}
use Rattle.an_state.specs.View.{seen_as, seen_by}
use Rattle.an_state.specs.declared.activity.Activity.{Activity}
use Rattle.an_state.specs.declared.activity.Seen.{Seen}
use Rattle.an_snapshot.specs.Changes.{IsClassOf, IsPairOf, IsChangeFiled, activities_in, audience_in, kind_in, kinds_in, seen_by_kinds, seen_in, seen_of}
use Rattle.an_snapshot.specs.PairLists.{kind_at}
use Rattle.an_snapshot.specs.Pairs.{Extends}
use Rattle.an_snapshot.specs.declared.change.ClassChange.{ClassChange}
use Rattle.an_snapshot.specs.declared.change.FiledChange.{FiledChange}
use Rattle.an_snapshot.proofs.ReadLemmas.{class-reads}

-- ---- with more classes

class-grown : (old new : List Audience) → Grows old new
    → (audience : Option Audience) (class : Option ℕ) → IsClassOf old audience class
    → IsClassOf new audience class
class-grown old new grows None None is = tt
class-grown old new grows None (Some class) is = is
class-grown old new grows (Some audience) None is = is
class-grown old new grows (Some audience) (Some class) is = grows (deciding audience) class is

pair-grown : (old new : List Audience) → Grows old new → (before after : List ClassChange)
    → Extends before after → (activity : Activity) (number : ℕ)
    → IsPairOf old activity (slice_get before number)
    → IsPairOf new activity (slice_get after number)
pair-grown old new grows before after extends activity number =
    either (slice_get before number) refl
  where
    either : (pair : Option ClassChange) → slice_get before number ≡ pair
        → IsPairOf old activity pair → IsPairOf new activity (slice_get after number)
    either None here is = absurd is
    either (Some pair) here is = subst (IsPairOf new activity) (sym (extends number pair here)) (
      class-grown old new grows activity.before pair.before is.0,
      class-grown old new grows activity.after pair.after is.1,
    )

pub change-grown : (old new : List Audience) → Grows old new → (before after : List ClassChange)
    → Extends before after → (change : FiledChange) → IsChangeFiled old before change
    → IsChangeFiled new after change
change-grown old new grows before after extends change =
    pair-grown old new grows before after extends change.activity change.pair

-- ---- what a caller sees

-- who may read what has the audience may read what has that of its class
reads-is : (who : Identity) (classes : List Audience) (audience : Option Audience)
    (class : Option ℕ) → IsClassOf classes audience class
    → passes (may who) (audience_in classes class) ≡ passes (may who) audience
reads-is who classes None None is = refl
reads-is who classes None (Some class) is = absurd is
reads-is who classes (Some audience) None is = absurd is
reads-is who classes (Some audience) (Some class) is = class-reads who audience classes class is

-- what the pair of a change tells is what its audiences do
kind-is : (who : Identity) (classes : List Audience) (activity : Activity)
    (pair : Option ClassChange) → IsPairOf classes activity pair
    → option_and_then (λ kind. kind) (option_map (kind_in who classes) pair)
    ≡ as_seen who activity.before activity.after
kind-is who classes activity None is = absurd is
kind-is who classes activity (Some pair) is =
    rw (
      reads-is who classes activity.before pair.before is.0,
      reads-is who classes activity.after pair.after is.1,
    ) refl

pub kind-told : (who : Identity) (classes : List Audience) (pairs : List ClassChange)
    (change : FiledChange) → IsChangeFiled classes pairs change
    → kind_at (kinds_in who classes pairs) change.pair
    ≡ as_seen who change.activity.before change.activity.after
kind-told who classes pairs change is =
    ap (option_and_then (λ kind. kind)) (slice_get-map (kind_in who classes) pairs change.pair)
    ∙ kind-is who classes change.activity (slice_get pairs change.pair) is

-- what is seen by the kinds of pairs is what the caller sees
pub seen-told : (who : Identity) (classes : List Audience) (pairs : List ClassChange)
    (changes : List FiledChange) → All (IsChangeFiled classes pairs) changes
    → seen_by_kinds (kinds_in who classes pairs) changes ≡ seen_in who changes
seen-told who classes pairs [] all = refl
seen-told who classes pairs (change ∷ changes) all =
    let here =
    ap (seen_of change.activity)
    (kind-told who classes pairs change
    (All-head (IsChangeFiled classes pairs) change changes all)) in
    let rest =
    seen-told who classes pairs changes
    (All-tail (IsChangeFiled classes pairs) change changes all) in
    ap
    (λ (seen : Option Seen). cons_option seen (seen_by_kinds (kinds_in who classes pairs) changes))
    here
    ∙ ap (cons_option (seen_as who change.activity)) rest

-- what is seen of the changes is what is seen of their activities
pub seen-is : (who : Identity) (changes : List FiledChange)
    → seen_in who changes ≡ seen_by who (activities_in changes)
seen-is who [] = refl
seen-is who (change ∷ changes) =
    ap (cons_option (seen_as who change.activity)) (seen-is who changes)
