-- What the members of a row are read as.
use Rattle.std.proofs.Common.{◌≡◌, ℕ, ℤ, List, codes, true, false, Option, Some, None, ok_or, Ok, IsSome, IfSome, ◌↔◌, inl, inr, refl, ap, sym, ◌∙◌}
use Rattle.std.proofs.lemmas.Bool.{cases_Bool}
use Rattle.an_base.specs.Moment.{IsMoment, is_moment}
use Rattle.an_base.specs.Outcome.{only_if, or_refuse}
use Rattle.an_base.proofs.MomentTest.{told}
use Rattle.an_base.proofs.TreeLemmas.{known}
use Rattle.serde_json.specs.Data.{Data}
use Rattle.an_policy.specs.declared.group.Audience.{Audience}
use Rattle.an_policy.specs.declared.group.Group.{Group}
use Rattle.an_policy.specs.declared.inner.Inner.{Inner}
use Rattle.an_rows.specs.Format.{inner_in, inner_name}
use Rattle.an_rows.specs.declared.format.Format.{Format}
use Rattle.an_rows.specs.RowRead.{name_in, group_in, creator_in, if_audience, audience_with, live_note_on, live_note_in}
use Rattle.an_rows.specs.declared.refusal.RowError.TheVariants.{Bytes}

pub moment_is : (found : Option ℤ) (n : ℤ) → (IsSome found ↔ IsMoment n) → IfSome found (λ m. m ≡ n)
    → found ≡ only_if is_moment n
moment_is None n range value = elim (cases_Bool (is_moment n)) [
  | inl is ↦ let bad : false ≡ true = range.1 ((told n).0 is) in absurd (cc)
  | inr isnt ↦ rw isnt refl
]
moment_is (Some m) n range value = rw ((told n).1 (range.0 refl)) (ap (λ k. Some k) value)

-- an audience of these parts
abbrev pub made_of : Group → Inner → Option (List ℕ) → Audience
made_of outer inner its = record { outer = outer; inner = inner; owner = its }

pub audience_read : (inner : Inner) (outer : Group) (its owner : Option (List ℕ)) (tree : Data)
    → ok_or (group_in (codes "outer") tree) Bytes ≡ Ok outer → its ≡ name_in (codes "owner") tree
    → audience_with owner inner tree ≡ if_audience owner (made_of outer inner its)
unfolding audience_with
audience_read inner outer its owner tree q e =
    ap (λ found.
    or_refuse Bytes found (λ o. if_audience owner (made_of o inner (name_in (codes "owner") tree))))
    (known (group_in (codes "outer") tree) Bytes outer q)
    ∙ ap (λ named. if_audience owner (made_of outer inner named)) (sym e)

pub live_note_read : (format : Format) (manifest creator : List ℕ) (group : Inner) (tree : Data)
    → ok_or (name_in (codes "manifest") tree) Bytes ≡ Ok manifest
    → ok_or (inner_in format (inner_name format) tree) Bytes ≡ Ok group
    → ok_or (creator_in tree) Bytes ≡ Ok creator
    → live_note_in format tree ≡ live_note_on manifest group creator tree
unfolding live_note_in
live_note_read format manifest creator group tree p q r =
    ap (λ found. or_refuse Bytes found
    (λ m. or_refuse Bytes (inner_in format (inner_name format) tree)
    (λ g. or_refuse Bytes (creator_in tree) (λ c. live_note_on m g c tree))))
    (known (name_in (codes "manifest") tree) Bytes manifest p)
    ∙ ap (λ found. or_refuse Bytes found
    (λ g. or_refuse Bytes (creator_in tree) (λ c. live_note_on manifest g c tree)))
    (known (inner_in format (inner_name format) tree) Bytes group q)
    ∙ ap (λ found. or_refuse Bytes found (λ c. live_note_on manifest group c tree))
    (known (creator_in tree) Bytes creator r)
