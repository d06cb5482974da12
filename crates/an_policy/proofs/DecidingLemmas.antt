-- Who may read is decided by an audience without an owner who adds nobody.
use Rattle.std.proofs.Common.{◌≡◌, refl}
use Rattle.an_policy.specs.Audience.{Identity, deciding, may}
use Rattle.an_policy.specs.declared.group.Audience.{Audience}
use Rattle.an_policy.specs.declared.inner.Inner.TheVariants as inner

pub may_deciding : (who : Identity) (audience : Audience)
    → may who (deciding audience) ≡ may who audience
may_deciding who audience =
    elim audience.inner as (λ i.
    may who (deciding (record audience { inner = i })) ≡ may who (record audience { inner = i })) [
      | inner.Public ↦ refl
      | inner.Private ↦ refl
      | inner.Names names ↦ refl
    ]
