use Rattle.std.proofs.Common.{◌≡◌, ℕ, List, Bool, ◌&&◌, Option, Some, sym, ap, subst, ◌∙◌}
use Rattle.std.specs.List.{AllByRecursion}
use Rattle.std.specs.Option.{option_copied}
use Rattle.std.proofs.lemmas.Result.{IfOk-weaker}
use Rattle.an_policy.specs.Audience.{identity}
use Rattle.an_slots.specs.Places.{has}
use Rattle.an_listed.specs.Filed.{is_under, reads}
use Rattle.an_listed.specs.declared.filed.Filed.{Filed}
use Rattle.an_listed.proofs.ReadLemmas.{all-classes, if_both, whole-classes}
use Rattle.an_listed.proofs.register.Register.classes_within.Goals as goal

pub returns-in-Some-clause-read : goal.returns-in-Some-clause-read
returns-in-Some-clause-read c =
    let passes : ℕ → Bool = reads (identity c.args.who.now) c.args.classes.now in
    let text = c.as_str.result.now in
    let known : Some text ≡ option_copied c.args.manifest =
    ap Some c.as_str.ensures.value ∙ sym (ap option_copied c.in-Some.is) in
    if_both c.classes_read.result _ _ _ (λ read some others rows stands.
    subst (λ (sought : Option (List ℕ)). AllByRecursion
    (λ (row : Filed). (is_under sought row.note && has row.class read.items)
    ≡ (is_under sought row.note && passes row.class)) rows) known
    (whole-classes c.args.self.now rows stands text passes read.items some others))
    c.classes_read.ensures.read c.classes_read.ensures.others

pub returns-in-None-clause-read : goal.returns-in-None-clause-read
returns-in-None-clause-read c =
    let passes : ℕ → Bool = reads (identity c.args.who.now) c.args.classes.now in
    IfOk-weaker c.all_read.result _ _
    (λ read same rows stands.
    all-classes (option_copied c.args.manifest) passes read.items same rows) c.all_read.ensures.read
