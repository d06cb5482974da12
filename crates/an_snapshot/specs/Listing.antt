-- For private clauses: what a snapshot keeps beside its state.
use Rattle.std.specs.Prelude.{◌≡◌, List, map, All, Some, true}
use Rattle.an_policy.specs.Audience.{deciding}
use Rattle.an_policy.specs.declared.group.Audience.{Audience}
use Rattle.an_state.specs.State.{State, is_distinct, keys_are_distinct, reader_key}
use Rattle.an_state.specs.View.{audience_of_note}
use Rattle.an_policy.specs.Classes.{class_of}
use Rattle.an_listed.specs.declared.filed.Filed.{Filed}
use Rattle.an_snapshot.specs.Fits.{notes_stand}

-- a live annotation whose manifest has a row is filed under the class of what of its audience
-- decides who may read it
abbrev pub IsFiled : State → List Audience → Filed → Type 0
IsFiled s classes filed =
    (audience : Audience) → audience_of_note s filed.note ≡ Some audience
    → class_of (deciding audience) classes ≡ Some filed.class

-- the state's annotations are listed in their order, each under its class; keys are distinct, and
-- live annotations stand on live manifests
pub record IsListing (s : State) (classes : List Audience) (rows : List Filed) : Type 0 where
  pub notes : map (λ filed. filed.note) rows ≡ s.notes
  pub filed : All (IsFiled s classes) rows
  pub distinct : is_distinct s ≡ true
  pub readers : keys_are_distinct reader_key s.readers ≡ true
  pub stand : notes_stand s ≡ true
