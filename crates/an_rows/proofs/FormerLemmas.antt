-- The cells that a state had while each annotation had one inner group are read as it with inner
-- groups of one.
use Rattle.std.proofs.Common.{◌≡◌, true, List, [], ◌∷◌, refl, map}
use Rattle.std.specs.Prelude.{Option, Some, None, Ok, option_map}
use Rattle.std.specs.List.{list_all}
use Rattle.std.proofs.lemmas.Bool.{and_from}
use Rattle.serde_json.specs.Data.{string}
use Rattle.an_policy.specs.Former.{FormerAudience, widened}
use Rattle.an_policy.specs.Group.{group_text}
use Rattle.an_policy.specs.Inner.{one_group}
use Rattle.an_policy.specs.declared.group.Group.{Group}
use Rattle.an_policy.specs.declared.group.Group.TheVariants.{Public, Private, Named}
use Rattle.an_state.specs.Former.{FormerActivity, FormerLive, FormerNote, FormerState, widened_activity, widened_live, widened_note, widened_state}
use Rattle.an_state.specs.Sound.{is_sound}
use Rattle.an_state.specs.declared.entry.Row.TheVariants as kept
use Rattle.an_rows.specs.Cells.{cells_in, state_of}
use Rattle.an_rows.specs.Format.{can_say, inner_tree}
use Rattle.an_rows.specs.Valid.{if_any, is_valid, row_can, state_can}
use Rattle.an_rows.specs.declared.format.Format.TheVariants.{First}
use Rattle.an_rows.proofs.RestoreLemmas.{cells-read-back}

one-said : (group : Group) → can_say First (one_group group) ≡ true
one-said Public = refl
one-said Private = refl
one-said (Named name) = refl

pub one-written : (group : Group) → inner_tree First (one_group group) ≡ string (group_text group)
one-written Public = refl
one-written Private = refl
one-written (Named name) = refl

live-said : (live : Option FormerLive)
    → if_any (λ its. can_say First its.group) (option_map widened_live live) ≡ true
live-said None = refl
live-said (Some live) = one-said live.group

audience-said : (audience : Option FormerAudience)
    → if_any (λ its. can_say First its.inner) (option_map widened audience) ≡ true
audience-said None = refl
audience-said (Some audience) = one-said audience.inner

notes-said : (rows : List FormerNote)
    → list_all (λ row. row_can First (kept.Note row)) (map widened_note rows) ≡ true
notes-said [] = refl
notes-said (row ∷ rows) = and_from _ _ (live-said row.live) (notes-said rows)

activities-said : (rows : List FormerActivity)
    → list_all (λ row. row_can First (kept.Activity row)) (map widened_activity rows) ≡ true
activities-said [] = refl
activities-said (row ∷ rows) =
    and_from _ _ (and_from _ _ (audience-said row.before) (audience-said row.after))
    (activities-said rows)

pub former-read-back : (s : FormerState) → is_valid (widened_state s) ≡ true
    → is_sound (widened_state s) ≡ true
    → state_of (cells_in First (widened_state s)) ≡ Ok (widened_state s)
former-read-back s valid sound =
    cells-read-back First (widened_state s) valid sound
    (and_from _ _ (notes-said s.notes) (activities-said s.activities))

pub ruleset former_cells = (former-read-back, one-written)
