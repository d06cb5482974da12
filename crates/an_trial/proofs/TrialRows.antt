-- The draws of the seed 1, and what is written of them.
use Rattle.std.proofs.Common.{◌≡◌, ℕ, ◌*◌, [], ◌∷◌, codes, refl, map}
use Rattle.an_policy.specs.declared.group.Group.{Group}
use Rattle.an_policy.specs.declared.group.Group.TheVariants as group
use Rattle.an_trial.specs.Draws.{draws_behind, number_behind}
use Rattle.an_trial.specs.Writes.{group_of, words_text, note_behind, note_write}
use Rattle.an_trial.specs.declared.draws.Draws.{Draws}

abbrev draws_of : ℕ → Draws
draws_of notes = draws_behind (number_behind 1 (4 * notes))

row-first : draws_of 0 ≡ record { group = 16838; first = 5758; second = 10113; third = 17515 }
row-first = refl

row-second : draws_of 1 ≡ record { group = 31051; first = 5627; second = 23010; third = 7419 }
row-second = refl

row-third : draws_of 2 ≡ record { group = 16212; first = 4086; second = 2749; third = 12767 }
row-third = refl

row-words_first : words_text 5758 10113 17515 ≡ codes "ibis swan tern"
row-words_first = refl

row-words_second : words_text 5627 23010 7419 ≡ codes "tern gull tern"
row-words_second = refl

row-words_third : words_text 4086 2749 12767 ≡ codes "ibis stork egret"
row-words_third = refl

row-groups : map group_of (16838 ∷ 31051 ∷ 16212 ∷ [])
    ≡ group.Public ∷ group.Public ∷ group.Named (codes "a") ∷ []
row-groups = refl

-- the first annotation, whole
row-note : note_behind 1 0
    ≡ note_write 1 (record { group = 16838; first = 5758; second = 10113; third = 17515 })
row-note = refl
