-- The six tests of a sound state, one by one.
use Rattle.std.proofs.Common.{◌≡◌, true}
use Rattle.std.specs.List.{list_all}
use Rattle.std.proofs.lemmas.Bool.{and_parts, and_from}
use Rattle.an_state.specs.State.{State, reader_key, live_readers, keys_are_distinct, is_distinct}
use Rattle.an_state.specs.Sound.{is_sound, agrees, tokens_are_distinct, stands_on_live, moments_never_fall}

pub record Sound (s : State) : Type 0 where
  pub readers : keys_are_distinct reader_key s.readers ≡ true
  pub distinct : is_distinct s ≡ true
  pub agree : list_all agrees s.readers ≡ true
  pub tokens : tokens_are_distinct (live_readers s) ≡ true
  pub stand : list_all (stands_on_live s) s.notes ≡ true
  pub rise : moments_never_fall s.activities ≡ true

-- a sound state passes each
pub sound-parts : (s : State) → is_sound s ≡ true → Sound s
unfolding is_sound
sound-parts s sound =
    let five = and_parts _ _ sound in
    let four = and_parts _ _ five.0 in
    let three = and_parts _ _ four.0 in
    let two = and_parts _ _ three.0 in
    let one = and_parts _ _ two.0 in
    record {
      readers = one.0;
      distinct = one.1;
      agree = two.1;
      tokens = three.1;
      stand = four.1;
      rise = five.1;
    }

-- and one that passes each is sound
pub sound-from : (s : State) → Sound s → is_sound s ≡ true
unfolding is_sound
sound-from s sound =
    and_from _ _ (and_from _ _
    (and_from _ _ (and_from _ _ (and_from _ _ sound.readers sound.distinct) sound.agree)
    sound.tokens) sound.stand) sound.rise
