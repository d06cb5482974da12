-- How waiting for a head or for a body ends.
use Rattle.std.proofs.Common.{◌≡◌, ℕ, ◌+◌, ◌-◌, ◌<◌, ◌≤◌, List, [], ◌∷◌, ◌++◌, length, drop, Bool, true, false, nat_lt, if◌then◌else◌, Option, Some, None, option_map, Ok, Err, refl, sym, ap, ◌∙◌, append-nil, length-append, arith}
use Rattle.std.proofs.lemmas.Bool.Decides.{nat_tests}
use Rattle.an_world.specs.Link.{Traffic, ReadsOn, IsAtEnd}
use Rattle.an_world.proofs.LinkLemmas.{ReadsOn-none, ReadsOn-then}
use Rattle.an_world.specs.declared.read.LinkError.{LinkError}
use Rattle.an_world.specs.declared.read.LinkError.TheVariants.{ReadFault, Memory}
use Rattle.an_message.specs.Framing.{head_length}
use Rattle.an_message.specs.declared.fill.HeadFill.TheVariants.{Found, Long, Ended}
use Rattle.an_message.specs.Fill.{IsLong, found, IsFilled, IsFull}
use Rattle.an_message.proofs.HeadLemmas.{head_length-within, head_length-skip}

some-none : (n : ℕ) → Some n ≡ None → ⊥
some-none n h = cc

some-same : (n m : ℕ) → Some n ≡ Some m → n ≡ m
some-same n m h = cc

-- the scan found where a head ends
pub found_filled : (limit : ℕ) (told : Option Traffic) (held : List ℕ) (end : ℕ) (place : Option ℕ)
    → head_length held ≡ place → place ≡ Some end
    → IsFilled limit told held (Ok (found limit end))
found_filled limit told held end place scanned is = by (nat_lt limit end) refl
  where
    long : limit < end → IsLong limit held
    long above = record {
      none = λ none. absurd (some-none end (sym (scanned ∙ is) ∙ none));
      some = λ other there. rw (some-same end other (sym (scanned ∙ is) ∙ there)) at above;
    }

    by : (test : Bool) → nat_lt limit end ≡ test
        → IsFilled limit told held (Ok (if test then Long else Found end))
    by true h = long (grind (arith, nat_tests, h))
    by false h =
        (scanned ∙ is, grind (arith, nat_tests, h), (head_length-within held end (scanned ∙ is)).1)

-- no head ends in as many bytes as the limit
pub long_filled : (limit : ℕ) (told : Option Traffic) (held : List ℕ) (place : Option ℕ)
    → head_length held ≡ place → place ≡ None → limit ≤ length held
    → IsFilled limit told held (Ok Long)
long_filled limit told held place scanned is long = record {
  none = λ none. long;
  some = λ end there. absurd (some-none end (sym there ∙ scanned ∙ is));
}

-- nothing came
nothing_came : (old new : Option Traffic) (held held' : List ℕ) (count : ℕ)
    → ReadsOn old new held held' → length held' ≡ length held + count → count ≡ 0
    → held' ≡ held
nothing_came old new held held' count reads adds none =
    by held reads.more held' reads.is
    (omega (arith, ap length reads.is, length-append held reads.more))
  where
    by : (held more held' : List ℕ) → held' ≡ held ++ more → length more ≡ 0 → held' ≡ held
    by held [] held' is none = is ∙ append-nil held
    by held (b ∷ more) held' is none = absurd (omega arith)

-- the input ended
pub ended_filled : (limit : ℕ) (old new : Option Traffic) (held held' : List ℕ) (count : ℕ)
    (place : Option ℕ) → ReadsOn old new held held'
    → length held' ≡ length held + count → count ≡ 0 → head_length held ≡ place → place ≡ None
    → length held < limit → IsAtEnd new
    → IsFilled limit new held' (Ok Ended)
ended_filled limit old new held held' count place reads adds none scanned is few end =
    rw (nothing_came old new held held' count reads adds none)
    (record { none = scanned ∙ is; few = few }, end)

-- a read failed, and no byte came
pub failed_filled : (limit : ℕ) (told : Option Traffic) (held held' : List ℕ) (place : Option ℕ)
    (error : LinkError) → held' ≡ held → head_length held ≡ place
    → place ≡ None → length held < limit → IsFilled limit told held' (Err error)
failed_filled limit told held held' place ReadFault same scanned is few =
    rw same record { none = scanned ∙ is; few = few }
failed_filled limit told held held' place Memory same scanned is few = tt

-- where the scan goes on when more came
pub skips_on : (old new : Option Traffic) (held held' : List ℕ) (from : ℕ) (place : Option ℕ)
    → ReadsOn old new held held' → head_length held ≡ place
    → place ≡ None → from ≡ length held - 3
    → head_length held' ≡ option_map (λ n. from + n) (head_length (drop from held'))
skips_on old new held held' from place reads scanned is back =
    rw reads.is (head_length-skip from held reads.more (omega arith) (scanned ∙ is))

-- a read of the body failed, and no byte came
pub failed_full : (told : Option Traffic) (total : ℕ) (held held' : List ℕ) (error : LinkError)
    → held' ≡ held → length held < total → IsFull told total held' (Err error)
failed_full told total held held' ReadFault same few = rw same few
failed_full told total held held' Memory same few = tt

pub ruleset filling = (
  ReadsOn-none,
  ReadsOn-then,
  found_filled,
  long_filled,
  ended_filled,
  failed_filled,
  skips_on,
  failed_full,
)
