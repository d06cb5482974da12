-- The pieces of a value of which none is bad are names.
use Rattle.std.proofs.Common.{◌≡◌, ℕ, ◌≤◌, List, [], ◌∷◌, length, get_or, fold, Bool, true, false, Option, Some, None, refl, arith}
use Rattle.std.proofs.lemmas.Grind.{common_steps}
use Rattle.std.proofs.lemmas.List.Elements.{All-head, All-tail}
use Rattle.std.proofs.lemmas.List.Sums.{fails_before_first}
use Rattle.std.proofs.lemmas.Map.Views.{All-insert_key}
use Rattle.std.specs.BTreeSet.{insert_key}
use Rattle.std.specs.Cmp.Lexicographic.{slice_cmp}
use Rattle.std.specs.List.{AllPass, position_or_len}
use Rattle.std.specs.Ordering.{nat_cmp}
use Rattle.std.specs.Prelude.{not, position}
use Rattle.an_base.specs.Name.{is_name}
use Rattle.an_base.specs.TextSet.{ascending}
use Rattle.an_query.specs.Dates.{pieces_of}
use Rattle.an_search.specs.Wanted.{given_pieces}
use Rattle.an_gather.specs.Gather.{bad_names}

not-false : (b : Bool) → not b ≡ false → b ≡ true
not-false true is = refl
not-false false is = cc

all-named : (pieces : List (List ℕ)) → position (λ piece. not (is_name piece)) pieces ≡ None
    → AllPass is_name pieces
all-named pieces none k d within =
    let past : length pieces ≤ position_or_len (λ piece. not (is_name piece)) pieces =
    grind (arith, common_steps) in
    not-false (is_name (get_or pieces k d))
    (fails_before_first (λ piece. not (is_name piece)) pieces k d (omega (arith, past, within)))

pub pieces_named : (given : Option (List ℕ)) → bad_names given ≡ None
    → AllPass is_name (given_pieces given)
pieces_named None none = λ k d within. absurd (omega (arith, within))
pieces_named (Some value) none = all-named (pieces_of value) none

inserted-named : (us texts : List (List ℕ)) → AllPass is_name us → AllPass is_name texts
    → AllPass is_name (fold (insert_key (slice_cmp nat_cmp)) us texts)
inserted-named us [] before behind = before
inserted-named us (text ∷ texts) before behind =
    inserted-named (insert_key (slice_cmp nat_cmp) us text) texts
    (All-insert_key (slice_cmp nat_cmp) text (λ text. is_name text ≡ true) us before
    (All-head (λ text. is_name text ≡ true) text texts behind))
    (All-tail (λ text. is_name text ≡ true) text texts behind)

-- in the order of their bytes too
pub ascending_named : (texts : List (List ℕ)) → AllPass is_name texts
    → AllPass is_name (ascending texts)
ascending_named texts named =
    inserted-named [] texts (λ k d within. absurd (omega (arith, within))) named
