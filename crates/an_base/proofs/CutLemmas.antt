-- Members that are put among others stand at their names' cuts.
use Rattle.std.proofs.Common.{◌≡◌, ℕ, ◌-◌, ◌≤◌, List, [], ◌∷◌, ◌++◌, Bool, true, false, if◌then◌else◌, length, take, drop, slice_range, Option, Some, None, is_none, Less, Equal, Greater, Ordering, nat_cmp, refl, sym, ap, ap₂, ◌∙◌, true≢false, append_assoc, append-nil, length-append, arith}
use Rattle.std.proofs.lemmas.Bool.{and_from, and_parts}
use Rattle.std.proofs.lemmas.Cmp.{nat_list_cmp_total}
use Rattle.std.proofs.lemmas.List.{take_at, drop_at}
use Rattle.std.specs.Cmp.Lexicographic.{slice_cmp}
use Rattle.std.specs.List.{list_all}
use Rattle.std.specs.Ordering.{match_ordering, is_lt, ordering_reverse}
use Rattle.serde_json.specs.Data.{Data, Members, no_members, member, put}
use Rattle.serde_json.specs.Find.{get_member}
use Rattle.an_base.specs.Cut.{is_before, below, above, cut, put_all, lacks, spliced}
use Rattle.an_base.specs.Tree.{ascend, names}
use Rattle.an_base.specs.Write.{member_text, commas}

-- ---- the order of names

less : (o : Ordering) → is_lt o ≡ true → o ≡ Less
less Less h = refl
less Equal h = absurd (cc)
less Greater h = absurd (cc)

before_trans : (k l m : List ℕ) → is_before k l ≡ true → is_before l m ≡ true → is_before k m ≡ true
before_trans k l m h j = ap is_lt (nat_list_cmp_total.trans k l m (less _ h) (less _ j))

is_false : (b : Bool) → (b ≡ true → ⊥) → b ≡ false
is_false true h = absurd (h refl)
is_false false h = refl

-- what stands behind a name that isn't before this one isn't before it either
still_not : (k l m : List ℕ) → is_before l k ≡ false → is_before l m ≡ true → is_before m k ≡ false
still_not k l m h j = is_false (is_before m k) (λ e. true≢false (sym (before_trans l m k j e) ∙ h))

all_before : List ℕ → Members → Bool
all_before k ms = list_all (λ name. is_before name k) (names ms)

abbrev all_behind : List ℕ → Members → Bool
all_behind k ms = list_all (is_before k) (names ms)

-- ---- where none stands before, all are above

none_below : (k l : List ℕ) (ms : Members) → is_before l k ≡ false → all_behind l ms ≡ true
    → below k ms ≡ no_members
none_below k l no_members h j = refl
none_below k l (member m d ms) h j =
    let parts = and_parts (is_before l m) _ j in
    ap (λ b. if b then member m d (below k ms) else below k ms) (still_not k l m h parts.0)
    ∙ none_below k l ms h parts.1

all_above : (k l : List ℕ) (ms : Members) → is_before l k ≡ false → all_behind l ms ≡ true
    → above k ms ≡ ms
all_above k l no_members h j = refl
all_above k l (member m d ms) h j =
    let parts = and_parts (is_before l m) _ j in
    ap (λ b. if b then above k ms else member m d (above k ms)) (still_not k l m h parts.0)
    ∙ ap (member m d) (all_above k l ms h parts.1)

-- ---- the members' text is cut in two, and in three

split_at : (k l : List ℕ) (d : Data) (ms : Members) (b : Bool) → is_before l k ≡ b
    → all_behind l ms ≡ true → commas ms ≡ commas (below k ms) ++ commas (above k ms)
    → commas (member l d ms)
    ≡ commas (if b then member l d (below k ms) else below k ms)
    ++ commas (if b then above k ms else member l d (above k ms))
split_at k l d ms true h j rest =
    ap (λ text. member_text l d ++ text) rest
    ∙ sym (append_assoc (member_text l d) (commas (below k ms)) (commas (above k ms)))
split_at k l d ms false h j rest =
    sym (ap₂ (λ front back. commas front ++ commas (member l d back)) (none_below k l ms h j)
    (all_above k l ms h j))

pub commas-split : (k : List ℕ) (ms : Members) → ascend (names ms) ≡ true
    → commas ms ≡ commas (below k ms) ++ commas (above k ms)
commas-split k no_members h = refl
commas-split k (member l d ms) h =
    let parts = and_parts (all_behind l ms) _ h in
    split_at k l d ms (is_before l k) refl parts.0 (commas-split k ms parts.1)

above_step : (low high l : List ℕ) (d : Data) (ms : Members) (b c : Bool) → is_before l low ≡ b
    → is_before l high ≡ c → (b ≡ true → c ≡ true) → above high (above low ms) ≡ above high ms
    → above high (if b then above low ms else member l d (above low ms))
    ≡ (if c then above high ms else member l d (above high ms))
above_step low high l d ms true true h j up rest = rest
above_step low high l d ms true false h j up rest = absurd (true≢false (sym (up refl)))
above_step low high l d ms false true h j up rest =
    ap (λ c. if c then above high (above low ms) else member l d (above high (above low ms))) j
    ∙ rest
above_step low high l d ms false false h j up rest =
    ap (λ c. if c then above high (above low ms) else member l d (above high (above low ms))) j
    ∙ ap (member l d) rest

pub above-above : (low high : List ℕ) (ms : Members) → is_before low high ≡ true
    → above high (above low ms) ≡ above high ms
above-above low high no_members order = refl
above-above low high (member l d ms) order =
    above_step low high l d ms (is_before l low) (is_before l high) refl refl
    (λ h. before_trans l low high h order) (above-above low high ms order)

below_step : (low high l : List ℕ) (d : Data) (ms : Members) (b c : Bool) → is_before l low ≡ b
    → is_before l high ≡ c → (b ≡ true → c ≡ true) → all_behind l ms ≡ true
    → commas (below high ms) ≡ commas (below low ms) ++ commas (below high (above low ms))
    → commas (if c then member l d (below high ms) else below high ms)
    ≡ commas (if b then member l d (below low ms) else below low ms)
    ++ commas (below high (if b then above low ms else member l d (above low ms)))
below_step low high l d ms true true h j up behind rest =
    ap (λ text. member_text l d ++ text) rest
    ∙ sym
    (append_assoc (member_text l d) (commas (below low ms)) (commas (below high (above low ms))))
below_step low high l d ms true false h j up behind rest = absurd (true≢false (sym (up refl)))
below_step low high l d ms false true h j up behind rest =
    sym (ap₂ (λ front back. commas front ++ commas (below high (member l d back)))
    (none_below low l ms h behind) (all_above low l ms h behind)
    ∙ ap (λ c. commas (if c then member l d (below high ms) else below high ms)) j)
below_step low high l d ms false false h j up behind rest =
    sym (ap₂ (λ front back. commas front ++ commas (below high (member l d back)))
    (none_below low l ms h behind) (all_above low l ms h behind)
    ∙ ap (λ c. commas (if c then member l d (below high ms) else below high ms)) j)

pub commas-below : (low high : List ℕ) (ms : Members) → ascend (names ms) ≡ true
    → is_before low high ≡ true
    → commas (below high ms) ≡ commas (below low ms) ++ commas (below high (above low ms))
commas-below low high no_members h order = refl
commas-below low high (member l d ms) h order =
    let parts = and_parts (all_behind l ms) _ h in
    below_step low high l d ms (is_before l low) (is_before l high) refl refl
    (λ before. before_trans l low high before order) parts.0
    (commas-below low high ms parts.1 order)

middle : (a b c whole : List ℕ) (from to : ℕ) → whole ≡ (a ++ b) ++ c → from ≡ length a
    → to ≡ length (a ++ b) → slice_range whole from to ≡ b
middle a b c whole from to e f t =
    let long : to - from ≡ length b = omega (arith, length-append a b) in
    ap₂ take long (ap₂ drop f (e ∙ append_assoc a b c) ∙ drop_at a (b ++ c) (length a) refl)
    ∙ take_at b c (length b) refl

-- between two cuts stand the members between
pub between_cuts : (low high : List ℕ) (ms : Members) (from to : ℕ) → ascend (names ms) ≡ true
    → is_before low high ≡ true → from ≡ cut low ms → to ≡ cut high ms
    → slice_range (commas ms) from to ≡ commas (below high (above low ms))
between_cuts low high ms from to h order f t =
    middle (commas (below low ms)) (commas (below high (above low ms))) (commas (above high ms))
    (commas ms) from to
    (commas-split high ms h
    ∙ ap (λ front. front ++ commas (above high ms)) (commas-below low high ms h order)) f
    (t ∙ ap length (commas-below low high ms h order))

-- cuts lie in the order of their names
pub cuts_ascend : (low high : List ℕ) (ms : Members) → ascend (names ms) ≡ true
    → is_before low high ≡ true → cut low ms ≤ cut high ms
cuts_ascend low high ms h order =
    omega (
      arith,
      ap length (commas-below low high ms h order),
      length-append (commas (below low ms)) (commas (below high (above low ms))),
    )

pub cut_within : (name : List ℕ) (ms : Members) → ascend (names ms) ≡ true
    → cut name ms ≤ length (commas ms)
cut_within name ms h = omega (
  arith,
  ap length (commas-split name ms h),
  length-append (commas (below name ms)) (commas (above name ms)),
)

-- behind a cut stand the members above
pub behind_cut : (low : List ℕ) (ms : Members) (from to : ℕ) → ascend (names ms) ≡ true
    → from ≡ cut low ms → to ≡ length (commas ms)
    → slice_range (commas ms) from to ≡ commas (above low ms)
behind_cut low ms from to h f t =
    middle (commas (below low ms)) (commas (above low ms)) [] (commas ms) from to
    (commas-split low ms h ∙ sym (append-nil _)) f (t ∙ ap length (commas-split low ms h))

not_before_empty : (name : List ℕ) → is_before name [] ≡ false
not_before_empty [] = refl
not_before_empty (x ∷ xs) = refl

-- no name stands before the empty one
pub above-empty : (ms : Members) → above [] ms ≡ ms
above-empty no_members = refl
above-empty (member l d ms) =
    ap (λ b. if b then above [] ms else member l d (above [] ms)) (not_before_empty l)
    ∙ ap (member l d) (above-empty ms)

below-empty : (ms : Members) → below [] ms ≡ no_members
below-empty no_members = refl
below-empty (member l d ms) =
    ap (λ b. if b then member l d (below [] ms) else below [] ms) (not_before_empty l)
    ∙ below-empty ms

pub cut-empty : (ms : Members) → cut [] ms ≡ 0
cut-empty ms = ap (λ front. length (commas front)) (below-empty ms)

-- ---- a member that is put stands between those before it and those behind it

abbrev joined : Members → Members → Members
joined no_members ms = ms
joined (member k d front) ms = member k d (joined front ms)

commas-joined : (front ms : Members) → commas (joined front ms) ≡ commas front ++ commas ms
commas-joined no_members ms = refl
commas-joined (member k d front) ms =
    ap (λ text. member_text k d ++ text) (commas-joined front ms)
    ∙ sym (append_assoc (member_text k d) (commas front) (commas ms))

absent_behind : (o : Ordering) (found : Option Data) (d : Data)
    → match_ordering o found (Some d) found ≡ None → found ≡ None
absent_behind Less found d h = h
absent_behind Equal found d h = absurd (cc)
absent_behind Greater found d h = h

reversed : (k l : List ℕ) → is_before l k ≡ is_lt (ordering_reverse (slice_cmp nat_cmp k l))
reversed k l = ap is_lt (nat_list_cmp_total.antisymm l k)

put_step : (k l : List ℕ) (d e : Data) (ms : Members) (o : Ordering)
    → is_before l k ≡ is_lt (ordering_reverse o)
    → match_ordering o (get_member k ms) (Some e) (get_member k ms) ≡ None
    → all_behind l ms ≡ true → put k d ms ≡ joined (below k ms) (member k d (above k ms))
    → match_ordering o (member k d (member l e ms)) (member l d ms) (member l e (put k d ms))
    ≡ joined (below k (member l e ms)) (member k d (above k (member l e ms)))
put_step k l d e ms Less h none behind rest =
    sym (ap (λ b. joined (if b then member l e (below k ms) else below k ms)
    (member k d (if b then above k ms else member l e (above k ms)))) h
    ∙ ap₂ (λ front back. joined front (member k d (member l e back))) (none_below k l ms h behind)
    (all_above k l ms h behind))
put_step k l d e ms Equal h none behind rest = absurd (cc)
put_step k l d e ms Greater h none behind rest =
    ap (member l e) rest
    ∙ sym (ap (λ b. joined (if b then member l e (below k ms) else below k ms)
    (member k d (if b then above k ms else member l e (above k ms)))) h)

put_between : (k : List ℕ) (d : Data) (ms : Members) → ascend (names ms) ≡ true
    → get_member k ms ≡ None → put k d ms ≡ joined (below k ms) (member k d (above k ms))
put_between k d no_members h none = refl
put_between k d (member l e ms) h none =
    let parts = and_parts (all_behind l ms) _ h in
    put_step k l d e ms (slice_cmp nat_cmp k l) (reversed k l) none parts.0
    (put_between k d ms parts.1 (absent_behind _ _ e none))

-- ---- what is put behind a member leaves what stands before it

above_is_greater : (k l : List ℕ) → is_before l k ≡ true → slice_cmp nat_cmp k l ≡ Greater
above_is_greater k l h = nat_list_cmp_total.antisymm k l ∙ ap ordering_reverse (less _ h)

put_behind : (k : List ℕ) (d : Data) (l : List ℕ) (e : Data) (front back : Members)
    → all_before l front ≡ true → is_before l k ≡ true
    → put k d (joined front (member l e back)) ≡ joined front (member l e (put k d back))
unfolding all_before
put_behind k d l e no_members back h order =
    ap (λ o.
    match_ordering o (member k d (member l e back)) (member l d back) (member l e (put k d back)))
    (above_is_greater k l order)
put_behind k d l e (member m f front) back h order =
    let parts = and_parts (is_before m l) _ h in
    ap (λ o. match_ordering o (member k d (member m f (joined front (member l e back))))
    (member m d (joined front (member l e back)))
    (member m f (put k d (joined front (member l e back)))))
    (above_is_greater k m (before_trans m l k parts.0 order))
    ∙ ap (member m f) (put_behind k d l e front back parts.1 order)

put_all_behind : (others : Members) (l : List ℕ) (e : Data) (front back : Members)
    → all_before l front ≡ true → all_behind l others ≡ true
    → put_all others (joined front (member l e back))
    ≡ joined front (member l e (put_all others back))
put_all_behind no_members l e front back h order = refl
put_all_behind (member k d others) l e front back h order =
    let parts = and_parts (is_before l k) _ order in
    ap (put_all others) (put_behind k d l e front back h parts.0)
    ∙ put_all_behind others l e front (put k d back) h parts.1

below_step_before : (k l : List ℕ) (d : Data) (ms : Members) (b : Bool) → is_before l k ≡ b
    → all_before k (below k ms) ≡ true
    → all_before k (if b then member l d (below k ms) else below k ms) ≡ true
unfolding all_before
below_step_before k l d ms true h rest = and_from _ _ h rest
below_step_before k l d ms false h rest = rest

all_before-below : (k : List ℕ) (ms : Members) → all_before k (below k ms) ≡ true
unfolding all_before
all_before-below k no_members = refl
all_before-below k (member l d ms) =
    below_step_before k l d ms (is_before l k) refl (all_before-below k ms)

put_first : (k : List ℕ) (d : Data) (others ms : Members) → ascend (names ms) ≡ true
    → get_member k ms ≡ None → all_behind k others ≡ true
    → commas (put_all (member k d others) ms)
    ≡ commas (below k ms) ++ (member_text k d ++ commas (put_all others (above k ms)))
put_first k d others ms h none order =
    ap (λ whole. commas (put_all others whole)) (put_between k d ms h none)
    ∙ ap commas (put_all_behind others k d (below k ms) (above k ms) (all_before-below k ms) order)
    ∙ commas-joined (below k ms) (member k d (put_all others (above k ms)))

-- ---- what holds of members holds of those above a name

absent_step : (k name l : List ℕ) (d : Data) (ms : Members) (b : Bool)
    → get_member name (member l d ms) ≡ None → get_member name (above k ms) ≡ None
    → get_member name (if b then above k ms else member l d (above k ms)) ≡ None
absent_step k name l d ms true none rest = rest
absent_step k name l d ms false none rest = same (slice_cmp nat_cmp name l) none
  where
    same : (o : Ordering)
        → match_ordering o (get_member name ms) (Some d) (get_member name ms) ≡ None
        → match_ordering o (get_member name (above k ms)) (Some d) (get_member name (above k ms))
        ≡ None
    same Less h = rest
    same Equal h = absurd (cc)
    same Greater h = rest

absent_above : (k name : List ℕ) (ms : Members) → get_member name ms ≡ None
    → get_member name (above k ms) ≡ None
absent_above k name no_members none = refl
absent_above k name (member l d ms) none =
    absent_step k name l d ms (is_before l k) none
    (absent_above k name ms (absent_behind (slice_cmp nat_cmp name l) _ d none))

all_step : (test : List ℕ → Bool) (k l : List ℕ) (d : Data) (ms : Members) (b : Bool)
    → test l ≡ true → list_all test (names (above k ms)) ≡ true
    → list_all test (names (if b then above k ms else member l d (above k ms))) ≡ true
all_step test k l d ms true h rest = rest
all_step test k l d ms false h rest = and_from _ _ h rest

all-above : (test : List ℕ → Bool) (k : List ℕ) (ms : Members) → list_all test (names ms) ≡ true
    → list_all test (names (above k ms)) ≡ true
all-above test k no_members h = refl
all-above test k (member l d ms) h =
    let parts = and_parts (test l) _ h in
    all_step test k l d ms (is_before l k) parts.0 (all-above test k ms parts.1)

ascend_step : (k l : List ℕ) (d : Data) (ms : Members) (b : Bool) → all_behind l (above k ms) ≡ true
    → ascend (names (above k ms)) ≡ true
    → ascend (names (if b then above k ms else member l d (above k ms))) ≡ true
ascend_step k l d ms true h rest = rest
ascend_step k l d ms false h rest = and_from _ _ h rest

ascend-above : (k : List ℕ) (ms : Members) → ascend (names ms) ≡ true
    → ascend (names (above k ms)) ≡ true
ascend-above k no_members h = refl
ascend-above k (member l d ms) h =
    let parts = and_parts (all_behind l ms) _ h in
    ascend_step k l d ms (is_before l k) (all-above (is_before l) k ms parts.0)
    (ascend-above k ms parts.1)

-- ---- the whole text, piece by piece

none_from : (o : Option Data) → is_none o ≡ true → o ≡ None
none_from None h = refl
none_from (Some d) h = absurd (cc)

pub commas-put_all : (low : List ℕ) (others ms : Members) → ascend (low ∷ names others) ≡ true
    → ascend (names ms) ≡ true → lacks others ms ≡ true
    → commas (put_all others (above low ms)) ≡ spliced low others ms
commas-put_all low no_members ms order h none = refl
commas-put_all low (member k d others) ms order h none =
    let parts = and_parts (list_all (is_before low) (k ∷ names others)) _ order in
    let first = and_parts (is_before low k) _ parts.0 in
    let later = and_parts (all_behind k others) _ parts.1 in
    let absent = and_parts (is_none (get_member k ms)) _ none in
    put_first k d others (above low ms) (ascend-above low ms h)
    (absent_above low k ms (none_from _ absent.0)) later.0
    ∙ ap
    (λ back. commas (below k (above low ms)) ++ (member_text k d ++ commas (put_all others back)))
    (above-above low k ms first.0)
    ∙ ap (λ text. commas (below k (above low ms)) ++ (member_text k d ++ text))
    (commas-put_all k others ms parts.1 h absent.1)

-- ---- a member that is put last, before the others, might as well be put first

joined_step : (k l : List ℕ) (d : Data) (ms : Members) (b : Bool) → is_before l k ≡ b
    → all_behind l ms ≡ true → joined (below k ms) (above k ms) ≡ ms
    → joined (if b then member l d (below k ms) else below k ms)
    (if b then above k ms else member l d (above k ms)) ≡ member l d ms
joined_step k l d ms true h behind rest = ap (member l d) rest
joined_step k l d ms false h behind rest =
    ap₂ (λ front back. joined front (member l d back)) (none_below k l ms h behind)
    (all_above k l ms h behind)

joined-split : (k : List ℕ) (ms : Members) → ascend (names ms) ≡ true
    → joined (below k ms) (above k ms) ≡ ms
joined-split k no_members h = refl
joined-split k (member l d ms) h =
    let parts = and_parts (all_behind l ms) _ h in
    joined_step k l d ms (is_before l k) refl parts.0 (joined-split k ms parts.1)

put_front : (k : List ℕ) (d : Data) (front back : Members) → all_before k front ≡ true
    → put k d (joined front back) ≡ joined front (put k d back)
unfolding all_before
put_front k d no_members back h = refl
put_front k d (member m f front) back h =
    let parts = and_parts (is_before m k) _ h in
    ap (λ o. match_ordering o (member k d (member m f (joined front back)))
    (member m d (joined front back)) (member m f (put k d (joined front back))))
    (above_is_greater k m parts.0)
    ∙ ap (member m f) (put_front k d front back parts.1)

before_later : (k l : List ℕ) (front : Members) → all_before k front ≡ true → is_before k l ≡ true
    → all_before l front ≡ true
unfolding all_before
before_later k l no_members h order = refl
before_later k l (member m f front) h order =
    let parts = and_parts (is_before m k) _ h in
    and_from _ _ (before_trans m k l parts.0 order) (before_later k l front parts.1 order)

put_all_front : (l : List ℕ) (others front back : Members) → all_before l front ≡ true
    → all_behind l others ≡ true
    → put_all others (joined front back) ≡ joined front (put_all others back)
put_all_front l no_members front back h order = refl
put_all_front l (member k d others) front back h order =
    let parts = and_parts (is_before l k) _ order in
    ap (put_all others) (put_front k d front back (before_later l k front h parts.0))
    ∙ put_all_front l others front (put k d back) h parts.1

behind_put_step : (l k m : List ℕ) (d e : Data) (ms : Members) (o : Ordering) → is_before l k ≡ true
    → is_before l m ≡ true → all_behind l ms ≡ true → all_behind l (put k d ms) ≡ true
    → all_behind l
    (match_ordering o (member k d (member m e ms)) (member m d ms) (member m e (put k d ms))) ≡ true
behind_put_step l k m d e ms Less h j rest put_rest = and_from _ _ h (and_from _ _ j rest)
behind_put_step l k m d e ms Equal h j rest put_rest = and_from _ _ j rest
behind_put_step l k m d e ms Greater h j rest put_rest = and_from _ _ j put_rest

behind_put : (l k : List ℕ) (d : Data) (ms : Members) → is_before l k ≡ true
    → all_behind l ms ≡ true → all_behind l (put k d ms) ≡ true
behind_put l k d no_members h j = and_from _ _ h refl
behind_put l k d (member m e ms) h j =
    let parts = and_parts (is_before l m) _ j in
    behind_put_step l k m d e ms (slice_cmp nat_cmp k m) h parts.0 parts.1
    (behind_put l k d ms h parts.1)

behind_put_all : (l : List ℕ) (others ms : Members) → all_behind l others ≡ true
    → all_behind l ms ≡ true → all_behind l (put_all others ms) ≡ true
behind_put_all l no_members ms h j = j
behind_put_all l (member k d others) ms h j =
    let parts = and_parts (is_before l k) _ h in
    behind_put_all l others (put k d ms) parts.1 (behind_put l k d ms parts.0 j)

put_at_front : (k : List ℕ) (d : Data) (ms : Members) → all_behind k ms ≡ true
    → put k d ms ≡ member k d ms
put_at_front k d no_members h = refl
put_at_front k d (member l e ms) h =
    ap
    (λ o. match_ordering o (member k d (member l e ms)) (member l d ms) (member l e (put k d ms)))
    (less _ (and_parts (is_before k l) _ h).0)

above_behind_step : (k l : List ℕ) (d : Data) (ms : Members) (o : Ordering)
    → slice_cmp nat_cmp k l ≡ o
    → match_ordering o (get_member k ms) (Some d) (get_member k ms) ≡ None
    → all_behind k (above k ms) ≡ true
    → all_behind k (if is_lt (ordering_reverse o) then above k ms else member l d (above k ms))
    ≡ true
above_behind_step k l d ms Less h none rest = and_from _ _ (ap is_lt h) rest
above_behind_step k l d ms Equal h none rest = absurd (cc)
above_behind_step k l d ms Greater h none rest = rest

above_behind : (k : List ℕ) (ms : Members) → get_member k ms ≡ None
    → all_behind k (above k ms) ≡ true
above_behind k no_members none = refl
above_behind k (member l d ms) none =
    ap (λ b. all_behind k (if b then above k ms else member l d (above k ms))) (reversed k l)
    ∙ above_behind_step k l d ms (slice_cmp nat_cmp k l) refl none
    (above_behind k ms (absent_behind (slice_cmp nat_cmp k l) _ d none))

pub put_outermost : (k : List ℕ) (d : Data) (others ms : Members) → ascend (names ms) ≡ true
    → get_member k ms ≡ None → list_all (is_before k) (names others) ≡ true
    → put k d (put_all others ms) ≡ put_all (member k d others) ms
put_outermost k d others ms h none order =
    let front = below k ms in
    let back = above k ms in
    ap (λ all. put k d (put_all others all)) (sym (joined-split k ms h))
    ∙ ap (put k d) (put_all_front k others front back (all_before-below k ms) order)
    ∙ put_front k d front (put_all others back) (all_before-below k ms)
    ∙ ap (joined front) (put_at_front k d (put_all others back)
    (behind_put_all k others back order (above_behind k ms none)))
    ∙ sym (put_all_behind others k d front back (all_before-below k ms) order)
    ∙ ap (put_all others) (sym (put_between k d ms h none))
