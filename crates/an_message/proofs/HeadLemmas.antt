-- Where a head ends: in the bytes that are held, in more of them, and from a later place on.
use Rattle.std.proofs.Common.{◌≡◌, ℕ, ◌+◌, ◌-◌, ◌<◌, ◌≤◌, List, [], ◌∷◌, ◌++◌, length, get_or, take, drop, codes, Bool, true, false, if◌then◌else◌, bytes_eq, Option, Some, None, option_map, refl, sym, ap, ◌∙◌, zero, suc, add-one, arith, drop-cons}
use Rattle.std.proofs.lemmas.List.{drop_all, length-take, take-append-le, take_rest}
use Rattle.std.proofs.lemmas.Slice.Eq.{bytes_eq-Decides}
use Rattle.an_message.specs.Framing.{begins_with_end, head_length}

-- four bytes that are CR LF CR LF
end-long : (bytes : List ℕ) → begins_with_end bytes ≡ true → 4 ≤ length bytes
end-long bytes h =
    let same : take 4 bytes ≡ codes "\r\n\r\n" =
    (bytes_eq-Decides (take 4 bytes) (codes "\r\n\r\n")).0 h in
    omega (arith, ap length same, length-take 4 bytes)

-- four bytes say whether a head ends with them
end-append : (bytes more : List ℕ) → 4 ≤ length bytes
    → begins_with_end (bytes ++ more) ≡ begins_with_end bytes
end-append bytes more long =
    ap (λ front. bytes_eq front (codes "\r\n\r\n")) (take-append-le 4 bytes more long)

-- a head has four bytes, and no more than there are
length_by : (b : ℕ) (bytes : List ℕ) (n : ℕ) (test : Bool) (rest : Option ℕ)
    → begins_with_end (b ∷ bytes) ≡ test
    → ((m : ℕ) → rest ≡ Some m → (4 ≤ m) × (m ≤ length bytes))
    → (if test then Some 4 else option_map (λ n. 1 + n) rest) ≡ Some n
    → (4 ≤ n) × (n ≤ length (b ∷ bytes))
length_by b bytes n true rest ends within h =
    let is : 4 ≡ n = (cc) in let long = end-long (b ∷ bytes) ends in (omega arith, omega arith)
length_by b bytes n false None ends within h = cc
length_by b bytes n false (Some m) ends within h =
    let is : 1 + m ≡ n = (cc) in let (four, most) = within m refl in (omega arith, omega arith)

pub head_length-within : (bytes : List ℕ) (n : ℕ) → head_length bytes ≡ Some n
    → (4 ≤ n) × (n ≤ length bytes)
head_length-within [] n h = cc
head_length-within (b ∷ bytes) n h =
    length_by b bytes n (begins_with_end (b ∷ bytes)) (head_length bytes) refl
    (head_length-within bytes) h

-- the head ends there whatever follows
more_by : (b : ℕ) (bytes more : List ℕ) (n : ℕ) (test : Bool) (rest : Option ℕ)
    → begins_with_end (b ∷ bytes) ≡ test → head_length bytes ≡ rest
    → ((m : ℕ) → head_length bytes ≡ Some m → head_length (bytes ++ more) ≡ Some m)
    → (if test then Some 4 else option_map (λ n. 1 + n) rest) ≡ Some n
    → head_length (b ∷ (bytes ++ more)) ≡ Some n
more_by b bytes more n true rest ends is next h =
    let still : begins_with_end (b ∷ (bytes ++ more)) ≡ true =
    end-append (b ∷ bytes) more (end-long (b ∷ bytes) ends) ∙ ends in
    rw still h
more_by b bytes more n false None ends is next h = cc
more_by b bytes more n false (Some m) ends is next h =
    let four = (head_length-within bytes m is).0 in
    let most = (head_length-within bytes m is).1 in
    let still : begins_with_end (b ∷ (bytes ++ more)) ≡ false =
    end-append (b ∷ bytes) more (omega arith) ∙ ends in
    rw (still, next m is) h

pub head_length-append : (bytes more : List ℕ) (n : ℕ) → head_length bytes ≡ Some n
    → head_length (bytes ++ more) ≡ Some n
head_length-append [] more n h = cc
head_length-append (b ∷ bytes) more n h =
    more_by b bytes more n (begins_with_end (b ∷ bytes)) (head_length bytes) refl refl
    (head_length-append bytes more) h

-- the place counts from further in front
shift-zero : (place : Option ℕ) → option_map (λ n. 0 + n) place ≡ place
shift-zero None = refl
shift-zero (Some n) = ap (λ m. Some m) (omega arith)

shift-shift : (first next both : ℕ) → first + next ≡ both → (place : Option ℕ)
    → option_map (λ n. first + n) (option_map (λ n. next + n) place)
    ≡ option_map (λ n. both + n) place
shift-shift first next both is None = refl
shift-shift first next both is (Some n) = ap (λ m. Some m) (omega arith)

-- where the bytes don't end a head at once, the head ends as far behind the first byte as it does
-- in those behind it
behind_first : (b : ℕ) (bytes : List ℕ) → begins_with_end (b ∷ bytes) ≡ false
    → head_length (b ∷ bytes) ≡ option_map (λ n. 1 + n) (head_length bytes)
behind_first b bytes none = rw none refl

none_behind : (b : ℕ) (bytes : List ℕ) (test : Bool) (rest : Option ℕ)
    → begins_with_end (b ∷ bytes) ≡ test
    → (if test then Some 4 else option_map (λ n. 1 + n) rest) ≡ None
    → (begins_with_end (b ∷ bytes) ≡ false) × (rest ≡ None)
none_behind b bytes true rest ends h = cc
none_behind b bytes false None ends h = (ends, refl)
none_behind b bytes false (Some m) ends h = cc

-- where no head ends, one ends behind more bytes in the last three bytes at the earliest
pub head_length-skip : (k : ℕ) (bytes more : List ℕ) → k ≤ length bytes - 3
    → head_length bytes ≡ None
    → head_length (bytes ++ more) ≡ option_map (λ n. k + n) (head_length (drop k (bytes ++ more)))
head_length-skip zero bytes more within none = sym (shift-zero (head_length (bytes ++ more)))
head_length-skip (suc k) [] more within none = absurd (omega arith)
head_length-skip (suc k) (b ∷ bytes) more within none =
    let parts : (begins_with_end (b ∷ bytes) ≡ false) × (head_length bytes ≡ None) =
    none_behind b bytes (begins_with_end (b ∷ bytes)) (head_length bytes) refl none in
    let still : begins_with_end (b ∷ (bytes ++ more)) ≡ false =
    end-append (b ∷ bytes) more (omega arith) ∙ parts.0 in
    let step = behind_first b (bytes ++ more) still in
    let next = head_length-skip k bytes more (omega arith) parts.1 in
    step ∙ ap (option_map (λ n. 1 + n)) next
    ∙ shift-shift 1 k (suc k) (omega arith) (head_length (drop k (bytes ++ more)))

-- the scan at a place: no head ends with the four bytes there
pub scan-next : (bytes : List ℕ) (at : ℕ) (found : Option ℕ) → at < length bytes
    → begins_with_end (take (length bytes - at) (drop at bytes)) ≡ false
    → found ≡ option_map (λ n. at + n) (head_length (drop at bytes))
    → found ≡ option_map (λ n. (at + 1) + n) (head_length (drop (at + 1) bytes))
scan-next bytes at found within none so_far =
    let front : drop at bytes ≡ get_or bytes at 0 ∷ drop (suc at) bytes =
    drop-cons bytes at 0 within in
    let here : begins_with_end (drop at bytes) ≡ false = rw take_rest at none in
    so_far ∙ ap (λ rest. option_map (λ n. at + n) (head_length rest)) front ∙ rw add-one (
    ap (option_map (λ n. at + n))
    (behind_first (get_or bytes at 0) (drop (suc at) bytes) (rw front at here))
    ∙ shift-shift at 1 (suc at) (omega arith) (head_length (drop (suc at) bytes)))

-- a head ends with them
pub scan-found : (bytes : List ℕ) (at : ℕ)
    → begins_with_end (take (length bytes - at) (drop at bytes)) ≡ true
    → option_map (λ n. at + n) (head_length (drop at bytes)) ≡ Some (at + 4)
scan-found bytes at ends = ends_by (drop at bytes) (rw take_rest at ends)
  where
    ends_by : (rest : List ℕ) → begins_with_end rest ≡ true
        → option_map (λ n. at + n) (head_length rest) ≡ Some (at + 4)
    ends_by [] h = cc
    ends_by (b ∷ rest) h = rw h refl

-- the end of the bytes
pub scan-end : (bytes : List ℕ) (at : ℕ) → length bytes ≤ at
    → option_map (λ n. at + n) (head_length (drop at bytes)) ≡ None
scan-end bytes at end =
    ap (λ rest. option_map (λ n. at + n) (head_length rest)) (drop_all at bytes end)

pub ruleset scanning = (scan-found, scan-end)
