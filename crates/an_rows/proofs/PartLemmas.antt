-- How the parts of a text join that are written one behind the other.
use Rattle.std.proofs.Common.{◌≡◌, ℕ, ℤ, pos, negsuc, List, [], ◌++◌, Option, Some, None, append-nil, append_assoc, refl, ap, sym, ◌∙◌}
use Rattle.std.specs.Fmt.{signed_decimal}
use Rattle.serde_json.specs.Data.{Data, Members, no_members}
use Rattle.serde_json.specs.Written.{compact_text}
use Rattle.an_base.specs.Write.{member_text, commas}
use Rattle.an_rows.specs.RowTree.{given, moment_tree}

pub two_parts : (a b c x y : List ℕ) → b ≡ a ++ x → c ≡ b ++ y → c ≡ a ++ (x ++ y)
two_parts a b c x y first second = second ∙ ap (λ front. front ++ y) first ∙ append_assoc a x y

pub three_parts : (a b c d x y z : List ℕ) → b ≡ a ++ x → c ≡ b ++ y → d ≡ c ++ z
    → d ≡ a ++ (x ++ (y ++ z))
three_parts a b c d x y z first second third =
    third ∙ ap (λ front. front ++ z) (two_parts a b c x y first second) ∙ append_assoc a (x ++ y) z
    ∙ ap (λ last. a ++ last) (append_assoc x y z)

pub four_parts : (a b c d e x y z w : List ℕ) → b ≡ a ++ x → c ≡ b ++ y → d ≡ c ++ z → e ≡ d ++ w
    → e ≡ a ++ (x ++ (y ++ (z ++ w)))
four_parts a b c d e x y z w first second third fourth =
    two_parts a d e (x ++ (y ++ z)) w (three_parts a b c d x y z first second third) fourth
    ∙ ap (λ last. a ++ last)
    (append_assoc x (y ++ z) w ∙ ap (λ last. x ++ last) (append_assoc y z w))

given_first : (name : List ℕ) (value : Option Data) (others : Members)
    → commas (given name value others) ≡ commas (given name value no_members) ++ commas others
given_first name None others = refl
given_first name (Some value) others =
    sym (append_assoc (member_text name value) (commas no_members) (commas others))

pub given_then : (name : List ℕ) (value : Option Data) (others : Members) (a b c : List ℕ)
    → b ≡ a ++ commas (given name value no_members) → c ≡ b ++ commas others
    → c ≡ a ++ commas (given name value others)
given_then name value others a b c first second =
    two_parts a b c (commas (given name value no_members)) (commas others) first second
    ∙ ap (λ last. a ++ last) (sym (given_first name value others))

pub last_part : (a b x : List ℕ) → b ≡ a ++ x → b ≡ a ++ (x ++ [])
last_part a b x e = e ∙ ap (λ last. a ++ last) (sym (append-nil x))

pub ruleset parts = (two_parts, three_parts, four_parts, given_then, last_part)

pub seconds_text : (m : ℤ) → compact_text (moment_tree m) ≡ signed_decimal m
seconds_text (pos n) = refl
seconds_text (negsuc n) = refl
