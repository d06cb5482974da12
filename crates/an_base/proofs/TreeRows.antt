-- Worked rows of trees: the text, and the tree that it is or why it is none.
use Rattle.std.proofs.Common.{◌≡◌, ℕ, ◌++◌, List, [], ◌∷◌, true, false, negsuc, Ok, Err, is_ok, codes, replicate, refl}
use Rattle.std.specs.Char.{encode_utf8}
use Rattle.std.specs.Fmt.{digits}
use Rattle.std.specs.Str.{is_utf8, chars}
use Rattle.serde_json.specs.Data.{unsigned, negative, null, number, array, object, no_items, no_members, member}
use Rattle.serde_json.specs.Written.{compact_text}
use Rattle.serde_json.proofs.OnLiterals.{serde_json_on_literals}
use Rattle.an_base.specs.declared.tree.TreeError.TheVariants.{Json, NotWhole, Deep}
use Rattle.an_base.specs.Tree.{is_tree, tree_of}

unfoldable trees_on_literals : Unit {0}
unfolding serde_json_on_literals digits chars is_utf8 encode_utf8 is_tree tree_of
trees_on_literals = tt

fraction : tree_of (codes "[1.0]") ≡ Err NotWhole
unfolding trees_on_literals
fraction = refl

exponent : tree_of (codes "1e2") ≡ Err NotWhole
unfolding trees_on_literals
exponent = refl

minus_zero : tree_of (codes "-0") ≡ Err NotWhole
unfolding trees_on_literals
minus_zero = refl

beyond_floats : tree_of (codes "1e999") ≡ Err Json
unfolding trees_on_literals
beyond_floats = refl

not_closed : tree_of (codes "[1") ≡ Err Json
unfolding trees_on_literals
not_closed = refl

not_utf8 : tree_of (34 ∷ 255 ∷ 34 ∷ []) ≡ Err Json
unfolding trees_on_literals
not_utf8 = refl

largest : tree_of (codes "18446744073709551615") ≡ Ok (number (unsigned 18446744073709551615))
unfolding trees_on_literals
largest = refl

beyond_largest : tree_of (codes "18446744073709551616") ≡ Err NotWhole
unfolding trees_on_literals
beyond_largest = refl

least : tree_of (codes "-9223372036854775808") ≡ Ok (number (negative (negsuc 9223372036854775807)))
unfolding trees_on_literals
least = refl

beyond_least : tree_of (codes "-9223372036854775809") ≡ Err NotWhole
unfolding trees_on_literals
beyond_least = refl

-- the later of two members counts, and what it replaces is not judged
twice : tree_of (codes "{\"a\":1.5,\"a\":1}")
    ≡ Ok (object (member (codes "a") (number (unsigned 1)) no_members))
unfolding trees_on_literals
twice = refl

text_of_pair : compact_text
    (object
    (member (codes "a") (array no_items) (member (codes "b") (number (unsigned 1)) no_members)))
    ≡ codes "{\"a\":[],\"b\":1}"
unfolding trees_on_literals
text_of_pair = refl

ascending : tree_of (codes "{\"b\":1,\"a\":[]}")
    ≡ Ok (object
    (member (codes "a") (array no_items) (member (codes "b") (number (unsigned 1)) no_members)))
unfolding trees_on_literals
ascending = refl

not_ascending : is_tree (object (member (codes "b") null (member (codes "a") null no_members)))
    ≡ false
unfolding trees_on_literals
not_ascending = refl

name_twice : is_tree (object (member (codes "a") null (member (codes "a") null no_members))) ≡ false
unfolding trees_on_literals
name_twice = refl

-- ---- how deep arrays stand inside each other

abbrev nested : ℕ → List ℕ
nested levels = replicate levels 91 ++ replicate levels 93

deepest : is_ok (tree_of (nested 100)) ≡ true
unfolding trees_on_literals
deepest = refl

beyond_deepest : tree_of (nested 101) ≡ Err Deep
unfolding trees_on_literals
beyond_deepest = refl

deepest_json : tree_of (nested 127) ≡ Err Deep
unfolding trees_on_literals
deepest_json = refl

beyond_json : tree_of (nested 128) ≡ Err Json
unfolding trees_on_literals
beyond_json = refl
