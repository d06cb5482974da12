-- What the trial writes is made of trees.
use Rattle.std.proofs.Common.{◌≡◌, ℕ, List, true, IsUtf8, IsTrue, refl, sym, subst}
use Rattle.std.proofs.lemmas.Str.{is_utf8-from_IsUtf8}
use Rattle.std.specs.Char.{encode_utf8}
use Rattle.std.specs.Str.{is_utf8, chars}
use Rattle.serde_json.specs.Data.{Data}
use Rattle.an_base.specs.Tree.{is_tree}
use Rattle.an_trial.specs.Writes.{manifest_tree, note_tree, reader_tree}

unfoldable trees_on_literals : Unit {0}
unfolding is_tree is_utf8 chars encode_utf8
trees_on_literals = tt

reader_is_tree : IsTrue (is_tree reader_tree)
unfolding trees_on_literals
reader_is_tree = refl

manifest_is_tree : IsTrue (is_tree manifest_tree)
unfolding trees_on_literals
manifest_is_tree = refl

note_is_tree : (text : List ℕ) → is_utf8 text ≡ true → IsTrue (is_tree (note_tree text))
unfolding trees_on_literals
note_is_tree text h = rw h refl

pub reader_value : (d : Data) → d ≡ reader_tree → IsTrue (is_tree d)
reader_value d is = subst (λ d. IsTrue (is_tree d)) (sym is) reader_is_tree

pub manifest_value : (d : Data) → d ≡ manifest_tree → IsTrue (is_tree d)
manifest_value d is = subst (λ d. IsTrue (is_tree d)) (sym is) manifest_is_tree

pub note_value : (d : Data) (text : List ℕ) → IsUtf8 text → d ≡ note_tree text → IsTrue (is_tree d)
note_value d text utf8 is =
    subst (λ d. IsTrue (is_tree d)) (sym is) (note_is_tree text (is_utf8-from_IsUtf8 text utf8))

pub ruleset trial_trees = (reader_value, manifest_value, note_value)
