-- For private clauses: the bytes by which an object is kept.
use Rattle.std.specs.Prelude.{◌≡◌, ℕ, List, true, IsTrue}
use Rattle.std.specs.Result.{result_unwrap_or}
use Rattle.serde_json.specs.Data.{Data, null}
use Rattle.serde_json.specs.Written.{compact_text}
use Rattle.an_base.specs.Cut.{is_object}
use Rattle.an_base.specs.Tree.{is_tree, tree_of}

-- the tree that bytes are
unfoldable pub tree_in : List ℕ → Data
tree_in bytes = result_unwrap_or (tree_of bytes) null

-- they are the compact text of an object
pub record IsKept (bytes : List ℕ) : Type 0 where
  pub tree : IsTrue (is_tree (tree_in bytes))
  pub object : is_object (tree_in bytes) ≡ true
  pub text : bytes ≡ compact_text (tree_in bytes)
