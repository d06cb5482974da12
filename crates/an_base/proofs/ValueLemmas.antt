-- Whole JSON values are read, and their texts read back.
use Rattle.std.proofs.Common.{◌≡◌, ℕ, ◌≤◌, List, true, false, Some, ok_or, Ok, Err, IsUtf8, IsTrue, refl, ap, ◌∙◌}
use Rattle.serde_json.specs.Data.{Data, depth}
use Rattle.serde_json.specs.Read.{max_depth}
use Rattle.serde_json.specs.Written.{compact_text}
use Rattle.an_base.specs.declared.tree.TreeError.{TreeError}
use Rattle.an_base.specs.declared.tree.TreeError.TheVariants.{Json, NotWhole}
use Rattle.an_base.specs.Outcome.{or_refuse}
use Rattle.an_base.specs.Tree.{is_whole, json_of}
use Rattle.an_base.specs.Value.{if_whole, value_of}
use Rattle.an_base.proofs.TreeLemmas.{json_read, known, refused}
use Rattle.an_base.proofs.TreeTexts.{IsUtf8-compact_text, read-compact_text}

read_as : (bytes : List ℕ) (value : Data) → ok_or (json_of bytes) Json ≡ Ok value
    → value_of bytes ≡ if_whole value
unfolding value_of
read_as bytes value e =
    ap (λ found. or_refuse Json found if_whole) (known (json_of bytes) Json value e)

pub value_of-ok : (bytes : List ℕ) (value : Data) → ok_or (json_of bytes) Json ≡ Ok value
    → is_whole value ≡ true → value_of bytes ≡ Ok value
value_of-ok bytes value e whole = read_as bytes value e ∙ rw whole refl

pub value_of-not_whole : (bytes : List ℕ) (value : Data) → ok_or (json_of bytes) Json ≡ Ok value
    → is_whole value ≡ false → value_of bytes ≡ Err NotWhole
value_of-not_whole bytes value e whole = read_as bytes value e ∙ rw whole refl

pub value_of-refused : (bytes : List ℕ) (e : TreeError) → ok_or (json_of bytes) Json ≡ Err e
    → value_of bytes ≡ Err e
unfolding value_of
value_of-refused bytes e h =
    let both = refused (json_of bytes) Json e h in
    ap (λ found. or_refuse Json found if_whole) both.0 ∙ ap (λ f. Err f) both.1

pub ruleset reading_values = (value_of-ok, value_of-not_whole, value_of-refused)

-- ---- reading back

pub text_is_utf8 : (d : Data) → IsTrue (is_whole d) → IsUtf8 (compact_text d)
text_is_utf8 d whole = IsUtf8-compact_text d whole

pub value_read_back : (d : Data) → IsTrue (is_whole d) → depth d ≤ max_depth
    → json_of (compact_text d) ≡ Some d
value_read_back d whole shallow =
    json_read (compact_text d) d (IsUtf8-compact_text d whole) (read-compact_text d whole shallow)

pub ruleset values_texts = (text_is_utf8, value_read_back)
