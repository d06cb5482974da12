-- Inner groups are read as they are written, and their values are whole and not deep.
use Rattle.std.proofs.Common.{◌≡◌, ◌≤◌, ℕ, max, Bool, true, false, codes, List, [], ◌∷◌, ◌++◌, refl, sym, ap, ◌∙◌, arith, append-nil, append_assoc}
use Rattle.std.specs.Prelude.{◌&&◌, length, nat_le, Option, Some, None, option_map, option_and_then}
use Rattle.std.specs.List.{list_all}
use Rattle.std.specs.Str.{is_utf8}
use Rattle.std.proofs.lemmas.Bool.{and_parts, and_from}
use Rattle.serde_json.specs.Data.{Data, Items, no_items, item, string, depth, items_depth}
use Rattle.serde_json.specs.Find.{as_str}
use Rattle.an_base.specs.Tree.{items_are_whole}
use Rattle.an_policy.specs.Names.{are_names, ascend_behind, is_group_name}
use Rattle.an_policy.specs.Inner.{inner_of, inner_text, inner_texts, is_valid_inner}
use Rattle.an_policy.specs.declared.inner.Inner.{Inner}
use Rattle.an_policy.specs.declared.inner.Inner.TheVariants.{Public, Private, Names}
use Rattle.an_policy.proofs.InnerLaws.{inner-read-back, read-texts, read-valid}
use Rattle.an_rows.specs.Format.{can_say, group_texts, inner_name, inner_tree, is_one_text, text_items, texts_from, texts_of}
use Rattle.an_rows.specs.declared.format.Format.{Format}
use Rattle.an_rows.specs.declared.format.Format.TheVariants.{First, Second}
use Rattle.an_rows.proofs.WholeLemmas.{Fine, small-utf8, name-utf8, is_small}
use Rattle.an_rows.proofs.ReadLemmas.{texts-shallow}

-- ---- the texts of items

texts-items : (texts : List (List ℕ)) → texts_of (text_items texts) ≡ Some texts
texts-items [] = refl
texts-items (text ∷ texts) = rw (texts-items texts) refl

from-texts : (before : List (List ℕ)) (items : Items)
    → texts_from before items ≡ option_map (λ texts. before ++ texts) (texts_of items)
from-texts before no_items = ap (λ (l : List (List ℕ)). Some l) (sym (append-nil before))
from-texts before (item tree items) =
    by (as_str tree) (λ text. from-texts (before ++ text ∷ []) items)
  where
    joined : (text : List ℕ) (found : Option (List (List ℕ)))
        → option_map (λ texts. (before ++ text ∷ []) ++ texts) found
        ≡ option_map (λ texts. before ++ texts) (option_map (λ texts. text ∷ texts) found)
    joined text None = refl
    joined text (Some texts) =
        ap (λ (l : List (List ℕ)). Some l) (append_assoc before (text ∷ []) texts)

    by : (found : Option (List ℕ))
        → ((text : List ℕ)
        → texts_from (before ++ text ∷ []) items
        ≡ option_map (λ texts. (before ++ text ∷ []) ++ texts) (texts_of items))
        → option_and_then (λ text. texts_from (before ++ text ∷ []) items) found
        ≡ option_map (λ texts. before ++ texts)
        (option_and_then (λ text. option_map (λ texts. text ∷ texts) (texts_of items)) found)
    by None rest = refl
    by (Some text) rest = rest text ∙ joined text (texts_of items)

pub from-none : (items : Items) → texts_from [] items ≡ texts_of items
from-none items = from-texts [] items ∙ same (texts_of items)
  where
    same : (found : Option (List (List ℕ))) → option_map (λ texts. [] ++ texts) found ≡ found
    same None = refl
    same (Some texts) = refl

pub ruleset read_texts = (from-none)

-- ---- inner groups are read as they are written

the-text : (texts : List (List ℕ)) (i : Inner) → inner_texts i ≡ texts → is_one_text texts ≡ true
    → inner_text i ∷ [] ≡ inner_texts i
the-text [] i is one = absurd (cc)
the-text (text ∷ []) i is one = rw is refl
the-text (text ∷ other ∷ texts) i is one = absurd (cc)

pub written-read : (format : Format) (i : Inner) → is_valid_inner i ≡ true → can_say format i ≡ true
    → option_and_then inner_of (group_texts format (inner_tree format i)) ≡ Some i
written-read First i valid one =
    ap inner_of (the-text (inner_texts i) i refl one) ∙ inner-read-back i valid
written-read Second i valid one = rw (texts-items (inner_texts i)) (inner-read-back i valid)

-- ---- what is read

pub valid-read : (format : Format) (tree : Data) (i : Inner)
    → option_and_then inner_of (group_texts format tree) ≡ Some i → is_valid_inner i ≡ true
valid-read format tree i e = by (group_texts format tree) e
  where
    by : (found : Option (List (List ℕ))) → option_and_then inner_of found ≡ Some i
        → is_valid_inner i ≡ true
    by None e = absurd (cc)
    by (Some texts) e = read-valid texts i e

pub said-read : (format : Format) (tree : Data) (i : Inner)
    → option_and_then inner_of (group_texts format tree) ≡ Some i → can_say format i ≡ true
said-read First tree i e = by (as_str tree) e
  where
    by : (found : Option (List ℕ))
        → option_and_then inner_of (option_map (λ text. text ∷ []) found) ≡ Some i
        → is_one_text (inner_texts i) ≡ true
    by None e = absurd (cc)
    by (Some text) e = ap is_one_text (read-texts (text ∷ []) i e)
said-read Second tree i e = refl

-- ---- their values

name-text : (name : List ℕ) → is_group_name name ≡ true → is_utf8 name ≡ true
name-text name h = name-utf8 name (and_parts _ _ (and_parts _ _ h).0).0

names-whole : (names : List (List ℕ)) → list_all is_group_name names ≡ true
    → items_are_whole (text_items names) ≡ true
names-whole [] h = refl
names-whole (name ∷ names) h =
    let parts = and_parts (is_group_name name) _ h in
    and_from _ _ (name-text name parts.0) (names-whole names parts.1)

are-groups : (names : List (List ℕ)) → are_names names ≡ true → list_all is_group_name names ≡ true
unfolding are_names
are-groups names h =
    let named =
    and_parts ((nat_le 1 (length names) && nat_le (length names) 8) && list_all is_group_name names)
    (ascend_behind None names) h in
    (and_parts (nat_le 1 (length names) && nat_le (length names) 8)
    (list_all is_group_name names) named.0).1

texts-whole : (i : Inner) → is_valid_inner i ≡ true
    → items_are_whole (text_items (inner_texts i)) ≡ true
texts-whole Public h = and_from _ _ (small-utf8 (codes "public") refl) refl
texts-whole Private h = and_from _ _ (small-utf8 (codes "private") refl) refl
texts-whole (Names names) h = names-whole names (are-groups names h)

text-whole : (i : Inner) → is_valid_inner i ≡ true → is_one_text (inner_texts i) ≡ true
    → is_utf8 (inner_text i) ≡ true
text-whole Public h one = small-utf8 (codes "public") refl
text-whole Private h one = small-utf8 (codes "private") refl
text-whole (Names []) h one = absurd (cc)
text-whole (Names (name ∷ [])) h one =
    name-text name (and_parts (is_group_name name) true (are-groups (name ∷ []) h)).0
text-whole (Names (name ∷ other ∷ names)) h one = absurd (cc)

pub inner-shallow : (format : Format) (i : Inner) → depth (inner_tree format i) ≤ 1
inner-shallow First i = omega arith
inner-shallow Second i = omega (arith, texts-shallow (inner_texts i))

pub fine-inner : (format : Format) (i : Inner) → is_valid_inner i ≡ true → can_say format i ≡ true
    → Fine (inner_tree format i)
fine-inner First i h can = record { whole = text-whole i h can; shallow = omega arith }
fine-inner Second i h can =
    record { whole = texts-whole i h; shallow = omega (arith, inner-shallow Second i) }

pub small-inner_name : (format : Format) → list_all is_small (inner_name format) ≡ true
small-inner_name First = refl
small-inner_name Second = refl
