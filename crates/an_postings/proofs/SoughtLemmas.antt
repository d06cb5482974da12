-- What is found by a term's number and its text is found by the text.
use Rattle.std.proofs.Common.{◌≡◌, ℕ, List, Option, String, string_bytes, subst, ap₂, ◌∙◌}
use Rattle.std.proofs.lemmas.Map.Text.{text_cmp}
use Rattle.std.proofs.lemmas.Str.{IsUtf8-string_bytes}
use Rattle.std.specs.BTreeMap.{is_at}
use Rattle.std.specs.Map.{lookup, remove_entry, set_value}
use Rattle.std.specs.Str.{IsUtf8}
use Rattle.std.specs.declared.cmp.Ordering.{Ordering}
use Rattle.an_postings.specs.Heads.{head_cmp, head_of}
use Rattle.an_postings.specs.HeadOrder.{head_order}

pub sought_as_text : {Y : Type 0} (head : ℕ) (text term : List ℕ) → head ≡ head_of term
    → text ≡ term → IsUtf8 term
    → (λ (k : String Y). head_cmp head text (string_bytes k)) ≡ text_cmp term
sought_as_text head text term h t u =
    λ i k. (ap₂ (λ m bs. head_cmp m bs (string_bytes k)) h t
    ∙ head_order term (string_bytes k) u (IsUtf8-string_bytes k)) i

module _ {K V : Type 0} {f g : K → Ordering} (same : f ≡ g) where
  pub found_by : (es : List (K × V)) (o : Option V) → lookup (is_at f) es ≡ o
      → lookup (is_at g) es ≡ o
  found_by es o found = subst (λ (c : K → Ordering). lookup (is_at c) es ≡ o) same found

  pub set_by : (es new : List (K × V)) (w : V) → new ≡ set_value (is_at f) es w
      → new ≡ set_value (is_at g) es w
  set_by es new w set = subst (λ (c : K → Ordering). new ≡ set_value (is_at c) es w) same set

  pub removed_by : (es new : List (K × V)) → new ≡ remove_entry (is_at f) es
      → new ≡ remove_entry (is_at g) es
  removed_by es new removed =
      subst (λ (c : K → Ordering). new ≡ remove_entry (is_at c) es) same removed
