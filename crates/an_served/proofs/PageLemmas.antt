-- How the text of the page of a canvas parts at the canvas's number.
use Rattle.std.proofs.Common.{length, ◌≤◌, min, ◌≡◌, ℕ, ◌<◌, ◌^◌, List, [], ◌∷◌, ◌++◌, codes, decimal, refl, sym, ap, ap₂, ◌∙◌, append_assoc, arith}
use Rattle.std.proofs.lemmas.Fmt.{decimal_is_IsNumeral}
use Rattle.std.proofs.lemmas.List.Concat.{flat_map-append}
use Rattle.std.proofs.lemmas.Str.Parse.{digit_from_value}
use Rattle.std.specs.Char.{digit_value}
use Rattle.std.specs.Str.Parse.{AllDigits}
use Rattle.json.proofs.Printed.Strings.{escape_byte_plain}
use Rattle.json.specs.Print.{escape, escape_byte}
use Rattle.serde_json.specs.Data.{Data, array, Items, no_items, item}
use Rattle.serde_json.specs.Written.{compact_text}
use Rattle.serde_json.proofs.OnLiterals.{serde_json_on_literals}
use Rattle.an_base.specs.Write.{name_text, member_text, item_text, item_commas}
use Rattle.an_iri.specs.Iris.{manifest_iri, canvas_page_iri}
use Rattle.an_served.specs.Manifest.{canvas_page}
use Rattle.an_served.specs.ManifestParts.{page_front, piece}
use Rattle.an_served.proofs.PushLemmas.{piece-past}

digit-stays : (d : ℕ) → digit_value d < 10 → escape_byte d ≡ d ∷ []
digit-stays d h =
    let (low, high) = digit_from_value d h in
    escape_byte_plain d (λ e. omega (arith, low, high, e)) (λ e. omega (arith, low, high, e))
    (omega (arith, low))

digits-stay : (ds : List ℕ) → AllDigits 10 ds → escape ds ≡ ds
digits-stay [] h = refl
digits-stay (d ∷ ds) h = ap₂ (λ a b. a ++ b) (digit-stays d h.0) (digits-stay ds h.1)

canvases-stays : (text : List ℕ)
    → escape (codes "/canvases/" ++ text) ≡ codes "/canvases/" ++ escape text
unfolding escape_byte
canvases-stays text = refl

page-stays : escape (codes "?page=1") ≡ codes "?page=1"
unfolding escape_byte
page-stays = refl

module _ (base name : List ℕ) (number : ℕ) (few : number < 2 ^ 64) where
  parted_iri : canvas_page_iri base name number
      ≡ manifest_iri base name ++ (codes "/canvases/" ++ (decimal number ++ codes "?page=1"))
  parted_iri =
      let rest = codes "/canvases/" ++ (decimal number ++ codes "?page=1") in
      sym (append_assoc base (codes "/manifests/" ++ name) rest
      ∙ ap (λ t. base ++ t) (append_assoc (codes "/manifests/") name rest))

  escaped_iri : escape (canvas_page_iri base name number)
      ≡ escape (manifest_iri base name)
      ++ (codes "/canvases/" ++ (decimal number ++ codes "?page=1"))
  escaped_iri =
      ap escape parted_iri
      ∙ flat_map-append escape_byte (manifest_iri base name)
      (codes "/canvases/" ++ (decimal number ++ codes "?page=1"))
      ∙ ap (λ t. escape (manifest_iri base name) ++ t) (
      canvases-stays (decimal number ++ codes "?page=1")
      ∙ ap (λ t. codes "/canvases/" ++ t) (
      flat_map-append escape_byte (decimal number) (codes "?page=1")
      ∙ ap₂ (λ a b. a ++ b)
      (digits-stay (decimal number) (decimal_is_IsNumeral number few).0.1) page-stays
      )
      )

  whole : compact_text (canvas_page base name number)
      ≡ codes "{\"id\":\""
      ++ ((escape (canvas_page_iri base name number) ++ 34 ∷ [])
      ++ codes ",\"type\":\"AnnotationPage\"}")
  unfolding serde_json_on_literals
  whole = refl

  joined : (m : List ℕ)
      → (m ++ (codes "/canvases/" ++ (decimal number ++ codes "?page=1")) ++ 34 ∷ [])
      ++ codes ",\"type\":\"AnnotationPage\"}"
      ≡ (m ++ codes "/canvases/")
      ++ (decimal number ++ codes "?page=1\",\"type\":\"AnnotationPage\"}")
  joined m =
      let end = codes "?page=1" in
      let quote = codes "\"" in
      let last = codes ",\"type\":\"AnnotationPage\"}" in
      append_assoc (m ++ (codes "/canvases/" ++ (decimal number ++ end))) quote last
      ∙ append_assoc m (codes "/canvases/" ++ (decimal number ++ end)) (quote ++ last)
      ∙ ap (λ t. m ++ (codes "/canvases/" ++ t)) (append_assoc (decimal number) end (quote ++ last))
      ∙ sym (append_assoc m (codes "/canvases/")
      (decimal number ++ codes "?page=1\",\"type\":\"AnnotationPage\"}"))

  pub page_parts : compact_text (canvas_page base name number)
      ≡ page_front base name ++ (decimal number ++ codes "?page=1\",\"type\":\"AnnotationPage\"}")
  unfolding page_front
  page_parts =
      whole
      ∙ ap (λ t. codes "{\"id\":\"" ++ ((t ++ 34 ∷ []) ++ codes ",\"type\":\"AnnotationPage\"}"))
      escaped_iri
      ∙ ap (λ t. codes "{\"id\":\"" ++ t) (joined (escape (manifest_iri base name)))

-- ---- the part before the number

pub front_quoted : (iri out text : List ℕ) → out ≡ codes "{\"id\":" → text ≡ iri
    → out ++ (34 ∷ (escape text ++ 34 ∷ [])) ≡ (codes "{\"id\":\"" ++ escape iri) ++ 34 ∷ []
front_quoted iri out text start is = ap₂ (λ a b. a ++ (34 ∷ (escape b ++ 34 ∷ []))) start is

pub front_whole : (base name : List ℕ)
    → (codes "{\"id\":\"" ++ escape (manifest_iri base name)) ++ codes "/canvases/"
    ≡ page_front base name
unfolding page_front
front_whole base name = refl

-- ---- the only page of a canvas

none-written : (values : Items) → item_commas values ≡ [] → values ≡ no_items
unfolding item_text
none-written no_items e = refl
none-written (item value values) e = absurd (cc)

pub none_kept : (text : List ℕ) (first last : ℕ) (values : Items)
    → piece text first last ≡ item_commas values → min last (length text) ≤ first
    → values ≡ no_items
none_kept text first last values is past =
    none-written values (sym is ∙ piece-past text first last past)

pub only_written : (one : Data) (out a b c page : List ℕ) → a ≡ out ++ codes ",\"annotations\":["
    → b ≡ a ++ page → c ≡ b ++ 93 ∷ [] → page ≡ compact_text one
    → c ≡ out ++ member_text (codes "annotations") (array (item one no_items))
unfolding member_text name_text escape_byte
only_written one out a b c page first middle last is =
    let head = codes ",\"annotations\":[" in
    last ∙ ap (λ t. t ++ 93 ∷ []) (middle ∙ ap₂ (λ s t. s ++ t) first is)
    ∙ append_assoc (out ++ head) (compact_text one) (93 ∷ [])
    ∙ append_assoc out head (compact_text one ++ 93 ∷ [])
