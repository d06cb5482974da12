-- What an annotation says (Web Annotation Data Model, section 3.2).
use Rattle.std.specs.Prelude.{ℕ, ◌+◌, List, [], ◌∷◌, ◌++◌, map, Bool, ◌&&◌, not, bytes_eq, codes}
use Rattle.std.specs.Prelude.{is_some, if◌then◌else◌, Option, Some, None, option_map}
use Rattle.std.specs.Prelude.{option_to_list}
use Rattle.std.specs.List.{filter_map}
use Rattle.std.specs.Option.{option_or}
use Rattle.serde_json.specs.Data.{Data, Items}
use Rattle.serde_json.specs.Find.{get, as_str, as_array}
use Rattle.an_base.specs.Items.{items_list, first_bad, trees_in}
use Rattle.an_base.specs.Member.{text_in}
use Rattle.an_base.specs.Outcome.{passes}
use Rattle.an_terms.specs.Html.{plain_of_html}
use Rattle.an_terms.specs.Terms.{occurrences_of}
use Rattle.an_terms.specs.declared.occurrence.Occurrence.{Occurrence}
use Rattle.an_model.specs.Targets.{iri_of, id_of}
use Rattle.an_model.specs.declared.occurrence.NoteOccurrence.{NoteOccurrence}

-- what a body is: a plain text, a text of HTML, the IRI of a resource, or a choice that isn't read
pub data Body : Type 0 where
  plain : List ℕ → Body
  html : List ℕ → Body
  iri : List ℕ → Body
  unread : Body

-- ---- one body

-- its format says that it is HTML
abbrev pub is_html : Data → Bool
is_html tree =
    passes (λ format. bytes_eq format (codes "text/html")) (text_in (codes "format") tree)

-- a text with the format that the tree says (Embedded Textual Body, section 3.2.4)
abbrev pub text_body : Data → List ℕ → Body
text_body tree text = if is_html tree then html text else plain text

abbrev pub by_value : Data → Data → Option Body
by_value tree value = option_map (text_body tree) (as_str value)

abbrev pub by_iri : Data → Option Body
by_iri tree = option_map iri (iri_of tree)

abbrev pub by_id : Data → Option Body
by_id tree = option_map iri (id_of tree)

-- an object with a text, or with an IRI
abbrev pub by_text_or_id : Data → Option Body
by_text_or_id tree =
    option_or (option_map (text_body tree) (text_in (codes "value") tree)) (by_id tree)

-- the source of a specific resource (section 4)
abbrev pub by_source : Data → Option Body
by_source source = if is_some (as_str source) then by_iri source else by_text_or_id source

-- a choice between bodies (section 3.2.7)
abbrev pub by_items : Data → Option Body
by_items items = option_map (λ choices. unread) (as_array items)

-- what a member says where it is there, or else the rest
abbrev pub read_by : Option Data → (Data → Option Body) → Option Body → Option Body
read_by None read rest = rest
read_by (Some member) read rest = read member

-- An IRI, or an object that is read by the first of these members that it has: `value`, `source`,
-- `id`, `items`.
abbrev pub body_of : Data → Option Body
body_of tree =
    read_by (get (codes "value") tree) (by_value tree)
    (read_by (get (codes "source") tree) by_source
    (read_by (get (codes "id") tree) by_iri
    (read_by (get (codes "items") tree) by_items (by_iri tree))))

abbrev pub is_body : Data → Bool
is_body tree = is_some (body_of tree)

-- ---- the bodies of an annotation: none, one or many, or one plain text in `bodyValue` (String
-- Body, section 3.2.5)

abbrev pub body_trees : Data → Items
body_trees tree = trees_in (codes "body") tree

-- a `bodyValue` is a text, and stands in place of a body
abbrev pub is_body_value : Data → Data → Bool
is_body_value tree value = is_some (as_str value) && not (is_some (get (codes "body") tree))

abbrev pub bad_body_from : Option Data → Data → Option ℕ
bad_body_from None tree = first_bad is_body (body_trees tree)
bad_body_from (Some value) tree = if is_body_value tree value then None else Some 0

-- the place of the first body that is malformed
unfoldable pub bad_body : Data → Option ℕ
bad_body tree = bad_body_from (get (codes "bodyValue") tree) tree

abbrev pub bodies_from : Option Data → Data → List Body
bodies_from None tree = filter_map body_of (items_list (body_trees tree))
bodies_from (Some value) tree = option_to_list (option_map plain (as_str value))

abbrev pub bodies_of : Data → List Body
bodies_of tree = bodies_from (get (codes "bodyValue") tree) tree

-- ---- the texts and the IRIs of bodies

abbrev pub text_of_body : Body → Option (List ℕ)
text_of_body (plain text) = Some text
text_of_body (html text) = Some (plain_of_html text)
text_of_body (iri text) = None
text_of_body unread = None

abbrev pub iri_of_body : Body → Option (List ℕ)
iri_of_body (plain text) = None
iri_of_body (html text) = None
iri_of_body (iri text) = Some text
iri_of_body unread = None

-- the plain texts, in order of the bodies
unfoldable pub texts_of : Data → List (List ℕ)
texts_of tree = filter_map text_of_body (bodies_of tree)

unfoldable pub iris_of : Data → List (List ℕ)
iris_of tree = filter_map iri_of_body (bodies_of tree)

-- ---- the words of the texts

-- a word of the text of this number
abbrev pub occurrence_in : ℕ → Occurrence → NoteOccurrence
occurrence_in number o = record { text = number; term = o.term; span = o.span }

-- the words of texts, the first of which has this number
abbrev pub occurrences_from : ℕ → List (List ℕ) → List NoteOccurrence
occurrences_from number [] = []
occurrences_from number (text ∷ texts) =
    map (occurrence_in number) (occurrences_of text) ++ occurrences_from (number + 1) texts

unfoldable pub note_occurrences : Data → List NoteOccurrence
note_occurrences tree = occurrences_from 0 (texts_of tree)

-- the terms of an annotation, each as often as it occurs
unfoldable pub note_terms : Data → List (List ℕ)
note_terms tree = map (λ o. o.term) (note_occurrences tree)

-- the terms of the words of a text, each as often as it occurs
abbrev pub terms_in : List ℕ → List (List ℕ)
terms_in text = map (λ o. o.term) (occurrences_of text)
