-- Selectors (Web Annotation Data Model, section 4.2): the one that a tree describes, or why it
-- describes none.
use Rattle.std.specs.Prelude.{ℕ, ◌^◌, List, [], Bool, ◌||◌, codes, nat_lt, is_some, if◌then◌else◌}
use Rattle.std.specs.Prelude.{Option, Some, None, option_map, option_and_then, unwrap_or, Result}
use Rattle.std.specs.Prelude.{Ok, Err}
use Rattle.serde_json.specs.Data.{Data, Items}
use Rattle.serde_json.specs.Find.{get, as_str, as_number, as_u64, as_array}
use Rattle.an_base.specs.Outcome.{only_if, or_refuse}
use Rattle.an_base.specs.Member.{text_in, has_item}
use Rattle.an_base.specs.Tree.{one_or_many}
use Rattle.an_selectors.specs.declared.selector.Selector.{Selector}
use Rattle.an_selectors.specs.declared.selector.Selector.TheVariants.{Fragment, Quote, Position}
use Rattle.an_selectors.specs.declared.selector.Selector.TheVariants.{Other}
use Rattle.an_selectors.specs.declared.selector.SelectorError.{SelectorError}
use Rattle.an_selectors.specs.declared.selector.SelectorError.TheVariants as error

-- ---- the types of an object

-- a type is said by a string, or by an array
abbrev pub says_type : Data → Bool
says_type value = is_some (as_str value) || is_some (as_array value)

-- the types that an object says, where its member `type` says any
abbrev pub types_in : Data → Option Items
types_in tree =
    option_map one_or_many (option_and_then (only_if says_type) (get (codes "type") tree))

-- ---- the members of a selector

-- a text that may be absent; what is there and no text is refused
abbrev pub optional_text : Option Data → Option (Option (List ℕ))
optional_text None = Some None
optional_text (Some value) = option_map Some (as_str value)

abbrev pub optional_text_in : List ℕ → Data → Option (Option (List ℕ))
optional_text_in name tree = optional_text (get name tree)

-- a whole number from 0 to 4,294,967,295
abbrev pub number_in : List ℕ → Data → Option ℕ
number_in name tree =
    option_and_then (only_if (λ n. nat_lt n (2 ^ 32))) (option_and_then as_u64
    (option_and_then as_number (get name tree)))

-- ---- the kinds of selector

-- a Fragment Selector (section 4.2.1)
abbrev pub fragment_of : Data → Result Selector SelectorError
fragment_of tree =
    or_refuse error.Value (text_in (codes "value") tree) (λ value.
    or_refuse error.Value (optional_text_in (codes "conformsTo") tree) (λ conforms.
    Ok (Fragment value conforms)))

-- a Text Quote Selector (section 4.2.4); without `prefix` or `suffix` that is the empty text
abbrev pub quote_of : Data → Result Selector SelectorError
quote_of tree =
    or_refuse error.Value (text_in (codes "exact") tree) (λ exact.
    or_refuse error.Value (optional_text_in (codes "prefix") tree) (λ prefix.
    or_refuse error.Value (optional_text_in (codes "suffix") tree) (λ suffix.
    Ok (Quote exact (unwrap_or prefix []) (unwrap_or suffix [])))))

-- a Text Position Selector (section 4.2.5)
abbrev pub position_of : Data → Result Selector SelectorError
position_of tree =
    or_refuse error.Value (number_in (codes "start") tree) (λ start.
    or_refuse error.Value (number_in (codes "end") tree) (λ end.
    if nat_lt end start then Err error.Order else Ok (Position start end)))

-- by the types of an object: of several that are known, the first of these three counts
abbrev pub selector_of_types : Items → Data → Result Selector SelectorError
selector_of_types types tree =
    if has_item (codes "FragmentSelector") types then fragment_of tree
    else (if has_item (codes "TextQuoteSelector") types then quote_of tree
    else (if has_item (codes "TextPositionSelector") types then position_of tree
    else Ok Other))

-- The selector that a tree describes, or the refusal. A string is the IRI of a selector that stands
-- elsewhere.
abbrev pub selector_of : Data → Result Selector SelectorError
selector_of tree =
    if is_some (as_str tree) then Ok Other
    else or_refuse error.WrongType (types_in tree) (λ types. selector_of_types types tree)
