-- Trees whose selectors are computed.
use Rattle.std.proofs.Common.{◌≡◌, ℕ, List, [], None, Ok, Err, refl}
use Rattle.std.specs.Prelude.{codes}
use Rattle.serde_json.specs.Data.{unsigned, Data, null, number, string, array, object, no_items, item, Members, no_members, member}
use Rattle.an_selectors.specs.declared.selector.Selector.TheVariants.{Fragment, Quote, Position, Other}
use Rattle.an_selectors.specs.declared.selector.SelectorError.TheVariants as error
use Rattle.an_selectors.specs.Selector.{selector_of}

-- an object of one type
abbrev typed : List ℕ → Members → Data
typed name members = object (member (codes "type") (string name) members)

position : ℕ → ℕ → Data
position start end =
    object (member (codes "end") (number (unsigned end))
    (member (codes "start") (number (unsigned start))
    (member (codes "type") (string (codes "TextPositionSelector")) no_members)))

start_above_end : selector_of (position 3 2) ≡ Err error.Order
unfolding position
start_above_end = refl

greatest_end : selector_of (position 0 4294967295) ≡ Ok (Position 0 4294967295)
unfolding position
greatest_end = refl

end_too_great : selector_of (position 0 4294967296) ≡ Err error.Value
unfolding position
end_too_great = refl

-- the members are whole before their order is asked
no_end : selector_of (object
    (member (codes "start") (number (unsigned 3))
    (member (codes "type") (string (codes "TextPositionSelector")) no_members))) ≡ Err error.Value
no_end = refl

no_exact : selector_of (typed (codes "TextQuoteSelector") no_members) ≡ Err error.Value
no_exact = refl

exact_alone : selector_of
    (object (member (codes "exact") (string (codes "b"))
    (member (codes "type") (string (codes "TextQuoteSelector")) no_members)))
    ≡ Ok (Quote (codes "b") [] [])
exact_alone = refl

prefix_null : selector_of
    (object (member (codes "exact") (string (codes "b"))
    (member (codes "prefix") null
    (member (codes "type") (string (codes "TextQuoteSelector")) no_members))))
    ≡ Err error.Value
prefix_null = refl

no_type : selector_of (object no_members) ≡ Err error.WrongType
no_type = refl

type_null : selector_of (object (member (codes "type") null no_members)) ≡ Err error.WrongType
type_null = refl

no_object : selector_of null ≡ Err error.WrongType
no_object = refl

iri : selector_of (string (codes "http://a.example/s")) ≡ Ok Other
iri = refl

unknown_type : selector_of
    (typed (codes "SvgSelector") (member (codes "value") (string (codes "<svg/>")) no_members))
    ≡ Ok Other
unknown_type = refl

no_types : selector_of (object (member (codes "type") (array no_items) no_members)) ≡ Ok Other
no_types = refl

conforms_absent : selector_of
    (typed (codes "FragmentSelector") (member (codes "value") (string (codes "t")) no_members))
    ≡ Ok (Fragment (codes "t") None)
conforms_absent = refl

conforms_null : selector_of
    (object (member (codes "conformsTo") null
    (member (codes "type") (string (codes "FragmentSelector"))
    (member (codes "value") (string (codes "t")) no_members))))
    ≡ Err error.Value
conforms_null = refl

-- a fragment counts before a quote, wherever it stands among the types
fragment_first : selector_of (object (member (codes "exact") (string (codes "b"))
    (member (codes "type") (array
    (item (string (codes "TextQuoteSelector")) (item (string (codes "FragmentSelector")) no_items)))
    (member (codes "value") (string (codes "t")) no_members))))
    ≡ Ok (Fragment (codes "t") None)
fragment_first = refl
