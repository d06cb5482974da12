use Rattle.std.proofs.Common.{◌≡◌, ◌+◌, ◌++◌, drop, map}
use Rattle.std.specs.Prelude.{slice_get}
use Rattle.std.specs.List.{filter_map}
use Rattle.serde_json.specs.View.{items_of}
use Rattle.an_base.specs.Write.{item_commas}
use Rattle.an_pages.specs.Container.{iri_item}
use Rattle.an_pages.proofs.items.iris_at.Given as goal

-- the IRIs that are left stand behind those so far, and each place took a step
abbrev pub invariant-loop-place : goal.invariant-loop-place
invariant-loop-place g l =
    let notes = (g.T.Look.state l.look).notes in
    (l.items.items
    ++ item_commas
    (items_of (map (iri_item l.base) (filter_map (slice_get notes) (drop l.place-index l.places))))
    ≡ item_commas (items_of (map (iri_item l.base) (filter_map (slice_get notes) l.places))))
    × (l.steps ≡ l.fn.steps + l.place-index)
