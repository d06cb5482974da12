-- What a harvest of a caller's own stream of changes reports (IIIF Change Discovery API 1.0).
use Rattle.std.specs.Prelude.{◌≡◌, ◌⊎◌, ℕ, List, [], ◌++◌, length, map, flat_map, codes, Bool}
use Rattle.std.specs.Prelude.{nat_lt, if◌then◌else◌, MatchBool, Option, Some, None}
use Rattle.an_code.specs.declared.code.Code.TheVariants as code
use Rattle.an_feed.specs.Served.{most_pages}
use Rattle.an_feed.specs.Told.{change_told}
use Rattle.an_harvest.specs.Live.{Ascend, IsLive}
use Rattle.an_harvest.specs.declared.known.KnownObject.{KnownObject}
use Rattle.an_list.specs.Page.{page_count}
use Rattle.an_list.specs.Site.{Site}
use Rattle.an_state.specs.State.{State}
use Rattle.an_state.specs.View.{View}
use Rattle.an_world.specs.Link.{Traffic}
use Rattle.an_lines.specs.Export.{no_reader, view_named}
use Rattle.an_lines.specs.Find.{Report}
use Rattle.an_lines.specs.Status.{Exchanges, TellsReport}
use Rattle.an_lines.specs.Stop.{refusal_line}
use Rattle.an_lines.specs.declared.status.Status.{Status}
use Rattle.an_lines.specs.declared.status.Status.TheVariants.{Done, Memory, Refused}

-- ---- what is printed

abbrev pub kind_text : Bool → List ℕ
kind_text manifest = if manifest then codes "Manifest " else codes "Annotation "

-- what an object is, and its IRI
abbrev pub object_line : KnownObject → List ℕ
object_line object = kind_text object.manifest ++ (object.id ++ codes "\n")

abbrev pub object_lines : List KnownObject → List ℕ
object_lines objects = flat_map object_line objects

-- the objects of a harvest are printed
abbrev pub objects_told : List KnownObject → Report
objects_told objects = record { status = Done; text = object_lines objects }

-- the last page of the stream can't be asked for
abbrev pub page_refused : Report
page_refused =
    record { status = Refused; text = refusal_line (record { line = 0; why = code.Page }) }

-- ---- which of them is

-- the stream of the view has so many pages that its last one can't be asked for
abbrev pub is_too_long : Site → View → Bool
is_too_long site view = nat_lt most_pages (page_count (length view.seen) site.size)

-- the manifests and annotations that live after all changes of the view, ascending by IRI, each
-- once
pub record AreHarvested (site : Site) (view : View) (objects : List KnownObject) : Type 0 where
  pub order : Ascend objects
  pub live : IsLive [] (map (change_told site.base) view.seen) objects

abbrev pub IsHarvestOf : Site → View → Report → Type 0
IsHarvestOf site view report = MatchBool (is_too_long site view) (report ≡ page_refused)
    ((objects : List KnownObject) × AreHarvested site view objects
    × (report ≡ objects_told objects))

-- what a harvest reports to who has this view; there is none where a name is no live reader's
abbrev pub IsHarvest : Site → Option View → Report → Type 0
IsHarvest site None report = report ≡ no_reader
IsHarvest site (Some view) report = IsHarvestOf site view report

-- How a harvest ends, by who is named so: it gives such a report, or memory ran out and nothing was
-- printed. `Failed` says that the count of write faults rose.
abbrev pub Harvests : Site → State → List ℕ → Type 0 → Option Traffic → Option Traffic → Status
    → Type 0
Harvests site s by Failed old new end =
    ((report : Report) × IsHarvest site (view_named s by) report
    × TellsReport report Failed old new end)
    ⊎ ((end ≡ Memory) × Exchanges [] [] old new)
