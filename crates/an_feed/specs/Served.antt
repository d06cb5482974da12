-- A fetch that gets the stream of a view as it is served, and what a harvest of it comes to.
use Rattle.std.specs.Prelude.{◌≡◌, ℕ, ◌≤◌, ◌<◌, ◌^◌, List, length, map, drop, codes, IsTrue, ⊤, Ok}
use Rattle.std.specs.Prelude.{Result}
use Rattle.std.specs.List.{All}
use Rattle.an_state.specs.View.{View}
use Rattle.an_state.specs.declared.activity.Seen.{Seen}
use Rattle.an_list.specs.Page.{page_count}
use Rattle.an_list.specs.Site.{Site, is_base, is_size}
use Rattle.an_stream.specs.Stream.{changes_of, changes_page_of}
use Rattle.an_list.specs.declared.error.ReadError.{ReadError}
use Rattle.an_harvest.specs.Walk.{Walk, Gets, Stops, Ends}
use Rattle.an_harvest.specs.declared.fetch.Got.{Got}
use Rattle.an_feed.specs.Told.{IsTold, change_told, page_target}

-- the last page that can be asked for
abbrev pub most_pages : ℕ
most_pages = 999999999

-- what may be got for the stream, and for each page that it has, is what is served of it
pub record Serves
    (site : Site) (view : View) (answers : List ℕ → Got → Type 0) : Type 0 where
  pub stream : (got : Got) → answers (codes "/changes") got
      → got ≡ record { status = 200; body = changes_of site view }
  pub pages : (page : ℕ) (body : List ℕ) (got : Got) → page ≤ most_pages
      → ◌≡◌ {A = Result (List ℕ) ReadError} (changes_page_of site view page) (Ok body)
      → answers (page_target page) got → got ≡ record { status = 200; body = body }

-- settings as they are read, changes as a valid state has them, of which so many are known
pub record IsServed (site : Site) (view : View) (known : ℕ) : Type 0 where
  pub base : IsTrue (is_base site.base)
  pub size : IsTrue (is_size site.size)
  pub changes : All IsTold view.seen
  pub few : length view.seen < 2 ^ 64
  pub pages : page_count (length view.seen) site.size ≤ most_pages
  pub within : known ≤ length view.seen

-- the walk never stops, and where it ends it has every change after those that are known
abbrev pub HasAll : List ℕ → List Seen → ℕ → Walk → Type 0
HasAll base seen known (Gets target) = ⊤
HasAll base seen known (Stops error) = ⊥
HasAll base seen known (Ends total changes) =
    (total ≡ length seen) × (changes ≡ map (change_told base) (drop known seen))
