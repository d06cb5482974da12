-- A harvest over a look at a valid state is never refused, and has every change of the view.
use Rattle.std.proofs.Common.{◌≡◌, ℕ, ◌<◌, ◌≤◌, ◌^◌, ◌⊎◌, inl, inr, ⊎_elim, Bool, true, false, ◌&&◌, List, [], ◌∷◌, map, drop, length, codes, Option, Some, None, IsSome, MatchBool, Result, Ok, Err, IfOk, IfErr, refl, sym, ap, ◌∙◌, subst, arith}
use Rattle.std.specs.Prelude.{IsTrue, option_map}
use Rattle.std.specs.List.{All, AllByRecursion, cons_option, list_all}
use Rattle.std.proofs.lemmas.Bool.{and_parts, false≢true}
use Rattle.std.proofs.lemmas.List.Elements.{All-from_recursion}
use Rattle.an_base.specs.Faults.{Rises}
use Rattle.an_base.specs.Moment.{is_moment}
use Rattle.an_base.specs.Name.{is_name}
use Rattle.an_base.proofs.MomentTest as moment
use Rattle.an_feed.specs.Served.{HasAll, IsServed, most_pages}
use Rattle.an_feed.specs.Told.{IsNamed, IsTold, change_told}
use Rattle.an_feed.proofs.HarvestLemmas.{harvested}
use Rattle.an_harvest.specs.Feed.{Change}
use Rattle.an_harvest.specs.Live.{Harvest, IsLive}
use Rattle.an_harvest.specs.Walk.{AreAnswers, ComesTo, Ends, Gets, IfRefused, Stops, Walk, walk}
use Rattle.an_harvest.specs.declared.fetch.Got.{Got}
use Rattle.an_harvest.specs.declared.harvesting.HarvestError.{HarvestError}
use Rattle.an_harvest.specs.declared.harvesting.HarvestError.TheVariants as error
use Rattle.an_harvest.specs.declared.known.KnownObject.{KnownObject}
use Rattle.an_list.specs.Page.{page_count}
use Rattle.an_list.specs.Site.{Site, is_base, is_size}
use Rattle.an_policy.specs.Audience.{Identity, anonymous}
use Rattle.an_policy.specs.Seen.{as_seen}
use Rattle.an_policy.specs.declared.kind.Kind.{Kind}
use Rattle.an_rows.specs.Valid.{if_any, is_valid, is_valid_activity, is_valid_audience, is_valid_manifest_row, is_valid_note_row, is_valid_reader_row}
use Rattle.an_state.specs.State.{State}
use Rattle.an_state.specs.View.{View, object_of_activity, seen_by, view_for}
use Rattle.an_state.specs.declared.activity.Activity.{Activity}
use Rattle.an_state.specs.declared.command.Object.TheVariants as object
use Rattle.an_answers.specs.Fetch.{Asked, got_at}
use Rattle.an_answers.proofs.FetchLemmas.{nobody, serves}
use Rattle.an_world.specs.Link.{Traffic}
use Rattle.an_lines.specs.Export.{view_named}
use Rattle.an_lines.specs.Find.{Report}
use Rattle.an_lines.specs.Harvest.{AreHarvested, Harvests, IsHarvest, is_too_long, objects_told, page_refused}
use Rattle.an_lines.specs.Status.{IsUnfailing, TellsReport}
use Rattle.an_lines.specs.declared.status.Status.{Status}
use Rattle.an_lines.specs.declared.status.Status.TheVariants as status
use Rattle.an_lines.proofs.StatusLemmas.{TellsReport-kept, TellsReport-shut, TellsReport-unfailing}
use Rattle.an_lines.specs.Told.{IsTold as IsKnown}

-- ---- a valid state has changes of manifests and annotations only, with names that are names

activity-told : (a : Activity) (kind : Kind) → is_valid_activity a ≡ true
    → IsTold (record { moment = a.at; object = object_of_activity a; kind = kind })
unfolding is_valid_activity
activity-told a kind valid =
    let seen =
    and_parts (is_moment a.at && if_any is_name a.by && if_any is_name a.owner && is_name a.name
    && if_any (is_valid_audience a.owner) a.before && if_any (is_valid_audience a.owner) a.after) _
    valid in
    let after =
    and_parts (is_moment a.at && if_any is_name a.by && if_any is_name a.owner && is_name a.name
    && if_any (is_valid_audience a.owner) a.before) _ seen.0 in
    let before =
    and_parts (is_moment a.at && if_any is_name a.by && if_any is_name a.owner && is_name a.name)
    _ after.0 in
    let name =
    and_parts (is_moment a.at && if_any is_name a.by && if_any is_name a.owner) _ before.0 in
    let owner = and_parts (is_moment a.at && if_any is_name a.by) _ name.0 in
    let by = and_parts (is_moment a.at) _ owner.0 in
    record { moment = (moment.told a.at).0 by.0; named = named a.owner a.name owner.1 name.1 }
  where
    named : (owner : Option (List ℕ)) (name : List ℕ) → if_any is_name owner ≡ true
        → is_name name ≡ true
        → IsNamed (elim owner [ None ↦ object.Manifest name | Some owner ↦ object.Note owner name ])
    named None name owned is = is
    named (Some owner) name owned is = (owned, is)

seen-told : (who : Identity) (activities : List Activity)
    → list_all is_valid_activity activities ≡ true → AllByRecursion IsTold (seen_by who activities)
seen-told who [] valid = tt
seen-told who (a ∷ activities) valid =
    let parts = and_parts (is_valid_activity a) _ valid in
    by (as_seen who a.before a.after) parts.0 (seen-told who activities parts.1)
  where
    by : (kind : Option Kind) → is_valid_activity a ≡ true
        → AllByRecursion IsTold (seen_by who activities)
        → AllByRecursion IsTold (cons_option
        (option_map
        (λ kind. record { moment = a.at; object = object_of_activity a; kind = kind }) kind)
        (seen_by who activities))
    by None valid rest = rest
    by (Some kind) valid rest = (activity-told a kind valid, rest)

-- the changes of a view of a valid state
pub view-told : (s : State) (who : Option Identity) → IsTrue (is_valid s)
    → All IsTold (view_for s who).seen
unfolding is_valid
view-told s who valid = All-from_recursion IsTold (view_for s who).seen (by who)
  where
    activities : list_all is_valid_activity s.activities ≡ true
    activities =
        (and_parts (list_all is_valid_reader_row s.readers
        && list_all is_valid_manifest_row s.manifests && list_all is_valid_note_row s.notes) _
        valid).1

    by : (who : Option Identity) → AllByRecursion IsTold (view_for s who).seen
    by None = seen-told anonymous s.activities activities
    by (Some who) = seen-told who s.activities activities

-- ---- what a harvest over a look comes to

-- the settings and the view of a valid state are as a harvest wants them
pub settled-by : (s : State) (site : Site) (who : Option Identity) (known : ℕ) → IsTrue (is_valid s)
    → IsTrue (is_base site.base) → IsTrue (is_size site.size)
    → length (view_for s who).seen < 2 ^ 64
    → page_count (length (view_for s who).seen) site.size ≤ most_pages
    → known ≤ length (view_for s who).seen
    → IsServed site (view_for s who) known
settled-by s site who known valid based sized few pages within = record {
  base = based;
  size = sized;
  changes = view-told s who valid;
  few = few;
  pages = pages;
  within = within;
}

-- who isn't nobody has a view of its own
signed : (s : State) (who : Option Identity) → IsSome who → IsSome (view_for s who).who
signed s None some = absurd (false≢true some)
signed s (Some who) some = refl

unsigned : (s : State) (who : Option Identity) → who ≡ None → (view_for s who).who ≡ None
unsigned s None is = refl
unsigned s (Some who) is = absurd (cc is)

-- a fetch that never fails
unfailed : (e : HarvestError) → (e ≡ error.Fetch → Rises 0 0) → ¬ (e ≡ error.Fetch)
unfailed e fault is = let rises : 0 < 0 = fault is (omega arith) in omega (arith, rises)

abbrev pub Gets_of : Asked → List ℕ → Got → Type 0
Gets_of asked target got = got ≡ got_at asked target

module _ (s : State) (site : Site) (who : Option Identity) (known : ℕ)
    (settled : IsServed site (view_for s who) known) where
  abbrev asked : Asked
  asked = record { site = site; view = view_for s who }

  -- somebody's walk is of what is served
  comes : IsSome who → (outcome : Walk) → ComesTo (Gets_of asked) (walk site.base known) outcome
      → HasAll site.base (view_for s who).seen known outcome
  comes some outcome by =
      harvested site (view_for s who) known settled (Gets_of asked)
      (serves site (view_for s who) (signed s who some)) outcome by

  -- nobody's walk stops at once
  stops-at : (gots : List Got) → who ≡ None → AreAnswers (Gets_of asked) (walk site.base known) gots
      → (walk site.base known gots ≡ Gets (codes "/changes"))
      ⊎ (walk site.base known gots ≡ Stops (error.Status 401))
  stops-at [] none answers = inl refl
  stops-at (got ∷ gots) none answers =
      let status : got.status ≡ 401 =
      ap (λ (got : Got). got.status) answers.0
      ∙ nobody site (view_for s who) (unsigned s who none) in
      inr (ap
      (λ (status : ℕ). walk site.base known (record { status = status; body = got.body } ∷ gots))
      status)

  refused-so : (e : HarvestError) → who ≡ None
      → ComesTo (Gets_of asked) (walk site.base known) (Stops e) → e ≡ error.Status 401
  refused-so e none (gots, answers, is) =
      ⊎_elim (λ gets. absurd (stops≢gets (sym is ∙ gets))) (λ stops. same-stop (sym is ∙ stops))
      (stops-at gots none answers)
    where
      stops≢gets : Stops e ≡ Gets (codes "/changes") → ⊥
      stops≢gets is = cc is

      same-stop : Stops e ≡ Stops (error.Status 401) → e ≡ error.Status 401
      same-stop is = cc is

  never-ends : (items : ℕ) (changes : List Change) → who ≡ None
      → ComesTo (Gets_of asked) (walk site.base known) (Ends items changes) → ⊥
  never-ends items changes none (gots, answers, is) =
      ⊎_elim (λ gets. ends≢gets (sym is ∙ gets)) (λ stops. ends≢stops (sym is ∙ stops))
      (stops-at gots none answers)
    where
      ends≢gets : Ends items changes ≡ Gets (codes "/changes") → ⊥
      ends≢gets is = cc is

      ends≢stops : Ends items changes ≡ Stops (error.Status 401) → ⊥
      ends≢stops is = cc is

  never-refused : (e : HarvestError) → IsSome who → ¬ (e ≡ error.Fetch)
      → IfRefused e (ComesTo (Gets_of asked) (walk site.base known) (Stops e)) → e ≡ error.Memory
  never-refused error.Fetch some unfailed refused = absurd (unfailed refl)
  never-refused (error.Status status) some unfailed refused =
      absurd (comes some (Stops (error.Status status))
      (refused (λ is. absurd (cc is)) (λ is. absurd (cc is))))
  never-refused (error.Form target) some unfailed refused =
      absurd (comes some (Stops (error.Form target))
      (refused (λ is. absurd (cc is)) (λ is. absurd (cc is))))
  never-refused error.Memory some unfailed refused = refl

-- ---- the clauses of a call over such a fetch

module _ (s : State) (site : Site) (who : Option Identity) (known : ℕ) (base : List ℕ)
    (asked : Asked) (settled : IsServed site (view_for s who) known)
    (based : base ≡ site.base)
    (is-asked : asked ≡ record { site = site; view = view_for s who }) where
  abbrev pub Comes : Walk → Type 0
  Comes outcome = ComesTo (Gets_of asked) (walk base known) outcome

  abbrev pub Found : List KnownObject → Harvest → Type 0
  Found objects found =
      (changes : List Change) × Comes (Ends found.items changes)
      × IsLive objects changes found.objects

  abbrev pub Refused : HarvestError → Type 0
  Refused e = IfRefused e (Comes (Stops e))

  over : (outcome : Walk) → Comes outcome
      → ComesTo (Gets_of (record { site = site; view = view_for s who }))
      (walk site.base known) outcome
  over outcome by =
      subst (λ base.
      ComesTo (Gets_of (record { site = site; view = view_for s who })) (walk base known) outcome)
      based
      (subst (λ asked. ComesTo (Gets_of asked) (walk base known) outcome) is-asked by)

  all-found : (found : Harvest) (changes : List Change) → Comes (Ends found.items changes)
      → (found.items ≡ length (view_for s who).seen)
      × (changes ≡ map (change_told site.base) (drop known (view_for s who).seen))
  all-found found changes by = by_who who refl
    where
      by_who : (o : Option Identity) → who ≡ o
          → (found.items ≡ length (view_for s who).seen)
          × (changes ≡ map (change_told site.base) (drop known (view_for s who).seen))
      by_who None is =
          absurd (never-ends s site who known settled found.items changes is
          (over (Ends found.items changes) by))
      by_who (Some name) is =
          comes s site who known settled (subst IsSome (sym is) refl) (Ends found.items changes)
          (over (Ends found.items changes) by)

  pub look-items : (objects : List KnownObject) (result : Result Harvest HarvestError)
      → IfOk result (Found objects)
      → IfOk result (λ found. found.items ≡ length (view_for s who).seen)
  look-items objects (Err e) live = tt
  look-items objects (Ok found) (changes, by, live) = (all-found found changes by).0

  pub look-live : (objects : List KnownObject) (result : Result Harvest HarvestError)
      → IfOk result (Found objects)
      → IfOk result (λ found.
      IsLive objects (map (change_told site.base) (drop known (view_for s who).seen)) found.objects)
  look-live objects (Err e) live = tt
  look-live objects (Ok found) (changes, by, live) =
      subst (λ changes. IsLive objects changes found.objects) (all-found found changes by).1 live

  pub look-somebody : {A : Type 0} (result : Result A HarvestError)
      → (result ≡ Err error.Fetch → Rises 0 0) → IfErr result Refused → IsSome who
      → IfErr result (λ e. e ≡ error.Memory)
  look-somebody (Ok found) fault refused some = tt
  look-somebody (Err e) fault refused some =
      never-refused s site who known settled e some (unfailed e (λ is. fault (ap Err is)))
      (λ one other. over (Stops e) (refused one other))

  pub look-nobody : (objects : List KnownObject) (result : Result Harvest HarvestError)
      → IfOk result (Found objects) → who ≡ None → IfOk result (λ found. ⊥)
  look-nobody objects (Err e) live none = tt
  look-nobody objects (Ok found) (changes, by, live) none =
      never-ends s site who known settled found.items changes none
      (over (Ends found.items changes) by)

  pub look-unsigned : {A : Type 0} (result : Result A HarvestError)
      → (result ≡ Err error.Fetch → Rises 0 0) → IfErr result Refused → who ≡ None
      → IfErr result (λ e. ¬ (e ≡ error.Memory) → e ≡ error.Status 401)
  look-unsigned (Ok found) fault refused none = tt
  look-unsigned (Err e) fault refused none =
      λ some. refused-so s site who known settled e none
      (over (Stops e) (refused (unfailed e (λ is. fault (ap Err is))) some))

-- ---- what is told

-- a harvest tells a status that is told with a text
pub harvest_told-is : (site : Site) (view : Option View) (report : Report)
    → IsHarvest site view report → IsKnown report.status
harvest_told-is site None report is = subst (λ (report : Report). IsKnown report.status) (sym is) tt
harvest_told-is site (Some view) report is = by (is_too_long site view) is
  where
    by : (long : Bool)
        → MatchBool long (report ≡ page_refused)
        ((objects : List KnownObject) × AreHarvested site view objects
        × (report ≡ objects_told objects))
        → IsKnown report.status
    by true is = subst (λ (report : Report). IsKnown report.status) (sym is) tt
    by false (objects, are, is) = subst (λ (report : Report). IsKnown report.status) (sym is) tt

-- ---- the ends of a harvest

module _ (site : Site) (s : State) (by : List ℕ) (Failed : Type 0) (old new : Option Traffic) where
  pub Harvests-unfailing : (end : Status) → ¬ Failed → Harvests site s by Failed old new end
      → IsUnfailing end
  Harvests-unfailing end written run =
      ⊎_elim (λ (report, is, tells). TellsReport-unfailing report Failed old new end
      (harvest_told-is site (view_named s by) report is) written tells)
      (λ (is, nothing). subst IsUnfailing (sym is) tt) run

  pub Harvests-kept : Harvests site s by Failed old new status.KeeperFailed → ⊥
  Harvests-kept run =
      ⊎_elim (λ (report, is, tells). TellsReport-kept report Failed old new
      (harvest_told-is site (view_named s by) report is) tells)
      (λ (is, nothing). absurd (cc is)) run

  pub Harvests-shut : Harvests site s by Failed old new status.DoorFailed → ⊥
  Harvests-shut run =
      ⊎_elim (λ (report, is, tells). TellsReport-shut report Failed old new
      (harvest_told-is site (view_named s by) report is) tells)
      (λ (is, nothing). absurd (cc is)) run

  pub Harvests-undamaged : (tab key : ℕ)
      → Harvests site s by Failed old new (status.Damaged tab key) → ⊥
  unfolding TellsReport
  Harvests-undamaged tab key run =
      ⊎_elim (λ (report, is, tells).
      undamaged report (harvest_told-is site (view_named s by) report is) tells)
      (λ (is, nothing). absurd (cc is)) run
    where
      undamaged : (report : Report) → IsKnown report.status
          → TellsReport report Failed old new (status.Damaged tab key) → ⊥
      undamaged report is tells = subst IsKnown tells.0 is
