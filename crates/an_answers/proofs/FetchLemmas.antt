-- A fetch over a look gets what is served of its caller's view.
use Rattle.std.proofs.Common.{◌≡◌, ℕ, zero, suc, ◌≤◌, List, codes, Option, Some, None, IsSome, Result, Ok, refl, ap, ◌∙◌, arith}
use Rattle.std.proofs.lemmas.Bool.{false≢true}
use Rattle.an_feed.specs.Served.{Serves}
use Rattle.an_feed.specs.Told.{page_target}
use Rattle.an_harvest.specs.declared.fetch.Got.{Got}
use Rattle.an_http.specs.declared.method.Method.TheVariants.{Get}
use Rattle.an_http.specs.declared.reply.Media.TheVariants as media
use Rattle.an_http.specs.declared.reply.Extra.TheVariants as extra
use Rattle.an_list.specs.Site.{Site}
use Rattle.an_list.specs.declared.error.ReadError.{ReadError}
use Rattle.an_policy.specs.Audience.{Identity}
use Rattle.an_routes.specs.Routes.{read_methods, route_of}
use Rattle.an_routes.specs.declared.kinds.Read.{Read}
use Rattle.an_routes.specs.declared.kinds.Read.TheVariants as read
use Rattle.an_routes.specs.declared.kinds.Route.{Route}
use Rattle.an_routes.specs.declared.kinds.Route.TheVariants as route
use Rattle.an_routes.specs.declared.kinds.RouteError.{RouteError}
use Rattle.an_state.specs.View.{View}
use Rattle.an_stream.specs.Stream.{changes_page_of, page_of_stream}
use Rattle.an_answers.specs.Answer.{answer_of, shown_of, shown_reply, shown_with}
use Rattle.an_answers.specs.Fetch.{get_reply, got_at, got_of, no_preference}
use Rattle.an_answers.proofs.TargetLemmas.{changes-routed, page-routed}

-- a page that there is has a number from 1 on
page-numbered : (site : Site) (view : View) (page : ℕ) (body : List ℕ)
    → ◌≡◌ {A = Result (List ℕ) ReadError} (changes_page_of site view page) (Ok body) → 1 ≤ page
unfolding page_of_stream
page-numbered site view zero body is = absurd (cc is)
page-numbered site view (suc page) body is = omega arith

module _ (site : Site) (view : View) where
  -- to somebody what is read is shown
  somebody : (read : Read) (who : Option Identity) → view.who ≡ who → IsSome who
      → answer_of site view no_preference read
      ≡ shown_reply (read_methods read) (shown_of site view no_preference read)
  somebody read None is some = absurd (false≢true some)
  somebody read (Some who) is some = rw is refl

  got-routed : (target : List ℕ) (read : Read)
      → ◌≡◌ {A = Result Route RouteError} (route_of (Some Get) target) (Ok (route.Read read))
      → got_at (record { site = site; view = view }) target
      ≡ got_of (answer_of site view no_preference read)
  got-routed target read routed =
      ap (λ route. got_of (get_reply (record { site = site; view = view }) route)) routed

  got-shown : (target : List ℕ) (read : Read) → IsSome view.who
      → ◌≡◌ {A = Result Route RouteError} (route_of (Some Get) target) (Ok (route.Read read))
      → got_at (record { site = site; view = view }) target
      ≡ got_of (shown_reply (read_methods read) (shown_of site view no_preference read))
  got-shown target read some routed =
      got-routed target read routed ∙ ap got_of (somebody read view.who refl some)

pub serves : (site : Site) (view : View) → IsSome view.who
    → Serves site view (λ target got. got ≡ got_at (record { site = site; view = view }) target)
serves site view some = record {
  stream = λ got is. is ∙ got-shown site view (codes "/changes") read.Changes some changes-routed;
  pages = λ page body got le there is.
      is
      ∙ got-shown site view (page_target page) (read.ChangesPage page) some
      (page-routed page (page-numbered site view page body there) le)
      ∙ ap (λ (found : Result (List ℕ) ReadError). got_of
      (shown_reply (read_methods (read.ChangesPage page))
      (shown_with media.Changes extra.Absent found))) there;
}

pub nobody : (site : Site) (view : View) → view.who ≡ None
    → (got_at (record { site = site; view = view }) (codes "/changes")).status ≡ 401
nobody site view is =
    ap (λ (got : Got). got.status)
    (got-routed site view (codes "/changes") read.Changes changes-routed)
    ∙ unsigned
  where
    unsigned : (got_of (answer_of site view no_preference read.Changes)).status ≡ 401
    unsigned = rw is refl

pub ruleset looks = (serves, nobody)
