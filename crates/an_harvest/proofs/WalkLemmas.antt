-- The walk over answers, with one answer more.
use Rattle.std.proofs.Common.{◌≡◌, ℕ, ◌<◌, ◌≤◌, ◌+◌, Bool, true, false, cond, List, [], ◌∷◌, ◌++◌, length, Option, Some, None, Result, Ok, Err, refl, sym, ap, ◌∙◌, subst, append_assoc, append-nil, arith, nat_eq, ◌&&◌, option_and_then, unwrap_or}
use Rattle.std.specs.Prelude.{codes, ok_or, option_map, nat_le}
use Rattle.std.specs.List.{list_all}
use Rattle.std.proofs.lemmas.Bool.Decides.{nat_tests}
use Rattle.an_base.specs.Outcome.{only_if}
use Rattle.std.proofs.lemmas.Bool.{eqb-true}
use Rattle.std.proofs.Common.{IfOk, OnOk, IfSome}
use Rattle.serde_json.specs.Data.{Data}
use Rattle.an_harvest.specs.Feed.{Change, Page, page_of, place_of, page_items, page_before, changes_after, number_in, items_in, is_activity, target_in, Feed, feed_of}
use Rattle.an_harvest.specs.Walk.{Walk, Gets, Stops, Ends, followed_by, pages, walk, told, tree_got, IfGets, AreAnswers, ComesTo}
use Rattle.an_harvest.specs.declared.fetch.Got.{Got}
use Rattle.an_harvest.specs.declared.harvesting.HarvestError.{HarvestError}
use Rattle.an_harvest.specs.declared.harvesting.HarvestError.TheVariants as error

pub followed-followed : (c later : List Change) (w : Walk)
    → followed_by later (followed_by c w) ≡ followed_by (c ++ later) w
followed-followed c later (Gets target) = refl
followed-followed c later (Stops error) = refl
followed-followed c later (Ends total changes) = ap (Ends total) (append_assoc changes c later)

gets-followed : (P : List ℕ → Type 0) (c : List Change) (w : Walk) → IfGets P w
    → IfGets P (followed_by c w)
gets-followed P c (Gets target) h = h
gets-followed P c (Stops error) h = h
gets-followed P c (Ends total changes) h = h

-- answers of a walk are those of the same walk with more after it
answers-followed : (answers : List ℕ → Got → Type 0) (c : List Change) (w v : List Got → Walk)
    → ((more : List Got) → v more ≡ followed_by c (w more))
    → (gots : List Got) → AreAnswers answers w gots → AreAnswers answers v gots
answers-followed answers c w v same [] h = tt
answers-followed answers c w v same (got ∷ gots) h = (
  subst (IfGets (λ target. answers target got)) (sym (same []))
      (gets-followed (λ target. answers target got) c (w []) h.0),
  answers-followed answers c (λ more. w (got ∷ more)) (λ more. v (got ∷ more))
      (λ more. same (got ∷ more)) gots h.1,
)

pub answers-same : (answers : List ℕ → Got → Type 0) (w v : List Got → Walk)
    → ((more : List Got) → v more ≡ w more)
    → (gots : List Got) → AreAnswers answers w gots → AreAnswers answers v gots
answers-same answers w v same [] h = tt
answers-same answers w v same (got ∷ gots) h = (
  subst (IfGets (λ target. answers target got)) (sym (same [])) h.0,
  answers-same answers (λ more. w (got ∷ more)) (λ more. v (got ∷ more))
      (λ more. same (got ∷ more)) gots h.1,
)

module _ (answers : List ℕ → Got → Type 0) (base : List ℕ) (known total end : ℕ) (target : List ℕ)
    (got : Got) where
  abbrev pub on_page : Result Page HarvestError → List Got → Walk
  on_page r gots = elim r [
    | Err error ↦ Stops error
    | Ok page ↦ followed_by (changes_after known page) (elim page.next [
      | None ↦ Ends total []
      | Some next ↦ pages base known total page.start next gots
    ])
  ]

  pub pages-on : (r : Result Page HarvestError) → told target (page_of base known end) got ≡ r
      → (gots : List Got) → pages base known total end target (got ∷ gots) ≡ on_page r gots
  pages-on r is gots = ap (λ r. on_page r gots) is

  pub pages-stop : (e : HarvestError) → answers target got
      → told target (page_of base known end) got ≡ Err e
      → ComesTo answers (pages base known total end target) (Stops e)
  pages-stop e answer is = (got ∷ [], (answer, tt), pages-on (Err e) is [])

  pub pages-end : (page : Page) → answers target got
      → told target (page_of base known end) got ≡ Ok page → page.next ≡ None
      → ComesTo answers (pages base known total end target) (Ends total (changes_after known page))
  pages-end page answer is none = (
    got ∷ [],
    (answer, tt),
    pages-on (Ok page) is []
        ∙ ap (λ (n : Option (List ℕ)). followed_by (changes_after known page)
        (elim n
        [ None ↦ Ends total [] | Some next ↦ pages base known total page.start next [] ])) none,
  )

  pub pages-more : (page : Page) (next : List ℕ) (outcome : Walk) → answers target got
      → told target (page_of base known end) got ≡ Ok page → page.next ≡ Some next
      → ComesTo answers (pages base known total page.start next) outcome
      → ComesTo answers (pages base known total end target)
      (followed_by (changes_after known page) outcome)
  pages-more page next outcome answer is some (gots, all, comes) =
      let step : (more : List Got)
      → pages base known total end target (got ∷ more)
      ≡ followed_by (changes_after known page) (pages base known total page.start next more) =
      λ more. pages-on (Ok page) is more
      ∙ ap (λ (n : Option (List ℕ)). followed_by (changes_after known page)
      (elim n [ None ↦ Ends total [] | Some next ↦ pages base known total page.start next more ]))
      some in (
        got ∷ gots,
        (
          answer,
          answers-followed answers (changes_after known page)
              (pages base known total page.start next)
              (λ more. pages base known total end target (got ∷ more)) step gots all,
        ),
        step gots ∙ ap (followed_by (changes_after known page)) comes,
      )

module _ (answers : List ℕ → Got → Type 0) (base : List ℕ) (known : ℕ) (got : Got) where
  abbrev pub on_feed : Result Feed HarvestError → List Got → Walk
  on_feed r gots = elim r
      [ Err error ↦ Stops error | Ok feed ↦ pages base known feed.total feed.total feed.last gots ]

  pub walk-stop : (e : HarvestError) → answers (codes "/changes") got
      → told (codes "/changes") (feed_of base known) got ≡ Err e
      → ComesTo answers (walk base known) (Stops e)
  walk-stop e answer is = (got ∷ [], (answer, tt), ap (λ r. on_feed r []) is)

  pub walk-more : (feed : Feed) (outcome : Walk) → answers (codes "/changes") got
      → told (codes "/changes") (feed_of base known) got ≡ Ok feed
      → ComesTo answers (pages base known feed.total feed.total feed.last) outcome
      → ComesTo answers (walk base known) outcome
  walk-more feed outcome answer is (gots, all, comes) =
      let step : (more : List Got)
      → walk base known (got ∷ more) ≡ pages base known feed.total feed.total feed.last more =
      λ more. ap (λ r. on_feed r more) is in (
        got ∷ gots,
        (
          answer,
          answers-same answers (pages base known feed.total feed.total feed.last)
              (λ more. walk base known (got ∷ more)) step gots all,
        ),
        step gots ∙ comes,
      )

pub followed-nil : (w : Walk) → followed_by [] w ≡ w
followed-nil (Gets target) = refl
followed-nil (Stops error) = refl
followed-nil (Ends total changes) = ap (Ends total) (append-nil changes)

-- ---- what is told of a page

some_of : {A : Type 0} (x : A) (o : Option A) (e : HarvestError)
    → ◌≡◌ {A = Result A HarvestError} (ok_or o e) (Ok x) → o ≡ Some x
some_of x None e h = absurd (cc)
some_of x (Some y) e h = cc

told-ok : {A : Type 0} (target : List ℕ) (rules : Data → Option A) (got : Got) (x : A)
    → ◌≡◌ {A = Result A HarvestError} (told target rules got) (Ok x)
    → (tree : Data) × (rules tree ≡ Some x)
told-ok {A} target rules got x = by (tree_got target got)
  where
    by : (r : Result Data HarvestError)
        → ◌≡◌ {A = Result A HarvestError}
        (elim r [ Ok tree ↦ ok_or (rules tree) (error.Form target) | Err error ↦ Err error ]) (Ok x)
        → (tree : Data) × (rules tree ≡ Some x)
    by (Ok tree) h = (tree, some_of x (rules tree) _ h)
    by (Err e) h = absurd (cc)

-- where a page starts, so many before its end
place-fits : (end s : ℕ) (tree : Data) → place_of end tree ≡ Some s
    → s + length (page_items tree) ≡ end
place-fits end s tree =
    by (number_in (codes "startIndex") tree) (items_in (codes "orderedItems") tree)
  where
    by_test : (start : ℕ) (items : List Data) (a b : Bool) → nat_eq (start + length items) end ≡ b
        → cond (a && b) (Some start) None ≡ Some s → s + length items ≡ end
    by_test start items true true is h =
        let same : start ≡ s = cc in
        ap (λ n. n + length items) (sym same) ∙ eqb-true (start + length items) end is
    by_test start items true false is h = absurd (cc)
    by_test start items false b is h = absurd (cc)

    by : (o : Option ℕ) (p : Option (List Data))
        → option_and_then (λ start. option_and_then
        (λ items.
        cond (list_all is_activity items && nat_eq (start + length items) end) (Some start) None) p)
        o ≡ Some s
        → s + length (unwrap_or p []) ≡ end
    by None p h = absurd (cc)
    by (Some start) None h = absurd (cc)
    by (Some start) (Some items) h =
        by_test start items (list_all is_activity items) (nat_eq (start + length items) end) refl h

-- a page before another starts after what is known, and has an activity
before-falls : (base : List ℕ) (known start count : ℕ) (tree : Data) (next : List ℕ)
    → page_before base known start count tree ≡ Some (Some next) → (known < start) × (0 < count)
before-falls base known start count tree next = by (nat_le start known) refl (nat_eq count 0) refl
  where
    by : (a : Bool) → nat_le start known ≡ a → (b : Bool) → nat_eq count 0 ≡ b
        → cond a (Some None) (cond b None (option_map Some (target_in base (codes "prev") tree)))
        ≡ Some (Some next)
        → (known < start) × (0 < count)
    by true is b none h = absurd (cc)
    by false is true none h = absurd (cc)
    by false is false none h = (grind (arith, nat_tests), grind (arith, nat_tests))

-- a page that is told fits its end, and starts below it where it tells the page to get next
page-parts : (base : List ℕ) (known end : ℕ) (tree : Data) (page : Page)
    → page_of base known end tree ≡ Some page
    → (page.start + length page.items ≡ end)
    × ((next : List ℕ) → page.next ≡ Some next → (known < page.start) × (page.start < end))
page-parts base known end tree page = by (place_of end tree) refl
  where
    with_next : (start : ℕ) → place_of end tree ≡ Some start → (o : Option (Option (List ℕ)))
        → page_before base known start (length (page_items tree)) tree ≡ o
        → option_map (λ next. record { start = start; items = page_items tree; next = next }) o
        ≡ Some page
        → (page.start + length page.items ≡ end)
        × ((next : List ℕ) → page.next ≡ Some next → (known < page.start) × (page.start < end))
    with_next start at None before h = absurd (cc)
    with_next start at (Some next) before h =
        let made : Page = record { start = start; items = page_items tree; next = next } in
        let same : made ≡ page = some-same _ _ h in
        let sum = place-fits end start tree at in
        subst (λ (page : Page). (page.start + length page.items ≡ end)
        × ((next : List ℕ) → page.next ≡ Some next → (known < page.start) × (page.start < end)))
        same (
          sum,
          λ target is.
              let falls =
              before-falls base known start (length (page_items tree)) tree target
              (before ∙ ap Some is) in
              (falls.0, omega (arith, falls.1, sum)),
        )
      where
        some-same : (x y : Page) → Some x ≡ Some y → x ≡ y
        some-same x y h = cc

    by : (o : Option ℕ) → place_of end tree ≡ o
        → option_and_then (λ start. option_map
        (λ next. record { start = start; items = page_items tree; next = next })
        (page_before base known start (length (page_items tree)) tree)) o ≡ Some page
        → (page.start + length page.items ≡ end)
        × ((next : List ℕ) → page.next ≡ Some next → (known < page.start) × (page.start < end))
    by None at h = absurd (cc)
    by (Some start) at h =
        with_next start at (page_before base known start (length (page_items tree)) tree) refl h

pub told-parts : (base : List ℕ) (known end : ℕ) (target : List ℕ) (got : Got) (page : Page)
    → told target (page_of base known end) got ≡ Ok page
    → (page.start + length page.items ≡ end)
    × ((next : List ℕ) → page.next ≡ Some next → (known < page.start) × (page.start < end))
told-parts base known end target got page is =
    let t = told-ok target (page_of base known end) got page is in
    page-parts base known end t.0 page t.1

-- the stream tells no fewer activities than are known
feed-parts : (base : List ℕ) (known : ℕ) (tree : Data) (feed : Feed)
    → feed_of base known tree ≡ Some feed → known ≤ feed.total
feed-parts base known tree feed = by (number_in (codes "totalItems") tree)
  where
    last : (total : ℕ) → nat_le known total ≡ true → (o : Option (List ℕ))
        → option_map (λ last. record { total = total; last = last }) o ≡ Some feed
        → known ≤ feed.total
    last total is None h = absurd (cc)
    last total is (Some l) h =
        let same : total ≡ feed.total = some-total _ _ h in
        subst (λ n. known ≤ n) same (grind (arith, nat_tests))
      where
        some-total : (x y : Feed) → Some x ≡ Some y → x.total ≡ y.total
        some-total x y h = let e : x ≡ y = cc in ap (λ f. f.total) e

    test : (total : ℕ) (b : Bool) → nat_le known total ≡ b
        → option_and_then (λ total. option_map (λ last. record { total = total; last = last })
        (target_in base (codes "last") tree))
        (cond b (Some total) None) ≡ Some feed
        → known ≤ feed.total
    test total true is h = last total is (target_in base (codes "last") tree) h
    test total false is h = absurd (cc)

    by : (o : Option ℕ)
        → option_and_then (λ total. option_map (λ last. record { total = total; last = last })
        (target_in base (codes "last") tree))
        (option_and_then (only_if (nat_le known)) o) ≡ Some feed
        → known ≤ feed.total
    by None h = absurd (cc)
    by (Some total) h = test total (nat_le known total) refl h

pub told-feed : (base : List ℕ) (known : ℕ) (got : Got) (feed : Feed)
    → told (codes "/changes") (feed_of base known) got ≡ Ok feed → known ≤ feed.total
told-feed base known got feed is =
    let t = told-ok (codes "/changes") (feed_of base known) got feed is in
    feed-parts base known t.0 feed t.1

-- ---- what calls give

pub ok_all : {A E : Type 0} (r : Result A E) (P R Q : A → Type 0) (N : Type 0) → IfOk r P → IfOk r R
    → OnOk r N → ((x : A) → P x → R x → N → Q x) → IfOk r Q
ok_all (Ok x) P R Q N p r n f = f x p r n
ok_all (Err e) P R Q N p r n f = tt

pub if_some : {A : Type 0} (o : Option A) (P : Type 0) → ((x : A) → o ≡ Some x → P)
    → IfSome o (λ _. P)
if_some None P f = tt
if_some (Some x) P f = f x refl

pub at_some : {A : Type 0} (o : Option A) (P : Type 0) (x : A) → o ≡ Some x → IfSome o (λ _. P) → P
at_some None P x is h = absurd (cc)
at_some (Some y) P x is h = h

-- answers of one kind that are also of another
answers-map : (A B : List ℕ → Got → Type 0)
    → ((target : List ℕ) (got : Got) → A target got → B target got)
    → (w : List Got → Walk) (gots : List Got) → AreAnswers A w gots → AreAnswers B w gots
answers-map A B f w [] h = tt
answers-map A B f w (got ∷ gots) h =
    (gets-map (w []) h.0, answers-map A B f (λ more. w (got ∷ more)) gots h.1)
  where
    gets-map : (v : Walk) → IfGets (λ target. A target got) v → IfGets (λ target. B target got) v
    gets-map (Gets target) h = f target got h
    gets-map (Stops error) h = h
    gets-map (Ends total changes) h = h

pub comes-map : (A B : List ℕ → Got → Type 0)
    → ((target : List ℕ) (got : Got) → A target got → B target got)
    → (w : List Got → Walk) (outcome : Walk) → ComesTo A w outcome → ComesTo B w outcome
comes-map A B f w outcome (gots, all, comes) = (gots, answers-map A B f w gots all, comes)
