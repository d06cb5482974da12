-- The walk over a stream of changes, from its last page backwards (IIIF Change Discovery API 1.0,
-- section 4).
use Rattle.std.specs.Prelude.{◌≡◌, ℕ, List, [], ◌∷◌, ◌++◌, ◌==◌, codes, if◌then◌else◌}
use Rattle.std.specs.Prelude.{Option, Some, None, Result, Ok, Err, MatchResult, ⊤, ok_or}
use Rattle.serde_json.specs.Data.{Data}
use Rattle.an_base.specs.Tree.{tree_of}
use Rattle.an_harvest.specs.Feed.{Change, feed_of, page_of, changes_after}
use Rattle.an_harvest.specs.declared.fetch.Got.{Got}
use Rattle.an_harvest.specs.declared.harvesting.HarvestError.{HarvestError}
use Rattle.an_harvest.specs.declared.harvesting.HarvestError.TheVariants as error

-- ---- what an answer to a target says

-- the tree that a body is
abbrev pub tree_in : List ℕ → List ℕ → Result Data HarvestError
tree_in target body =
    elim (tree_of body) [ Ok tree ↦ Ok tree | Err refused ↦ Err (error.Form target) ]

-- the tree that it has; its status comes first
abbrev pub tree_got : List ℕ → Got → Result Data HarvestError
tree_got target got =
    if got.status == 200 then tree_in target got.body else Err (error.Status got.status)

-- what its tree says by these rules, or else it is refused
abbrev pub told : {A : Type 0} → List ℕ → (Data → Option A) → Got → Result A HarvestError
told target rules got =
    elim (tree_got target got) [
      | Ok tree ↦ ok_or (rules tree) (error.Form target)
      | Err error ↦ Err error
    ]

-- ---- the walk

-- what a walk comes to: it gets this target next, it stops, or it ends, after a stream of so many
-- activities, with these changes
pub data Walk : Type 0 where
  Gets : List ℕ → Walk
  Stops : HarvestError → Walk
  Ends : ℕ → List Change → Walk

-- the walk that comes to the same, with more changes after those that it ends with
abbrev pub followed_by : List Change → Walk → Walk
followed_by later (Gets target) = Gets target
followed_by later (Stops error) = Stops error
followed_by later (Ends total changes) = Ends total (changes ++ later)

-- the walk from a page on, whose activities have to end at this place, over the answers from its
-- own on
abbrev pub pages : List ℕ → ℕ → ℕ → ℕ → List ℕ → List Got → Walk
pages base known total end target [] = Gets target
pages base known total end target (got ∷ gots) =
    elim (told target (page_of base known end) got) [
      | Err error ↦ Stops error
      | Ok page ↦ followed_by (changes_after known page) (elim page.next [
        | None ↦ Ends total []
        | Some next ↦ pages base known total page.start next gots
      ])
    ]

-- the walk over answers, of which the first is the stream's, where so many activities are known
abbrev pub walk : List ℕ → ℕ → List Got → Walk
walk base known [] = Gets (codes "/changes")
walk base known (got ∷ gots) =
    elim (told (codes "/changes") (feed_of base known) got) [
      | Err error ↦ Stops error
      | Ok feed ↦ pages base known feed.total feed.total feed.last gots
    ]

-- ---- over a fetch

abbrev pub IfGets : (List ℕ → Type 0) → Walk → Type 0
IfGets P (Gets target) = P target
IfGets P (Stops error) = ⊥
IfGets P (Ends total changes) = ⊥

-- each is an answer to the target that the walk gets next
abbrev pub AreAnswers : (List ℕ → Got → Type 0) → (List Got → Walk) → List Got → Type 0
AreAnswers answers walk [] = ⊤
AreAnswers answers walk (got ∷ gots) =
    IfGets (λ target. answers target got) (walk []) × AreAnswers answers
    (λ more. walk (got ∷ more)) gots

-- by answers of the fetch the walk comes to this
abbrev pub ComesTo : (List ℕ → Got → Type 0) → (List Got → Walk) → Walk → Type 0
ComesTo answers walk outcome =
    (gots : List Got) × AreAnswers answers walk gots × (walk gots ≡ outcome)

-- ---- for clauses

-- this holds of a refusal; the fetch may fail, and memory run out, at any time
abbrev pub IfRefused : HarvestError → Type 0 → Type 0
IfRefused e Meant = ¬ (e ≡ error.Fetch) → ¬ (e ≡ error.Memory) → Meant

-- by an answer to the target the call gives what is meant
abbrev pub Answered : {A B : Type 0} → (List ℕ → Got → Type 0) → List ℕ → (A → B)
    → Result A HarvestError → (Got → Result B HarvestError) → Type 0
Answered answers target view result meant =
    MatchResult result (λ x. (got : Got) × answers target got × (meant got ≡ Ok (view x)))
    (λ e. IfRefused e ((got : Got) × answers target got × (meant got ≡ Err e)))
