-- A page of the stream, as it is served, read back.
use Rattle.std.proofs.Common.{◌≡◌, ℕ, suc, ◌<◌, ◌≤◌, ◌+◌, ◌-◌, ◌*◌, max, Bool, true, false, cond, List, [], ◌∷◌, ◌++◌, length, map, take, drop, Option, Some, None, Result, Ok, Err, refl, sym, ap, ◌∙◌, subst, append_assoc, arith, nat_eq, ◌&&◌, option_and_then, unwrap_or, codes}
use Rattle.std.proofs.Math.Nat.{mul_comm}
use Rattle.std.proofs.Math.Nat.{suc-mul}
use Rattle.an_harvest.proofs.WalkLemmas.{pages-on, on_feed, answers-same}
use Rattle.std.proofs.lemmas.Bool.{le-leb}
use Rattle.std.proofs.lemmas.Nat.{mul-le, mul-add-lt}
use Rattle.std.specs.Prelude.{⊤, option_map, nat_le, nat_lt}
use Rattle.std.specs.List.{list_all}
use Rattle.std.proofs.Common.{◌^◌, ◌%◌, ◌/◌, min}
use Rattle.std.proofs.Common.{eq-eqb, zero, ap₂, length-take, length-drop}
use Rattle.std.specs.List.{AllByRecursion}
use Rattle.std.specs.Str.{is_utf8}
use Rattle.std.proofs.lemmas.Bool.Decides.{nat_tests}
use Rattle.serde_json.specs.Data.{Data, Items, depth, items_depth}
use Rattle.serde_json.specs.Find.{get}
use Rattle.serde_json.specs.View.{items_of}
use Rattle.an_base.specs.Items.{items_list}
use Rattle.an_base.specs.Member.{text_in}
use Rattle.an_base.specs.Object.{with_member_if}
use Rattle.an_base.specs.Tree.{is_whole, items_are_whole, is_tree, tree_of}
use Rattle.an_base.proofs.TreeTexts.{read_back}
use Rattle.an_harvest.specs.Feed as feed
use Rattle.std.specs.Prelude.{ok_or}
use Rattle.std.proofs.lemmas.List.{drop-take, length-map}
use Rattle.std.proofs.Math.Seq.{take-add}
use Rattle.an_base.specs.declared.tree.TreeError.{TreeError}
use Rattle.an_harvest.specs.Walk.{Walk, Gets, Stops, Ends, followed_by, pages, walk, told, IfGets, AreAnswers}
use Rattle.an_harvest.specs.declared.fetch.Got.{Got}
use Rattle.an_harvest.specs.declared.harvesting.HarvestError.{HarvestError}
use Rattle.an_harvest.specs.declared.harvesting.HarvestError.TheVariants as error
use Rattle.std.proofs.Common.{decimal}
use Rattle.std.proofs.lemmas.Bool.{and_from}
use Rattle.serde_json.specs.Written.{compact_text}
use Rattle.an_harvest.specs.Feed.{Change, changes_of, is_activity, number_in, items_in}
use Rattle.an_base.specs.Front.{after_front}
use Rattle.an_base.proofs.FrontLemmas.{front-there}
use Rattle.an_list.specs.Page.{page_link, link_before, link_after, page_count, start_of, page_of, page_iri}
use Rattle.an_list.specs.declared.page.PageForm.TheVariants as form
use Rattle.an_list.specs.declared.page.PagedList.{PagedList}
use Rattle.an_state.specs.declared.activity.Seen.{Seen}
use Rattle.an_stream.specs.Activity.{activity}
use Rattle.an_stream.specs.Stream.{changes_context, changes_whole, stream_page, stream_page_members, stream_tree}
use Rattle.an_feed.specs.Told.{change_told, IsTold, page_target}
use Rattle.an_feed.proofs.ActivityLemmas.{ascii, all-activities, changes-told, listed}

abbrev pub if_whole : Option Data → Bool
if_whole None = true
if_whole (Some tree) = is_whole tree

abbrev pub if_shallow : Option Data → Type 0
if_shallow None = ⊤
if_shallow (Some tree) = depth tree ≤ 1

-- ---- a page

-- what a page tells, with what stands before and after it
module _ (whole : PagedList) (page start : ℕ) (items : Items) where
  abbrev with_links : Option Data → Option Data → Data
  with_links before after =
      with_member_if (codes "prev") before
      (with_member_if (codes "next") after (stream_page_members whole page start items))

  pub start-there : (before after : Option Data)
      → number_in (codes "startIndex") (with_links before after) ≡ Some start
  start-there None None = refl
  start-there None (Some next) = refl
  start-there (Some prev) None = refl
  start-there (Some prev) (Some next) = refl

  pub items-there : (before after : Option Data)
      → items_in (codes "orderedItems") (with_links before after) ≡ Some (items_list items)
  items-there None None = refl
  items-there None (Some next) = refl
  items-there (Some prev) None = refl
  items-there (Some prev) (Some next) = refl

  pub prev-there : (before after : Option Data)
      → get (codes "prev") (with_links before after) ≡ before
  prev-there None None = refl
  prev-there None (Some next) = refl
  prev-there (Some prev) None = refl
  prev-there (Some prev) (Some next) = refl

  -- it is a tree
  whole-there : (before after : Option Data) → is_utf8 whole.path ≡ true
      → is_utf8 (page_iri whole page) ≡ true → nat_lt start (2 ^ 64) ≡ true
      → items_are_whole items ≡ true
      → (if_whole before ≡ true) → (if_whole after ≡ true)
      → is_whole (with_links before after) ≡ true
  whole-there None None path iri small all b a =
      rw (
        path,
        iri,
        small,
        all,
        ascii (codes "@context") refl,
        ascii changes_context refl,
        ascii (codes "id") refl,
        ascii (codes "orderedItems") refl,
        ascii (codes "partOf") refl,
        ascii (codes "type") refl,
        ascii (codes "OrderedCollection") refl,
        ascii (codes "startIndex") refl,
        ascii (codes "OrderedCollectionPage") refl,
      ) refl
  whole-there None (Some next) path iri small all b a =
      rw (
        path,
        iri,
        small,
        all,
        a,
        ascii (codes "@context") refl,
        ascii changes_context refl,
        ascii (codes "id") refl,
        ascii (codes "next") refl,
        ascii (codes "orderedItems") refl,
        ascii (codes "partOf") refl,
        ascii (codes "type") refl,
        ascii (codes "OrderedCollection") refl,
        ascii (codes "startIndex") refl,
        ascii (codes "OrderedCollectionPage") refl,
      ) refl
  whole-there (Some prev) None path iri small all b a =
      rw (
        path,
        iri,
        small,
        all,
        b,
        ascii (codes "@context") refl,
        ascii changes_context refl,
        ascii (codes "id") refl,
        ascii (codes "orderedItems") refl,
        ascii (codes "partOf") refl,
        ascii (codes "prev") refl,
        ascii (codes "type") refl,
        ascii (codes "OrderedCollection") refl,
        ascii (codes "startIndex") refl,
        ascii (codes "OrderedCollectionPage") refl,
      ) refl
  whole-there (Some prev) (Some next) path iri small all b a =
      rw (
        path,
        iri,
        small,
        all,
        a,
        b,
        ascii (codes "@context") refl,
        ascii changes_context refl,
        ascii (codes "id") refl,
        ascii (codes "next") refl,
        ascii (codes "orderedItems") refl,
        ascii (codes "partOf") refl,
        ascii (codes "prev") refl,
        ascii (codes "type") refl,
        ascii (codes "OrderedCollection") refl,
        ascii (codes "startIndex") refl,
        ascii (codes "OrderedCollectionPage") refl,
      ) refl

  shallow-there : (before after : Option Data) → items_depth items ≤ 2 → if_shallow before
      → if_shallow after → depth (with_links before after) ≤ 4
  shallow-there None None all b a = omega (arith, all)
  shallow-there None (Some next) all b a = omega (arith, all, a)
  shallow-there (Some prev) None all b a = omega (arith, all, b)
  shallow-there (Some prev) (Some next) all b a = omega (arith, all, a, b)

  -- so its text reads back
  pub page-read : (before after : Option Data) → is_utf8 whole.path ≡ true
      → is_utf8 (page_iri whole page) ≡ true → nat_lt start (2 ^ 64) ≡ true
      → items_are_whole items ≡ true → items_depth items ≤ 2
      → if_whole before ≡ true → if_whole after ≡ true → if_shallow before → if_shallow after
      → tree_of (compact_text (with_links before after)) ≡ Ok (with_links before after)
  unfolding is_tree
  page-read before after path iri small all flat wb wa sb sa =
      read_back (with_links before after)
      (and_from _ _ (whole-there before after path iri small all wb wa)
      (tree-shallow (depth (with_links before after)) (shallow-there before after flat sb sa)))
    where
      tree-shallow : (n : ℕ) → n ≤ 4 → nat_le n 100 ≡ true
      tree-shallow n h = grind (arith, nat_tests)

-- ---- places

-- so many pages, of a list of q whole pages and r items more
cover : (size q r pages : ℕ) → r < size → pages ≡ max 1 (q + min 1 r)
    → ((pages - 1) * size ≤ q * size + r) × (q * size + r ≤ pages * size)
cover size q zero pages small is = (
  omega (arith, mul-le (pages - 1) size q size (omega arith) (omega arith)),
  omega (arith, mul-le q size pages size (omega arith) (omega arith)),
)
cover size q (suc r) pages small is = (
  omega (arith, mul-le (pages - 1) size q size (omega arith) (omega arith)),
  omega (arith, mul-add-lt q size (suc r) pages (omega arith) (omega arith), mul_comm size pages),
)

-- a list's pages: the last one begins within it, and they hold it
pub pages-cover : (total size : ℕ) → 1 ≤ size
    → ((page_count total size - 1) * size ≤ total) × (total ≤ page_count total size * size)
pages-cover total size some =
    let whole : (total / size) * size + total % size ≡ total =
    omega (arith, mul_comm size (total / size)) in
    let c = cover size (total / size) (total % size) (page_count total size) (omega arith) refl in (
      subst (λ n. (page_count total size - 1) * size ≤ n) whole c.0,
      subst (λ n. n ≤ page_count total size * size) whole c.1,
    )

-- a last page after others has an item
cover-below : (size q r pages : ℕ) → r < size → pages ≡ max 1 (q + min 1 r) → 2 ≤ pages
    → (pages - 1) * size < q * size + r
cover-below size q zero pages small is two =
    omega (arith, mul-add-lt (pages - 1) size 0 q (omega arith) small, mul_comm size q)
cover-below size q (suc r) pages small is two =
    omega (arith, mul-le (pages - 1) size q size (omega arith) (omega arith))

pages-below : (total size : ℕ) → 1 ≤ size → 2 ≤ page_count total size
    → (page_count total size - 1) * size < total
pages-below total size some two =
    let whole : (total / size) * size + total % size ≡ total =
    omega (arith, mul_comm size (total / size)) in
    let c =
    cover-below size (total / size) (total % size) (page_count total size) (omega arith) refl two in
    subst (λ n. (page_count total size - 1) * size < n) whole c

-- where the items of a page end
pub page-ends : {A : Type 0} (start size : ℕ) (items : List A) → start ≤ length items
    → start + length (take size (drop start items)) ≡ min (start + size) (length items)
page-ends start size items within = simp (length-take, length-drop) (omega arith)

-- the stream's own body is a tree too, so its text reads back
pub stream-read : (whole : PagedList) (pages total : ℕ) → is_utf8 whole.path ≡ true
    → is_utf8 (page_iri whole 1) ≡ true → is_utf8 (page_iri whole pages) ≡ true
    → nat_lt total (2 ^ 64) ≡ true
    → tree_of (compact_text (stream_tree whole pages total)) ≡ Ok (stream_tree whole pages total)
unfolding is_tree
stream-read whole pages total path first last small =
    read_back (stream_tree whole pages total) (and_from _ _ is_so refl)
  where
    is_so : is_whole (stream_tree whole pages total) ≡ true
    is_so =
        rw (
          path,
          first,
          last,
          small,
          ascii (codes "@context") refl,
          ascii changes_context refl,
          ascii (codes "first") refl,
          ascii (codes "id") refl,
          ascii (codes "last") refl,
          ascii (codes "totalItems") refl,
          ascii (codes "type") refl,
          ascii (codes "OrderedCollection") refl,
          ascii (codes "OrderedCollectionPage") refl,
        ) refl

-- ---- what a page tells, by its members

page_of-parts : (base : List ℕ) (known end : ℕ) (tree : Data) (start : ℕ) (items : List Data)
    (next : Option (List ℕ)) → number_in (codes "startIndex") tree ≡ Some start
    → items_in (codes "orderedItems") tree ≡ Some items
    → list_all is_activity items ≡ true → nat_eq (start + length items) end ≡ true
    → feed.page_before base known start (length items) tree ≡ Some next
    → feed.page_of base known end tree ≡ Some (record { start = start; items = items; next = next })
page_of-parts base known end tree start items next n i all sum before =
    with_place (feed.place_of end tree) place (feed.page_items tree) own
  where
    own : feed.page_items tree ≡ items
    own = ap (λ (o : Option (List Data)). unwrap_or o []) i

    test : cond (list_all is_activity items && nat_eq (start + length items) end) (Some start) None
        ≡ Some start
    test = rw (all, sum) refl

    place : feed.place_of end tree ≡ Some start
    place =
        ap (λ (o : Option ℕ). option_and_then
        (λ start. option_and_then
        (λ items.
        cond (list_all is_activity items && nat_eq (start + length items) end) (Some start) None)
        (items_in (codes "orderedItems") tree)) o) n
        ∙ ap (λ (o : Option (List Data)). option_and_then
        (λ items.
        cond (list_all is_activity items && nat_eq (start + length items) end) (Some start) None) o)
        i
        ∙ test

    with_place : (o : Option ℕ) → o ≡ Some start → (its : List Data) → its ≡ items
        → option_and_then {U = feed.Page}
        (λ start. option_map (λ next. record { start = start; items = its; next = next })
        (feed.page_before base known start (length its) tree)) o
        ≡ Some (record { start = start; items = items; next = next })
    with_place o is its same =
        ap (λ (o : Option ℕ). option_and_then {U = feed.Page}
        (λ start. option_map (λ next. record { start = start; items = its; next = next })
        (feed.page_before base known start (length its) tree)) o) is
        ∙ ap (λ (its : List Data). option_map {U = feed.Page}
        (λ next. record { start = start; items = its; next = next })
        (feed.page_before base known start (length its) tree)) same
        ∙ ap
        (option_map {U = feed.Page} (λ next. record { start = start; items = items; next = next }))
        before

-- the stream's own body
pub stream-feed : (base : List ℕ) (known pages total : ℕ) → nat_le known total ≡ true
    → feed.feed_of base known (stream_tree (changes_whole base) pages total)
    ≡ Some (record { total = total; last = codes "/changes" ++ (codes "?page=" ++ decimal pages) })
stream-feed base known pages total within =
    let iri : page_iri (changes_whole base) pages
    ≡ base ++ (codes "/changes" ++ (codes "?page=" ++ decimal pages)) =
    append_assoc base (codes "/changes") (codes "?page=" ++ decimal pages) in
    let target : after_front base (page_iri (changes_whole base) pages)
    ≡ Some (codes "/changes" ++ (codes "?page=" ++ decimal pages)) =
    ap (after_front base) iri
    ∙ front-there base (codes "/changes" ++ (codes "?page=" ++ decimal pages)) in
    ap (λ (b : Bool). option_and_then {U = feed.Feed}
    (λ total. option_map (λ last. record { total = total; last = last })
    (after_front base (page_iri (changes_whole base) pages)))
    (cond b (Some total) None)) within
    ∙ ap (option_map {U = feed.Feed} (λ last. record { total = total; last = last })) target

-- ---- a page of the stream, as the walk reads it

before-known : (base : List ℕ) (known start count : ℕ) (tree : Data) → nat_le start known ≡ true
    → feed.page_before base known start count tree ≡ Some None
before-known base known start count tree h =
    ap (λ (b : Bool). cond b (Some None)
    (cond (nat_eq count 0) None (option_map Some (feed.target_in base (codes "prev") tree)))) h

before-more : (base : List ℕ) (known start count : ℕ) (tree : Data) (rest : List ℕ)
    → nat_le start known ≡ false → nat_eq count 0 ≡ false
    → feed.target_in base (codes "prev") tree ≡ Some rest
    → feed.page_before base known start count tree ≡ Some (Some rest)
before-more base known start count tree rest h n t =
    ap (λ (b : Bool). cond b (Some None)
    (cond (nat_eq count 0) None (option_map Some (feed.target_in base (codes "prev") tree)))) h
    ∙ ap (λ (b : Bool). cond b None (option_map Some (feed.target_in base (codes "prev") tree))) n
    ∙ ap (option_map Some) t

page-target : (base : List ℕ) (page : ℕ)
    → after_front base (page_iri (changes_whole base) page) ≡ Some (page_target page)
page-target base page =
    ap (after_front base) (append_assoc base (codes "/changes") (codes "?page=" ++ decimal page))
    ∙ front-there base (page_target page)

module _ (base : List ℕ) (known end pages page start : ℕ)
    (seens : List Seen) (told : AllByRecursion IsTold seens)
    (fits : start + length (map (activity base) seens) ≡ end) where
  abbrev served : Data
  served =
      with_links (changes_whole base) page start (items_of (map (activity base) seens))
      (link_before form.Changes (changes_whole base) page)
      (link_after form.Changes (changes_whole base) pages page)

  items-of-served : items_in (codes "orderedItems") served ≡ Some (map (activity base) seens)
  items-of-served =
      items-there (changes_whole base) page start (items_of (map (activity base) seens))
      (link_before form.Changes (changes_whole base) page)
      (link_after form.Changes (changes_whole base) pages page)
      ∙ ap Some (listed (map (activity base) seens))

  -- it is the last that the walk gets, where so much is known
  pub served-last : nat_le start known ≡ true
      → feed.page_of base known end
      (stream_page (changes_whole base) pages page start (items_of (map (activity base) seens)))
      ≡ Some (record { start = start; items = map (activity base) seens; next = None })
  unfolding stream_page
  served-last h =
      page_of-parts base known end served start (map (activity base) seens) None
      (start-there (changes_whole base) page start (items_of (map (activity base) seens))
      (link_before form.Changes (changes_whole base) page)
      (link_after form.Changes (changes_whole base) pages page))
      items-of-served (all-activities base seens told) (eq-eqb _ _ fits)
      (before-known base known start (length (map (activity base) seens)) served h)

  -- and else it leads to the page before it
  pub served-more : nat_le start known ≡ false
      → nat_eq (length (map (activity base) seens)) 0 ≡ false → nat_lt 1 page ≡ true
      → feed.page_of base known end
      (stream_page (changes_whole base) pages page start (items_of (map (activity base) seens)))
      ≡ Some (record {
        start = start;
        items = map (activity base) seens;
        next = Some (page_target (page - 1));
      })
  unfolding stream_page
  served-more h some later =
      page_of-parts base known end served start (map (activity base) seens)
      (Some (page_target (page - 1)))
      (start-there (changes_whole base) page start (items_of (map (activity base) seens))
      (link_before form.Changes (changes_whole base) page)
      (link_after form.Changes (changes_whole base) pages page))
      items-of-served (all-activities base seens told) (eq-eqb _ _ fits)
      (before-more base known start (length (map (activity base) seens)) served
      (page_target (page - 1)) h some
      (ap (λ (o : Option Data).
      option_and_then (after_front base) (option_and_then (text_in (codes "id")) o))
      (prev-there (changes_whole base) page start (items_of (map (activity base) seens))
      (link_before form.Changes (changes_whole base) page)
      (link_after form.Changes (changes_whole base) pages page)
      ∙ ap (λ (b : Bool).
      option_map (page_link form.Changes (changes_whole base)) (cond b (Some (page - 1)) None))
      later)
      ∙ page-target base (page - 1)))

-- ---- the whole walk over what is served

drop-nil : {A : Type 0} (n : ℕ) → ◌≡◌ {A = List A} (drop n []) []
drop-nil zero = refl
drop-nil (suc n) = refl

drop-more : {A : Type 0} (m n k : ℕ) (xs : List A) → m + n ≡ k → drop n (drop m xs) ≡ drop k xs
drop-more zero n k xs e = ap (λ j. drop j xs) (plus-zero n k e)
  where
    plus-zero : (n k : ℕ) → 0 + n ≡ k → n ≡ k
    plus-zero n k e = omega (arith, e)
drop-more (suc m) n k [] e = drop-nil n ∙ sym (drop-nil k)
drop-more (suc m) n zero (x ∷ xs) e = absurd (omega (arith, e))
drop-more (suc m) n (suc k) (x ∷ xs) e = drop-more m n k xs (omega (arith, e))

drop-front : {A : Type 0} (k : ℕ) (xs ys : List A) → k ≤ length xs
    → drop k (xs ++ ys) ≡ drop k xs ++ ys
drop-front zero xs ys h = refl
drop-front (suc k) [] ys h = absurd (omega (arith, h))
drop-front (suc k) (x ∷ xs) ys h = drop-front k xs ys (omega (arith, h))

pub recursion-drop : {A : Type 0} (P : A → Type 0) (n : ℕ) (xs : List A) → AllByRecursion P xs
    → AllByRecursion P (drop n xs)
recursion-drop P zero xs h = h
recursion-drop P (suc n) [] h = tt
recursion-drop P (suc n) (x ∷ xs) h = recursion-drop P n xs h.1

pub recursion-take : {A : Type 0} (P : A → Type 0) (n : ℕ) (xs : List A) → AllByRecursion P xs
    → AllByRecursion P (take n xs)
recursion-take P zero xs h = tt
recursion-take P (suc n) [] h = tt
recursion-take P (suc n) (x ∷ xs) h = (h.0, recursion-take P n xs h.1)

changes-drop : (base : List ℕ) (k : ℕ) (seens : List Seen) → AllByRecursion IsTold seens
    → changes_of (drop k (map (activity base) seens)) ≡ map (change_told base) (drop k seens)
changes-drop base zero seens h = changes-told base seens h
changes-drop base (suc k) [] h = refl
changes-drop base (suc k) (seen ∷ seens) h = changes-drop base k seens h.1

map-drop-append : (base : List ℕ) (xs ys : List Seen)
    → map (change_told base) xs ++ map (change_told base) ys ≡ map (change_told base) (xs ++ ys)
map-drop-append base [] ys = refl
map-drop-append base (x ∷ xs) ys =
    ap (λ rest. change_told base x ∷ rest) (map-drop-append base xs ys)

abbrev told_of : {A : Type 0} → List ℕ → (Data → Option A) → Result Data HarvestError
    → Result A HarvestError
told_of {A} target rules r =
    elim r [ Ok tree ↦ ok_or (rules tree) (error.Form target) | Err error ↦ Err error ]

-- what is told of a body with the text of a tree
told-served : {A : Type 0} (target : List ℕ) (rules : Data → Option A) (tree : Data) (x : A)
    → tree_of (compact_text tree) ≡ Ok tree → rules tree ≡ Some x
    → ◌≡◌ {A = Result A HarvestError}
    (told target rules (record { status = 200; body = compact_text tree })) (Ok x)
told-served {A} target rules tree x reads is =
    ap (λ (r : Result Data TreeError).
    told_of target rules (elim r [ Ok tree ↦ Ok tree | Err refused ↦ Err (error.Form target) ]))
    reads
    ∙ ap (λ (o : Option A). ok_or o (error.Form target)) is

answers-unfollowed : (answers : List ℕ → Got → Type 0) (c : List Change) (w v : List Got → Walk)
    → ((more : List Got) → v more ≡ followed_by c (w more))
    → (gots : List Got) → AreAnswers answers v gots → AreAnswers answers w gots
answers-unfollowed answers c w v same [] h = tt
answers-unfollowed answers c w v same (got ∷ gots) h = (
  back (λ target. answers target got) (w [])
      (subst (IfGets (λ target. answers target got)) (same []) h.0),
  answers-unfollowed answers c (λ more. w (got ∷ more)) (λ more. v (got ∷ more))
      (λ more. same (got ∷ more)) gots h.1,
)
  where
    back : (P : List ℕ → Type 0) (w : Walk) → IfGets P (followed_by c w) → IfGets P w
    back P (Gets target) h = h
    back P (Stops error) h = h
    back P (Ends total changes) h = h

module _ (base : List ℕ) (size : ℕ) (seen : List Seen) (all : AllByRecursion IsTold seen)
    (some : 1 ≤ size) (known : ℕ) (within : known ≤ length seen) where
  abbrev pub total : ℕ
  total = length seen

  abbrev pub count : ℕ
  count = page_count (length seen) size

  abbrev pub slice : ℕ → List Seen
  slice p = page_of p size seen

  abbrev pub page_at : ℕ → Data
  page_at p =
      stream_page (changes_whole base) count p (start_of p size)
      (items_of (map (activity base) (slice p)))

  abbrev pub end_at : ℕ → ℕ
  end_at p = start_of p size + length (map (activity base) (slice p))

  -- the changes after those known, up to the end of a page
  abbrev pub later : ℕ → List Change
  later p = map (change_told base) (drop known (take (start_of p size + size) seen))

  -- it tells the pages, and they are trees
  pub record Serves (answers : List ℕ → Got → Type 0) : Type 0 where
    pub told_pages : (p : ℕ) (got : Got) → 1 ≤ p → p ≤ count → answers (page_target p) got
        → got ≡ record { status = 200; body = compact_text (page_at p) }
    pub trees : (p : ℕ) → 1 ≤ p → p ≤ count → tree_of (compact_text (page_at p)) ≡ Ok (page_at p)

  -- the walk isn't at its end, or ends with these changes
  abbrev pub Fine : Walk → ℕ → Type 0
  Fine (Gets target) p = ⊤
  Fine (Stops error) p = ⊥
  Fine (Ends n changes) p = (n ≡ total) × (changes ≡ later p)

  pub starts-within : (p : ℕ) → p ≤ count → start_of p size ≤ total
  starts-within p le =
      let c = (pages-cover total size some).0 in
      omega (arith, c, mul-le (p - 1) size (count - 1) size (omega arith) (omega arith))

  pub told-slice : (p : ℕ) → AllByRecursion IsTold (slice p)
  told-slice p =
      recursion-take IsTold size (drop (start_of p size) seen)
      (recursion-drop IsTold (start_of p size) seen all)

  slice-is : (p : ℕ) → drop (start_of p size) (take (start_of p size + size) seen) ≡ slice p
  slice-is p = drop-take (start_of p size) size seen

  -- the walk after a page that is the last to get
  fine-last : (p : ℕ) → start_of p size ≤ known
      → Fine (followed_by
      (changes_of (drop (known - start_of p size) (map (activity base) (slice p)))) (Ends total []))
      p
  fine-last p le = (
    refl,
    changes-drop base (known - start_of p size) (slice p) (told-slice p)
        ∙ ap (map (change_told base))
        (ap (drop (known - start_of p size)) (sym (slice-is p))
        ∙ drop-more (start_of p size) (known - start_of p size) known
        (take (start_of p size + size) seen) (omega (arith, le))),
  )

  -- and after one that leads on
  fine-more : (p q : ℕ) (w : Walk) → start_of q size + size ≡ start_of p size
      → known < start_of p size → start_of p size ≤ total → Fine w q
      → Fine
      (followed_by (changes_of (drop (known - start_of p size) (map (activity base) (slice p)))) w)
      p
  fine-more p q (Gets target) next more le f = tt
  fine-more p q (Stops error) next more le f = f
  fine-more p q (Ends n changes) next more le f =
      let zero_ : known - start_of p size ≡ 0 = omega (arith, more) in
      let noted : changes_of (drop (known - start_of p size) (map (activity base) (slice p)))
      ≡ map (change_told base) (slice p) =
      ap (λ k. changes_of (drop k (map (activity base) (slice p)))) zero_
      ∙ changes-told base (slice p) (told-slice p) in
      let split : take (start_of p size + size) seen ≡ take (start_of p size) seen ++ slice p =
      take-add (start_of p size) size seen in (
        f.0,
        ap₂ (λ a b. a ++ b)
            (f.1 ∙ ap (λ n. map (change_told base) (drop known (take n seen))) next) noted
            ∙ map-drop-append base (drop known (take (start_of p size) seen)) (slice p)
            ∙ ap (map (change_told base))
            (sym (drop-front known (take (start_of p size) seen) (slice p)
            (simp length-take (omega arith)))
            ∙ ap (drop known) (sym split)),
      )

  -- where a page starts that isn't the first
  starts-below : (p : ℕ) → 2 ≤ p → p ≤ count → start_of p size < total
  starts-below p two le =
      let c = pages-below total size some (omega (arith, two, le)) in
      omega (arith, c, mul-le (p - 1) size (count - 1) size (omega arith) (omega arith))

  follows : (p : ℕ) → 2 ≤ p → start_of (p - 1) size + size ≡ start_of p size
  follows p two = sym (suc-mul (p - 1 - 1) size) ∙ ap (λ n. n * size) (later-one p two)
    where
      later-one : (p : ℕ) → 2 ≤ p → suc (p - 1 - 1) ≡ p - 1
      later-one p two = omega (arith, two)

  ends-at : (p : ℕ) → 2 ≤ p → p ≤ count → end_at (p - 1) ≡ start_of p size
  ends-at p two le =
      let s = starts-below p two le in
      let f = follows p two in
      let l : length (map (activity base) (slice (p - 1))) ≡ length (slice (p - 1)) =
      simp length-map in
      let e = page-ends (start_of (p - 1) size) size seen (omega (arith, s, f)) in
      omega (arith, e, l, s, f)

  is-later : (p : ℕ) → known < start_of p size → 2 ≤ p
  is-later p more = by (nat_lt 1 p) refl
    where
      by : (b : Bool) → nat_lt 1 p ≡ b → 2 ≤ p
      by true h = grind (arith, nat_tests)
      by false h =
          let small : p ≤ 1 = grind (arith, nat_tests) in
          absurd
          (omega (arith, more, mul-le (p - 1) size 0 size (omega (arith, small)) (omega arith)))

  has-items : (p : ℕ) → 2 ≤ p → p ≤ count
      → nat_eq (length (map (activity base) (slice p))) 0 ≡ false
  has-items p two le =
      let s = starts-below p two le in
      let l : length (map (activity base) (slice p)) ≡ min size (total - start_of p size) =
      simp (length-map, length-take, length-drop) in
      let some_ : 0 < length (map (activity base) (slice p)) = omega (arith, l, s, some) in
      positive (length (map (activity base) (slice p))) some_
    where
      positive : (n : ℕ) → 0 < n → nat_eq n 0 ≡ false
      positive n h = grind (arith, nat_tests)

  pub Run : (List ℕ → Got → Type 0) → List Got → Type 0
  Run answers gots =
      (p : ℕ) → 1 ≤ p → p ≤ count → known ≤ end_at p
      → AreAnswers answers (pages base known total (end_at p) (page_target p)) gots
      → Fine (pages base known total (end_at p) (page_target p) gots) p

  step : (answers : List ℕ → Got → Type 0) → Serves answers → (got : Got) (gots : List Got)
      → Run answers gots → Run answers (got ∷ gots)
  unfolding Run
  step answers serves got gots rest p one le kn h = by (nat_le (start_of p size) known) refl
    where
      reads : (page : feed.Page) → feed.page_of base known (end_at p) (page_at p) ≡ Some page
          → told (page_target p) (feed.page_of base known (end_at p)) got ≡ Ok page
      reads page is =
          ap (told (page_target p) (feed.page_of base known (end_at p)))
          (serves.told_pages p got one le h.0)
          ∙ told-served (page_target p) (feed.page_of base known (end_at p)) (page_at p) page
          (serves.trees p one le) is

      by : (b : Bool) → nat_le (start_of p size) known ≡ b
          → Fine (pages base known total (end_at p) (page_target p) (got ∷ gots)) p
      by true b =
          let page : feed.Page =
          record { start = start_of p size; items = map (activity base) (slice p); next = None } in
          subst (λ w. Fine w p) (sym
          (pages-on answers base known total (end_at p) (page_target p) got (Ok page)
          (reads page (served-last base known (end_at p) count p (start_of p size) (slice p)
          (told-slice p) refl b)) gots))
          (fine-last p (grind (arith, nat_tests)))
      by false b =
          let more : known < start_of p size = grind (arith, nat_tests) in
          let two = is-later p more in
          let page : feed.Page = record {
            start = start_of p size;
            items = map (activity base) (slice p);
            next = Some (page_target (p - 1));
          } in
          let is =
          reads page (served-more base known (end_at p) count p (start_of p size) (slice p)
          (told-slice p) refl b (has-items p two le) (grind (arith, nat_tests))) in
          let on : (gots : List Got)
          → pages base known total (end_at p) (page_target p) (got ∷ gots)
          ≡ followed_by (feed.changes_after known page)
          (pages base known total (start_of p size) (page_target (p - 1)) gots) =
          λ gots.
          pages-on answers base known total (end_at p) (page_target p) got (Ok page) is gots in
          let ends = ends-at p two le in
          let answered =
          answers-unfollowed answers (feed.changes_after known page)
          (pages base known total (start_of p size) (page_target (p - 1)))
          (λ more. pages base known total (end_at p) (page_target p) (got ∷ more)) on gots h.1 in
          let before =
          rest (p - 1) (omega (arith, two)) (omega (arith, le)) (omega (arith, ends, more))
          (subst (λ end. AreAnswers answers (pages base known total end (page_target (p - 1))) gots)
          (sym ends) answered) in
          subst (λ w. Fine w p) (sym (on gots))
          (fine-more p (p - 1) (pages base known total (start_of p size) (page_target (p - 1)) gots)
          (follows p two) more (starts-within p le)
          (subst (λ end. Fine (pages base known total end (page_target (p - 1)) gots) (p - 1))
          ends before))

  -- over a fetch that tells the pages the walk never stops, and ends with the changes that are due
  pub run : (answers : List ℕ → Got → Type 0) → Serves answers → (gots : List Got)
      → Run answers gots
  unfolding Run
  run answers serves [] = λ p one le kn h. tt
  run answers serves (got ∷ gots) = step answers serves got gots (run answers serves gots)

  -- the last page ends with the stream
  last-ends : end_at count ≡ total
  last-ends =
      let c = pages-cover total size some in
      let one : 1 ≤ count = omega arith in
      let next : start_of count size + size ≡ count * size =
      sym (suc-mul (count - 1) size) ∙ ap (λ n. n * size) (back-one count one) in
      let l : length (map (activity base) (slice count)) ≡ length (slice count) = simp length-map in
      let e = page-ends (start_of count size) size seen c.0 in
      omega (arith, e, l, next, c.0, c.1)
    where
      back-one : (n : ℕ) → 1 ≤ n → suc (n - 1) ≡ n
      back-one n one = omega (arith, one)

  take-whole : {A : Type 0} (n : ℕ) (xs : List A) → length xs ≤ n → take n xs ≡ xs
  take-whole zero [] h = refl
  take-whole zero (x ∷ xs) h = absurd (omega (arith, h))
  take-whole (suc n) [] h = refl
  take-whole (suc n) (x ∷ xs) h = ap (λ rest. x ∷ rest) (take-whole n xs (omega (arith, h)))

  last-later : later count ≡ map (change_told base) (drop known seen)
  last-later =
      let e = last-ends in
      let l : length (map (activity base) (slice count)) ≡ min size (total - start_of count size) =
      simp (length-map, length-take, length-drop) in
      ap (λ xs. map (change_told base) (drop known xs))
      (take-whole (start_of count size + size) seen (omega (arith, e, l)))

  abbrev pub FineWalk : Walk → Type 0
  FineWalk (Gets target) = ⊤
  FineWalk (Stops error) = ⊥
  FineWalk (Ends n changes) = (n ≡ total) × (changes ≡ map (change_told base) (drop known seen))

  fine-walk : (w : Walk) → Fine w count → FineWalk w
  fine-walk (Gets target) f = tt
  fine-walk (Stops error) f = f
  fine-walk (Ends n changes) f = (f.0, f.1 ∙ last-later)

  -- so over a fetch that tells the stream too a harvest is never refused, and harvests every change
  pub walked : (answers : List ℕ → Got → Type 0) → Serves answers
      → ((got : Got) → answers (codes "/changes") got
      → got
      ≡ record { status = 200; body = compact_text (stream_tree (changes_whole base) count total) })
      → tree_of (compact_text (stream_tree (changes_whole base) count total))
      ≡ Ok (stream_tree (changes_whole base) count total)
      → (gots : List Got) → AreAnswers answers (walk base known) gots
      → FineWalk (walk base known gots)
  unfolding Run
  walked answers serves stream tree [] h = tt
  walked answers serves stream tree (got ∷ gots) h =
      let feed_ : feed.Feed = record { total = total; last = page_target count } in
      let is : told (codes "/changes") (feed.feed_of base known) got ≡ Ok feed_ =
      ap (told (codes "/changes") (feed.feed_of base known)) (stream got h.0)
      ∙ told-served (codes "/changes") (feed.feed_of base known)
      (stream_tree (changes_whole base) count total) feed_ tree
      (stream-feed base known count total (le-leb known total within)) in
      let on : (gots : List Got)
      → walk base known (got ∷ gots) ≡ pages base known total total (page_target count) gots =
      λ gots. ap (λ r. on_feed answers base known got r gots) is in
      let answered =
      answers-same answers (λ more. walk base known (got ∷ more))
      (pages base known total total (page_target count)) (λ more. sym (on more)) gots h.1 in
      let ran =
      run answers serves gots count (omega arith) (omega arith) (omega (arith, last-ends, within))
      (subst (λ end. AreAnswers answers (pages base known total end (page_target count)) gots)
      (sym last-ends) answered) in
      fine-walk (walk base known (got ∷ gots))
      (subst (λ w. Fine w count) (sym (on gots))
      (subst (λ end. Fine (pages base known total end (page_target count) gots) count)
      last-ends ran))
