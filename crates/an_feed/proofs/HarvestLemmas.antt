-- What is served of a stream reads back, so a harvest of it has every change.
use Rattle.std.proofs.Common.{◌≡◌, ℕ, ◌<◌, ◌≤◌, ◌+◌, ◌-◌, ◌^◌, Bool, true, false, List, [], ◌∷◌, ◌++◌, length, map, Some, None, Result, Ok, refl, subst, arith, codes, decimal, nat_lt, nat_le, nat_eq, not, ◌&&◌, if◌then◌else◌}
use Rattle.std.specs.Prelude.{option_map, ◌||◌}
use Rattle.std.specs.List.{AllByRecursion, ends_with, list_all}
use Rattle.std.specs.Str.{is_utf8}
use Rattle.std.proofs.lemmas.Bool.{and_parts}
use Rattle.std.proofs.lemmas.Bool.Decides.{nat_tests}
use Rattle.std.proofs.lemmas.Fmt.{IsAscii-decimal}
use Rattle.std.proofs.lemmas.List.Elements.{recursion_from_All}
use Rattle.std.proofs.lemmas.Str.{IsUtf8-append, IsUtf8-from_ascii, IsUtf8-from_is_utf8, is_utf8-from_IsUtf8}
use Rattle.std.proofs.lemmas.Str.Ascii.{IsAscii-nil, IsAscii-cons}
use Rattle.std.proofs.Common.{IsAscii}
use Rattle.serde_json.specs.View.{items_of}
use Rattle.serde_json.specs.Written.{compact_text}
use Rattle.an_base.specs.Name.{is_name}
use Rattle.an_base.specs.Tree.{tree_of}
use Rattle.an_iri.specs.Iris.{changes_iri}
use Rattle.an_state.specs.View.{View}
use Rattle.an_state.specs.declared.activity.Seen.{Seen}
use Rattle.an_state.specs.declared.command.Object.{Object}
use Rattle.an_state.specs.declared.command.Object.TheVariants as object
use Rattle.an_list.specs.Page.{page_link, link_before, link_after, page_count, start_of, page_of, page_iri}
use Rattle.an_list.specs.Site.{Site, goes_on_from, is_base, is_base_sign, is_size}
use Rattle.an_list.specs.declared.page.PageForm.TheVariants as form
use Rattle.an_stream.specs.Activity.{activity}
use Rattle.an_stream.specs.Stream.{changes_whole, changes_page_of, page_of_stream, stream_page, stream_tree}
use Rattle.an_list.specs.declared.error.ReadError.{ReadError}
use Rattle.an_harvest.specs.Walk.{Walk, Gets, Stops, Ends, ComesTo, walk}
use Rattle.an_harvest.specs.declared.fetch.Got.{Got}
use Rattle.an_feed.specs.Served.{Serves, IsServed, HasAll}
use Rattle.an_feed.specs.Told.{IsNamed, IsTold, iri_of}
use Rattle.an_feed.proofs.NameLemmas.{name-ascii}
use Rattle.an_feed.proofs.ServedLemmas as served
use Rattle.an_feed.proofs.ActivityLemmas.{ascii, items-whole, activities-shallow}
use Rattle.an_feed.proofs.ServedLemmas.{if_whole, if_shallow, page-read, stream-read, recursion-drop, recursion-take}

-- ---- texts

base_sign : (b : ℕ) → is_base_sign b ≡ true → b < 128
base_sign b h = grind (arith, nat_tests)

signs-ascii : (text : List ℕ) → list_all is_base_sign text ≡ true → IsAscii text
signs-ascii [] h = IsAscii-nil
signs-ascii (b ∷ text) h =
    let parts = and_parts _ _ h in
    IsAscii-cons b text (base_sign b parts.0) (signs-ascii text parts.1)

ascii-utf8 : (text : List ℕ) → IsAscii text → is_utf8 text ≡ true
ascii-utf8 text h = is_utf8-from_IsUtf8 text (IsUtf8-from_ascii text h)

-- the third of four tests
third : (a b c d : Bool) → (a && b && c && d) ≡ true → c ≡ true
third true true true d h = refl
third true true false d h = cc
third true false c d h = cc
third false b c d h = cc

base-utf8 : (base : List ℕ) → is_base base ≡ true → is_utf8 base ≡ true
unfolding is_base
base-utf8 base h = ascii-utf8 base (signs-ascii base (third
    (goes_on_from (codes "http://") base || goes_on_from (codes "https://") base)
    (nat_le (length base) 200) (list_all is_base_sign base)
    (not (ends_with nat_eq base (codes "/"))) h))

name-utf8 : (text : List ℕ) → is_name text ≡ true → is_utf8 text ≡ true
name-utf8 text h = ascii-utf8 text (name-ascii text h)

both-utf8 : (xs ys : List ℕ) → is_utf8 xs ≡ true → is_utf8 ys ≡ true → is_utf8 (xs ++ ys) ≡ true
both-utf8 xs ys h k =
    is_utf8-from_IsUtf8 (xs ++ ys)
    (IsUtf8-append xs ys (IsUtf8-from_is_utf8 xs h) (IsUtf8-from_is_utf8 ys k))

iri-utf8 : (base : List ℕ) (o : Object) → is_utf8 base ≡ true → IsNamed o
    → is_utf8 (iri_of base o) ≡ true
iri-utf8 base (object.Reader name) h named = absurd named
iri-utf8 base (object.Manifest name) h named =
    both-utf8 base _ h
    (both-utf8 (codes "/manifests/") name (ascii (codes "/manifests/") refl) (name-utf8 name named))
iri-utf8 base (object.Note owner name) h named =
    both-utf8 base _ h (both-utf8 (codes "/annotations/") _ (ascii (codes "/annotations/") refl)
    (both-utf8 owner _ (name-utf8 owner named.0)
    (both-utf8 (codes "/") name (ascii (codes "/") refl) (name-utf8 name named.1))))

iris-utf8 : (base : List ℕ) (seens : List Seen) → is_utf8 base ≡ true → AllByRecursion IsTold seens
    → AllByRecursion (λ seen. is_utf8 (iri_of base seen.object) ≡ true) seens
iris-utf8 base [] h told = tt
iris-utf8 base (seen ∷ seens) h told =
    (iri-utf8 base seen.object h told.0.named, iris-utf8 base seens h told.1)

path-utf8 : (base : List ℕ) → is_utf8 base ≡ true → is_utf8 (changes_iri base) ≡ true
path-utf8 base h = both-utf8 base (codes "/changes") h (ascii (codes "/changes") refl)

page-utf8 : (base : List ℕ) (p : ℕ) → is_utf8 base ≡ true → p < 2 ^ 64
    → is_utf8 (page_iri (changes_whole base) p) ≡ true
page-utf8 base p h small =
    both-utf8 (changes_iri base) _ (path-utf8 base h)
    (both-utf8 (codes "?page=") (decimal p) (ascii (codes "?page=") refl)
    (ascii-utf8 (decimal p) (IsAscii-decimal p small)))

-- ---- links

link-whole : (base : List ℕ) (p : ℕ) → is_utf8 base ≡ true → p < 2 ^ 64
    → if_whole (Some (page_link form.Changes (changes_whole base) p)) ≡ true
link-whole base p h small =
    rw (
      page-utf8 base p h small,
      ascii (codes "id") refl,
      ascii (codes "type") refl,
      ascii (codes "OrderedCollectionPage") refl,
    ) refl

maybe-whole : (base : List ℕ) (b : Bool) (p : ℕ) → is_utf8 base ≡ true → p < 2 ^ 64
    → if_whole
    (option_map (page_link form.Changes (changes_whole base)) (if b then Some p else None)) ≡ true
maybe-whole base true p h small = link-whole base p h small
maybe-whole base false p h small = refl

maybe-shallow : (base : List ℕ) (b : Bool) (p : ℕ)
    → if_shallow
    (option_map (page_link form.Changes (changes_whole base)) (if b then Some p else None))
maybe-shallow base true p = omega arith
maybe-shallow base false p = tt

-- ---- a fetch that gets what is served

some-size : (n : ℕ) → is_size n ≡ true → 1 ≤ n
some-size n h = let least = (and_parts (nat_le 1 n) (nat_le n 100) h).0 in grind (arith, nat_tests)

module _ (site : Site) (view : View) (known : ℕ) (settled : IsServed site view known) where
  told : AllByRecursion IsTold view.seen
  told = recursion_from_All IsTold view.seen settled.changes

  some : 1 ≤ site.size
  some = some-size site.size settled.size

  texts : is_utf8 site.base ≡ true
  texts = base-utf8 site.base settled.base

  count : ℕ
  count = page_count (length view.seen) site.size

  small-page : (p : ℕ) → p ≤ page_count (length view.seen) site.size → p + 1 < 2 ^ 64
  small-page p le = let few = settled.pages in omega (arith, le, few)

  page-is : (p : ℕ) → 1 ≤ p → p ≤ page_count (length view.seen) site.size
      → ◌≡◌ {A = Result (List ℕ) ReadError} (changes_page_of site view p)
      (Ok (compact_text
      (served.page_at site.base site.size view.seen told some known settled.within p)))
  unfolding page_of_stream
  page-is p one le =
      let low : nat_lt p 1 ≡ false = grind (arith, nat_tests) in
      let high : nat_lt (page_count (length view.seen) site.size) p ≡ false =
      grind (arith, nat_tests) in
      rw (low, high) refl

  page-reads : (p : ℕ) → 1 ≤ p → p ≤ page_count (length view.seen) site.size
      → tree_of
      (compact_text (served.page_at site.base site.size view.seen told some known settled.within p))
      ≡ Ok (served.page_at site.base site.size view.seen told some known settled.within p)
  unfolding stream_page
  page-reads p one le =
      let next = small-page p le in
      let within =
      served.starts-within site.base site.size view.seen told some known settled.within p le in
      let few = settled.few in
      let slice =
      recursion-take IsTold site.size _
      (recursion-drop IsTold (start_of p site.size) view.seen told) in
      page-read (changes_whole site.base) p (start_of p site.size)
      (items_of (map (activity site.base) (page_of p site.size view.seen)))
      (link_before form.Changes (changes_whole site.base) p)
      (link_after form.Changes (changes_whole site.base)
      (page_count (length view.seen) site.size) p)
      (path-utf8 site.base texts) (page-utf8 site.base p texts (omega (arith, next)))
      (grind (arith, nat_tests, within, few))
      (items-whole site.base (page_of p site.size view.seen) slice
      (iris-utf8 site.base (page_of p site.size view.seen) texts slice))
      (activities-shallow site.base (page_of p site.size view.seen))
      (maybe-whole site.base (nat_lt 1 p) (p - 1) texts (omega (arith, next)))
      (maybe-whole site.base (nat_lt p (page_count (length view.seen) site.size))
      (p + 1) texts next)
      (maybe-shallow site.base (nat_lt 1 p) (p - 1))
      (maybe-shallow site.base (nat_lt p (page_count (length view.seen) site.size)) (p + 1))

  served-so : (answers : List ℕ → Got → Type 0) → Serves site view answers
      → served.Serves site.base site.size view.seen told some known settled.within answers
  served-so answers serves = record {
    told_pages =
        λ p got one le answer. serves.pages p _ got
        (let few = settled.pages in omega (arith, le, few)) (page-is p one le) answer;
    trees = page-reads;
  }

  has-all : (w : Walk)
      → served.FineWalk site.base site.size view.seen told some known settled.within w
      → HasAll site.base view.seen known w
  has-all (Gets target) h = h
  has-all (Stops error) h = h
  has-all (Ends total changes) h = h

  stream-reads : tree_of (compact_text
      (stream_tree (changes_whole site.base) (page_count (length view.seen) site.size)
      (length view.seen)))
      ≡ Ok (stream_tree (changes_whole site.base) (page_count (length view.seen) site.size)
      (length view.seen))
  stream-reads =
      let last = small-page (page_count (length view.seen) site.size) (omega arith) in
      let few = settled.few in
      stream-read (changes_whole site.base) (page_count (length view.seen) site.size)
      (length view.seen) (path-utf8 site.base texts) (page-utf8 site.base 1 texts (omega arith))
      (page-utf8 site.base (page_count (length view.seen) site.size) texts (omega (arith, last)))
      (grind (arith, nat_tests, few))

  -- so a walk over it never stops, and has every change at its end
  pub harvested : (answers : List ℕ → Got → Type 0) → Serves site view answers → (outcome : Walk)
      → ComesTo answers (walk site.base known) outcome → HasAll site.base view.seen known outcome
  harvested answers serves outcome (gots, all, is) =
      subst (HasAll site.base view.seen known) is
      (has-all (walk site.base known gots)
      (served.walked site.base site.size view.seen told some known settled.within answers
      (served-so answers serves) serves.stream stream-reads gots all))
