-- The page that is asked for, and how many steps it takes.
use Rattle.std.proofs.Common.{◌≡◌, ℕ, ◌+◌, ◌-◌, List, length, drop, min, Bool, true, false, if◌then◌else◌, Result, Ok, Err, OnOk, refl, sym, ap, ◌∙◌, arith}
use Rattle.std.proofs.lemmas.List.{length-take, length-drop}
use Rattle.an_list.specs.Cost.{Takes, page_cost}
use Rattle.an_list.specs.Page.{lacks_page, on_page, page_count, page_of, paging_of, start_of}
use Rattle.an_list.specs.Site.{Site}
use Rattle.an_list.specs.declared.error.ReadError.{ReadError}
use Rattle.an_list.specs.declared.error.ReadError.TheVariants.{NoPage}
use Rattle.an_list.specs.declared.page.Paging.{Paging}

-- what holds anyway holds where a call succeeds
pub on_ok : {A E : Type 0} {Fact : Type 0} (result : Result A E) → Fact → OnOk result Fact
on_ok (Ok x) fact = fact
on_ok (Err e) fact = tt

-- ---- pages

-- a page of as many has as many
pub page_count-same : {A B : Type 0} (page size : ℕ) (first : List A) (second : List B)
    → length first ≡ length second
    → length (page_of page size first) ≡ length (page_of page size second)
page_count-same page size first second same =
    length-take size (drop (start_of page size) first)
    ∙ ap (min size) (length-drop (start_of page size) first ∙ ap (λ n. n - start_of page size) same
    ∙ sym (length-drop (start_of page size) second))
    ∙ sym (length-take size (drop (start_of page size) second))

pub page_cost-same : {A B : Type 0} (page size : ℕ) (first : List A) (second : List B)
    → length first ≡ length second → page_cost page size first ≡ page_cost page size second
page_cost-same page size first second same =
    rw (same, page_count-same page size first second same) refl

-- ---- a page that was checked

abbrev paged : Site → ℕ → ℕ → Paging
paged site page total = record { page = page; size = site.size; total = total }

module _ (site : Site) (page total : ℕ) where
  abbrev checked : {A : Type 0} → Bool → A → Result A ReadError
  checked lacks shown = if lacks then Err (NoPage (page_count total site.size)) else Ok shown

  -- it is the one that was asked for, and the list has it
  pub paging_is : (paging : Paging) → Ok paging ≡ paging_of site page total
      → paging ≡ paged site page total
  paging_is paging is = by (lacks_page (page_count total site.size) page) is
    where
      by : (lacks : Bool) → Ok paging ≡ checked lacks (paged site page total)
          → paging ≡ paged site page total
      by true is = absurd (cc is)
      by false is = cc is

  pub has_page : (paging : Paging) → Ok paging ≡ paging_of site page total
      → lacks_page (page_count total site.size) page ≡ false
  has_page paging is = by (lacks_page (page_count total site.size) page) is
    where
      by : (lacks : Bool) → Ok paging ≡ checked lacks (paged site page total) → lacks ≡ false
      by true is = absurd (cc is)
      by false is = refl

  -- so what stands on it is shown
  pub shown_there : {A : Type 0} (paging : Paging) (shown : A)
      → Ok paging ≡ paging_of site page total → on_page site page total shown ≡ Ok shown
  shown_there paging shown is = ap (λ lacks. checked lacks shown) (has_page paging is)

  -- or why nothing is
  pub shown_past : {A : Type 0} (error : ReadError) (shown : A)
      → Err error ≡ paging_of site page total → on_page site page total shown ≡ Err error
  shown_past error shown is = by (lacks_page (page_count total site.size) page) is
    where
      by : (lacks : Bool) → Err error ≡ checked lacks (paged site page total)
          → checked lacks shown ≡ Err error
      by true is = cc is
      by false is = absurd (cc is)

  pub past_lacks : (error : ReadError) → Err error ≡ paging_of site page total
      → lacks_page (page_count total site.size) page ≡ true
  past_lacks error is = by (lacks_page (page_count total site.size) page) is
    where
      by : (lacks : Bool) → Err error ≡ checked lacks (paged site page total) → lacks ≡ true
      by true is = refl
      by false is = absurd (cc is)

-- each of its items is fetched, and none past the last page
module _ {A : Type 0} (site : Site) (page : ℕ) (items : List A) where
  pub cost_there : (paging : Paging) → Ok paging ≡ paging_of site page (length items)
      → page_cost page site.size items ≡ length (page_of paging.page paging.size items)
  cost_there paging is =
      ap (λ lacks. if lacks then 0 else length (page_of page site.size items))
      (has_page site page (length items) paging is)
      ∙ ap (λ (paging : Paging). length (page_of paging.page paging.size items))
      (sym (paging_is site page (length items) paging is))

  pub cost_past : (error : ReadError) → Err error ≡ paging_of site page (length items)
      → page_cost page site.size items ≡ 0
  cost_past error is =
      ap (λ lacks. if lacks then 0 else length (page_of page site.size items))
      (past_lacks site page (length items) error is)

-- one cost and then another
pub takes_both : {A E : Type 0} (memory : E) (result : Result A E)
    (old middle new first more rest : ℕ) → Takes memory result middle new more
    → middle ≡ old + first → more ≡ rest
    → Takes memory result old new (first + rest)
takes_both memory (Ok x) old middle new first more rest second one same =
    omega (arith, second, one, same)
takes_both memory (Err e) old middle new first more rest second one same =
    λ other. let is = second other in omega (arith, is, one, same)
