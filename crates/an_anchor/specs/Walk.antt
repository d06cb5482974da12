-- For private clauses: what a walk over comments has written of a page, and what it knows of the
-- annotations that they are about.
use Rattle.std.specs.Prelude.{◌≡◌, ℕ, ◌+◌, List, length, map, take, drop, codes, nat_le, nat_lt}
use Rattle.std.specs.Prelude.{bytes_eq, Bool, ◌&&◌, Option, is_some, option_and_then}
use Rattle.std.specs.Prelude.{option_map, slice_get}
use Rattle.serde_json.specs.Data.{Data, number, unsigned, Members, member, no_members}
use Rattle.serde_json.specs.View.{items_of}
use Rattle.an_base.specs.Write.{item_commas}
use Rattle.an_iri.specs.Names.{names_in}
use Rattle.an_model.specs.declared.kept.KeptTarget.{KeptTarget}
use Rattle.an_state.specs.View.{View}
use Rattle.an_list.specs.Page.{page_count}
use Rattle.an_list.specs.declared.page.Paging.{Paging}
use Rattle.an_anchor.specs.Comments.{is_lost_in, texts_in}
use Rattle.an_anchor.specs.declared.comment.Comment.{Comment}
use Rattle.an_anchor.specs.declared.counted.Counted.{Counted}
use Rattle.an_anchor.specs.declared.counted.Window.{Window}
use Rattle.an_anchor.specs.declared.lost.Known.{Known}

-- ---- what is written of a page

-- the item at this place of a list stands on the page
abbrev pub has_place : Window → ℕ → Bool
has_place window place =
    nat_le window.start place && nat_lt place (window.start + window.size)

-- one does of so many items from this place on
abbrev pub meets : Window → ℕ → ℕ → Bool
meets window place count =
    nat_lt 0 count && nat_lt window.start (place + count)
    && nat_lt place (window.start + window.size)

-- these comments were counted, and of these the ones on the page were written, each after a comma
pub record HasCounted (item : Comment → Data) (window : Window) (comments : List Comment)
    (counted : Counted) : Type 0 where
  pub items : counted.items.items ≡ item_commas (items_of (map item
      (take window.size (drop window.start comments))))
  pub total : counted.total ≡ length comments

-- how many pages and items a list has
abbrev pub count_members : Paging → Members
count_members paging =
    member (codes "pages") (number (unsigned (page_count paging.total paging.size)))
    (member (codes "total") (number (unsigned paging.total)) no_members)

-- ---- what is kept of a target

abbrev pub is_kept_about : List ℕ → KeptTarget → Bool
is_kept_about iri kept = bytes_eq kept.source iri

-- its source is the IRI of an annotation
abbrev pub is_kept_comment : List ℕ → KeptTarget → Bool
is_kept_comment base kept = is_some (names_in base kept.source)

abbrev pub is_comment : List ℕ → Comment → Bool
is_comment base comment = is_some (names_in base comment.target.source)

-- ---- what comments are about

-- the texts of the annotation of this IRI, if the view has it
abbrev pub texts_at : List ℕ → View → List ℕ → Option (List (List ℕ))
texts_at base view iri = option_and_then (texts_in view) (names_in base iri)

abbrev pub IsKnown : List ℕ → View → Known → Type 0
IsKnown base view known = known.texts ≡ texts_at base view known.source

-- the comment is lost in the texts of what it is about
abbrev pub is_lost : List ℕ → View → Comment → Bool
is_lost base view comment = is_lost_in (texts_at base view comment.target.source) comment

-- what was found of the comment at this place is what the test says
abbrev pub IsJudged : (Comment → Bool) → List Comment → List Bool → ℕ → Type 0
IsJudged test comments found place =
    slice_get found place ≡ option_map test (slice_get comments place)
