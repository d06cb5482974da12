-- What a walk over comments counted and wrote, when it meets more of them.
use Rattle.std.proofs.Common.{◌≡◌, ℕ, ◌+◌, ◌<◌, ◌≤◌, List, [], ◌∷◌, ◌++◌, length, map, take, drop, Bool, true, false, ◌&&◌, refl, sym, ap, ◌∙◌, arith, append-nil, length-append}
use Rattle.std.proofs.lemmas.Bool.Decides.{nat_tests}
use Rattle.std.proofs.lemmas.List.{drop_all, map-append, take_all}
use Rattle.std.specs.Prelude.{nat_le, nat_lt}
use Rattle.serde_json.specs.Data.{Data}
use Rattle.serde_json.specs.View.{items_of}
use Rattle.an_base.specs.Write.{item_commas, item_text}
use Rattle.an_base.proofs.WriteLemmas.{item_commas-append}
use Rattle.an_anchor.proofs.WindowLemmas.{window-passed, window-shown}
use Rattle.an_anchor.specs.Walk.{HasCounted, has_place, meets}
use Rattle.an_anchor.specs.declared.comment.Comment.{Comment}
use Rattle.an_anchor.specs.declared.counted.Counted.{Counted}
use Rattle.an_anchor.specs.declared.counted.Window.{Window}

-- an item that doesn't stand on the page is none of one that do
off-page : (window : Window) (place : ℕ) → has_place window place ≡ false
    → meets window place 1 ≡ false
off-page window place off =
    by (nat_le window.start place) (nat_lt place (window.start + window.size)) refl refl off
  where
    by : (from to : Bool) → nat_le window.start place ≡ from
        → nat_lt place (window.start + window.size) ≡ to → (from && to) ≡ false
        → meets window place 1 ≡ false
    by false to before b off =
        let late : nat_lt window.start (place + 1) ≡ false = grind (arith, nat_tests, before) in
        rw late (none (nat_lt 0 1) (nat_lt place (window.start + window.size)))
      where
        none : (a b : Bool) → (a && false && b) ≡ false
        none true b = refl
        none false b = refl
    by true false a after off = rw after (none (nat_lt 0 1) (nat_lt window.start (place + 1)))
      where
        none : (a b : Bool) → (a && b && false) ≡ false
        none true true = refl
        none true false = refl
        none false b = refl
    by true true a b off = absurd (cc off)

module _ (item : Comment → Data) (window : Window) where
  abbrev written : List Comment → List ℕ
  written comments =
      item_commas (items_of (map item (take window.size (drop window.start comments))))

  pub counted-none : (counted : Counted) → counted.items.items ≡ [] → counted.total ≡ 0
      → HasCounted item window [] counted
  counted-none counted items total = record {
    items =
        items
        ∙ sym (ap (λ shown. item_commas (items_of (map item shown)))
        (ap (take window.size) (drop_all window.start [] (omega arith))
        ∙ take_all window.size [] (omega arith)));
    total = total;
  }

  module _ (comments : List Comment) (old new : Counted)
      (has : HasCounted item window comments old) where
    -- one that stands on the page, and was written
    pub counted-shown : (comment : Comment) → has_place window old.total ≡ true
        → new.items.items ≡ old.items.items ++ item_text (item comment) → new.total ≡ old.total + 1
        → HasCounted item window (comments ++ comment ∷ []) new
    counted-shown comment on items total =
        by (nat_le window.start old.total)
        (nat_lt old.total (window.start + window.size)) refl refl on
      where
        by : (from to : Bool) → nat_le window.start old.total ≡ from
            → nat_lt old.total (window.start + window.size) ≡ to → (from && to) ≡ true
            → HasCounted item window (comments ++ comment ∷ []) new
        by true true from to on =
            let first : window.start ≤ old.total = grind (arith, nat_tests, from) in
            let last : old.total < window.start + window.size = grind (arith, nat_tests, to) in
            let shown =
            window-shown window.start window.size comments comment (omega (arith, has.total, first))
            (omega (arith, has.total, last)) in
            let before = take window.size (drop window.start comments) in
            let grown : written (comments ++ comment ∷ [])
            ≡ written comments ++ item_text (item comment) =
            ap (λ shown. item_commas (items_of (map item shown))) shown
            ∙ ap (λ trees. item_commas (items_of trees)) (map-append item before (comment ∷ []))
            ∙ item_commas-append (map item before) (item comment ∷ [])
            ∙ ap (λ last. written comments ++ last) (append-nil (item_text (item comment))) in
            record {
              items = items ∙ ap (λ front. front ++ item_text (item comment)) has.items ∙ sym grown;
              total = omega (arith, total, has.total, length-append comments (comment ∷ []));
            }
        by false to from b on = absurd (cc on)
        by true false a b on = absurd (cc on)

    -- others, of which none stands on the page
    pub counted-passed : (more : List Comment) → meets window old.total (length more) ≡ false
        → new.items.items ≡ old.items.items → new.total ≡ old.total + length more
        → HasCounted item window (comments ++ more) new
    counted-passed more off items total =
        let past = window-passed window.start window.size comments more (rw has.total at off) in
        record {
          items =
              items ∙ has.items ∙ sym (ap (λ shown. item_commas (items_of (map item shown))) past);
          total = omega (arith, total, has.total, length-append comments more);
        }

    -- one that doesn't
    pub counted-off : (comment : Comment) → has_place window old.total ≡ false
        → new.items.items ≡ old.items.items → new.total ≡ old.total + 1
        → HasCounted item window (comments ++ comment ∷ []) new
    counted-off comment off items total =
        counted-passed (comment ∷ []) (off-page window old.total off) items total
