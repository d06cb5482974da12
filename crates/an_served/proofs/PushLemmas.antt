-- How the text of a served manifest is written, piece by piece.
use Rattle.std.proofs.Common.{◌≡◌, ℕ, suc, ◌+◌, ◌-◌, ◌<◌, ◌≤◌, List, [], ◌∷◌, ◌++◌, length, take, drop, slice_range, get_or, drop-cons, true, codes, Option, Some, None, refl, sym, ap, ap₂, ◌∙◌, append_assoc, append-nil, length-append, arith, min, inl, inr}
use Rattle.std.proofs.lemmas.Bool.{cases_lt}
use Rattle.std.proofs.lemmas.List.{take_at, drop_at, drop-drop, take_all, length-drop}
use Rattle.serde_json.specs.Data.{Data, object, Items, no_items, item, Members, member, put}
use Rattle.serde_json.specs.Find.{get}
use Rattle.serde_json.specs.Written.{compact_text}
use Rattle.an_base.specs.Cut.{below, cut, members_in}
use Rattle.an_base.specs.Tree.{ascend, names}
use Rattle.an_base.specs.Write.{member_text, commas, item_text, item_commas}
use Rattle.an_manifest.specs.declared.cut.Cut.{Cut}
use Rattle.an_manifest.specs.Cuts.{cut_if, cuts_at, canvas_cuts}
use Rattle.an_served.specs.ManifestParts.{beyond, led, piece, IsCutAt}
use Rattle.an_served.specs.Manifest.{with_last, with_one_more, canvas_page, dressed_canvases}
use Rattle.an_manifest.proofs.ReadyLemmas.{IsReady, AreReady}
use Rattle.an_served.proofs.SplitLemmas.{commas-joined, put-split}

-- ---- one piece

pub piece-more : (text : List ℕ) (from to : ℕ) → from < to → to ≤ length text
    → piece text from to ≡ 44 ∷ slice_range text (from + 1) to
unfolding piece
piece-more text from to order within =
    ap₂ (λ n xs. led (take n xs)) {x = to - from} {y = suc (to - (from + 1))} (omega arith)
    (drop-cons text from 0 (omega arith))
    ∙ ap (λ n. 44 ∷ take (to - (from + 1)) (drop n text)) {x = suc from} {y = from + 1}
    (omega arith)

from_end : (text : List ℕ) (from to : ℕ) → to ≤ from → piece text from to ≡ []
unfolding piece
from_end text from to past =
    ap (λ n. led (take n (drop from text))) {x = to - from} {y = 0} (omega arith)

pub piece_written : (text out a b : List ℕ) (from to : ℕ) → from < to → to ≤ length text
    → a ≡ out ++ 44 ∷ [] → b ≡ a ++ slice_range text (from + 1) to → b ≡ out ++ piece text from to
piece_written text out a b from to order within comma part =
    part ∙ ap (λ t. t ++ slice_range text (from + 1) to) comma
    ∙ append_assoc out (44 ∷ []) (slice_range text (from + 1) to)
    ∙ ap (λ t. out ++ t) (sym (piece-more text from to order within))

-- a cut behind the end is at the end
pub piece-end : (text : List ℕ) (from to : ℕ)
    → piece text from to ≡ piece text from (min to (length text))
unfolding piece
piece-end text from to = elim (cases_lt to (length text)) [
  | inl within ↦
      ap (λ n. led (take (n - from) (drop from text))) {x = to} {y = min to (length text)}
      (omega arith)
  | inr past ↦
      ap led (take_all (to - from) (drop from text) (omega (arith, length-drop from text))
      ∙ sym (take_all (min to (length text) - from) (drop from text)
      (omega (arith, length-drop from text))))
]

pub piece-past : (text : List ℕ) (from to : ℕ) → min to (length text) ≤ from
    → piece text from to ≡ []
piece-past text from to past =
    piece-end text from to ∙ from_end text from (min to (length text)) past

-- ---- one value more

pub item_commas-with_last : (one : Data) (values : Items)
    → item_commas (with_last one values) ≡ item_commas values ++ item_text one
item_commas-with_last one no_items = append-nil (item_text one)
item_commas-with_last one (item first values) =
    ap (λ rest. item_text first ++ rest) (item_commas-with_last one values)
    ∙ sym (append_assoc (item_text first) (item_commas values) (item_text one))

pub one_more_written : (one : Data) (values : Items) (a b c d : List ℕ)
    → b ≡ a ++ item_commas values → c ≡ b ++ 44 ∷ [] → d ≡ c ++ compact_text one
    → d ≡ a ++ item_commas (with_last one values)
unfolding item_text
one_more_written one values a b c d kept comma text =
    text ∙ ap (λ t. t ++ compact_text one) (comma ∙ ap (λ t. t ++ 44 ∷ []) kept)
    ∙ append_assoc (a ++ item_commas values) (44 ∷ []) (compact_text one)
    ∙ append_assoc a (item_commas values) (44 ∷ compact_text one)
    ∙ ap (λ t. a ++ t) (sym (item_commas-with_last one values))

put-commas : (name : List ℕ) (value : Data) (members : Members) → ascend (names members) ≡ true
    → commas (put name value members)
    ≡ commas (below name members) ++ (member_text name value ++ commas (beyond name members))
put-commas name value members order =
    ap commas (put-split name value members order)
    ∙ commas-joined (below name members) (member name value (beyond name members))

pub canvas_written : (name : List ℕ) (members : Members) (value : Data) (at : Cut)
    (out a b c text : List ℕ) → ascend (names members) ≡ true
    → IsCutAt name (object members) at → text ≡ compact_text (object members)
    → (0 ≤ at.below → at.below ≤ length text → a ≡ out ++ piece text 0 at.below)
    → b ≡ a ++ member_text name value
    → (at.above ≤ at.size - 1 → at.size - 1 ≤ length text
    → c ≡ b ++ piece text at.above (at.size - 1))
    → c ≡ out ++ commas (put name value members)
canvas_written name members value at out a b c text order held is first put_value second =
    let size = ap length is in
    let x = commas (below name members) in
    let z = commas (beyond name members) in
    let p =
    first (omega arith) (omega (arith, size, held.fits.below))
    ∙ ap (λ t. out ++ piece t 0 at.below) is ∙ ap (λ t. out ++ t) held.front in
    let q =
    second (omega (arith, held.fits.above, held.fits.size)) (omega (arith, size, held.fits.size))
    ∙ ap (λ t. b ++ piece t at.above (at.size - 1)) is ∙ ap (λ t. b ++ t) held.back in
    q ∙ ap (λ t. t ++ z) (put_value ∙ ap (λ t. t ++ member_text name value) p)
    ∙ append_assoc (out ++ x) (member_text name value) z
    ∙ append_assoc out x (member_text name value ++ z)
    ∙ ap (λ t. out ++ t) (sym (put-commas name value members order))

-- ---- canvas after canvas

-- What is left of the canvases: their cuts, their text, and what is written with them.
pub record IsLeft (base name out all rest : List ℕ) (done : ℕ) (cuts : List Cut) : Type 0 where
  pub left : Items
  pub cut : cuts ≡ canvas_cuts left
  pub ready : AreReady left
  pub text : led rest ≡ item_commas left
  pub written : out ++ item_commas (dressed_canvases base name (done + 1) left) ≡ all

-- The next of them, and those behind it.
pub record IsNext (base name out all rest : List ℕ) (done : ℕ) (at : Cut)
    (cuts : List Cut) : Type 0 where
  pub canvas : Data
  pub left : Items
  pub ready : IsReady canvas
  pub later : AreReady left
  pub cut_is : at ≡ cuts_at (codes "annotations") canvas
  pub cut : cuts ≡ canvas_cuts left
  pub text : led rest ≡ item_text canvas ++ item_commas left
  pub written : out
      ++ (item_text (with_one_more (codes "annotations") (canvas_page base name (done + 1)) canvas)
      ++ item_commas (dressed_canvases base name (done + 1 + 1) left)) ≡ all

next_of : (base name out all rest : List ℕ) (done : ℕ) (at : Cut) (cuts : List Cut) (left : Items)
    → at ∷ cuts ≡ canvas_cuts left → AreReady left → led rest ≡ item_commas left
    → out ++ item_commas (dressed_canvases base name (done + 1) left) ≡ all
    → IsNext base name out all rest done at cuts
next_of base name out all rest done at cuts no_items c r t w = absurd (cc)
next_of base name out all rest done at cuts (item canvas left) c r t w = record {
  canvas = canvas;
  left = left;
  ready = r.0;
  later = r.1;
  cut_is = cc;
  cut = cc;
  text = t;
  written = w;
}

next : (base name out all rest : List ℕ) (done : ℕ) (at : Cut) (cuts now : List Cut)
    → now ≡ at ∷ cuts → IsLeft base name out all rest done now
    → IsNext base name out all rest done at cuts
next base name out all rest done at cuts now is h =
    next_of base name out all rest done at cuts h.left (sym is ∙ h.cut) h.ready h.text h.written

pub next_at : (base name out all rest : List ℕ) (done : ℕ) (cuts : List Cut) (i : ℕ) (other : Cut)
    → i < length cuts → IsLeft base name out all rest done (drop i cuts)
    → IsNext base name out all rest done (get_or cuts i other) (drop (i + 1) cuts)
next_at base name out all rest done cuts i other within h =
    let first = get_or cuts i other in
    let parts : drop i cuts ≡ first ∷ drop (i + 1) cuts =
    drop-cons cuts i other within
    ∙ ap (λ n. first ∷ drop n cuts) {x = suc i} {y = i + 1} (omega arith) in
    next base name out all rest done first (drop (i + 1) cuts) (drop i cuts) parts h

none_left : (base name : List ℕ) (n : ℕ) (left : Items) → [] ≡ canvas_cuts left
    → item_commas (dressed_canvases base name n left) ≡ []
none_left base name n no_items e = refl
none_left base name n (item canvas left) e = absurd (cc)

-- all are written
pub all_written : (base name out all rest : List ℕ) (done : ℕ) (cuts : List Cut) → cuts ≡ []
    → IsLeft base name out all rest done cuts → out ≡ all
all_written base name out all rest done cuts none h =
    sym (append-nil out)
    ∙ ap (λ t. out ++ t) (sym (none_left base name (done + 1) h.left (sym none ∙ h.cut)))
    ∙ h.written

length-led : (text : List ℕ) → length (led text) ≡ length text
length-led [] = refl
length-led (sign ∷ text) = refl

drop-led : (text : List ℕ) → drop 1 text ≡ drop 1 (led text)
drop-led [] = refl
drop-led (sign ∷ text) = refl

pub led-item_commas : (items : Items) → led (item_commas items) ≡ item_commas items
unfolding item_text
led-item_commas no_items = refl
led-item_commas (item value items) = refl

size_of : (name : List ℕ) (size below : ℕ) (found : Option Data)
    → (cut_if name size below found).size ≡ size
size_of name size below None = refl
size_of name size below (Some value) = refl

pub cut-size : (name : List ℕ) (tree : Data) → (cuts_at name tree).size ≡ length (compact_text tree)
unfolding cuts_at
cut-size name tree =
    size_of name (length (compact_text tree)) (cut name (members_in tree)) (get name tree)

module _ (base name out all rest : List ℕ) (done : ℕ) (at : Cut) (cuts : List Cut)
    (h : IsNext base name out all rest done at cuts) where
  size : at.size ≡ length (compact_text h.canvas)
  size = ap (λ c. c.size) h.cut_is ∙ cut-size (codes "annotations") h.canvas

  behind_sign : drop 1 rest ≡ compact_text h.canvas ++ item_commas h.left
  unfolding item_text
  behind_sign = drop-led rest ∙ ap (drop 1) h.text

  pub canvas_within : at.size < length rest
  unfolding item_text
  canvas_within = omega (
    arith,
    size,
    length-led rest,
    ap length h.text,
    length-append (compact_text h.canvas) (item_commas h.left),
  )

  pub canvas_text : take at.size (drop 1 rest) ≡ compact_text h.canvas
  canvas_text =
      ap (take at.size) behind_sign
      ∙ take_at (compact_text h.canvas) (item_commas h.left) at.size (sym size)

  pub text_left : led (drop (at.size + 1) rest) ≡ item_commas h.left
  text_left =
      ap led (ap (λ n. drop n rest) {x = at.size + 1} {y = 1 + at.size} (omega arith)
      ∙ sym (drop-drop at.size 1 rest) ∙ ap (drop at.size) behind_sign
      ∙ drop_at (compact_text h.canvas) (item_commas h.left) at.size (sym size))
      ∙ led-item_commas h.left

  pub one_canvas_more : (a b : List ℕ) → a ≡ out ++ 44 ∷ []
      → b ≡ a
      ++ compact_text
      (with_one_more (codes "annotations") (canvas_page base name (done + 1)) h.canvas)
      → IsLeft base name b all (drop (at.size + 1) rest) (done + 1) cuts
  unfolding item_text
  one_canvas_more a b comma text =
      let served =
      with_one_more (codes "annotations") (canvas_page base name (done + 1)) h.canvas in
      let later = item_commas (dressed_canvases base name (done + 1 + 1) h.left) in
      record {
        left = h.left;
        cut = h.cut;
        ready = h.later;
        text = text_left;
        written =
            ap (λ t. t ++ later) (text ∙ ap (λ t. t ++ compact_text served) comma
            ∙ append_assoc out (44 ∷ []) (compact_text served))
            ∙ append_assoc out (44 ∷ compact_text served) later ∙ h.written;
      }
