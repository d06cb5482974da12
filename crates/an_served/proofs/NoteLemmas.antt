-- The members that the server writes stand at their cuts.
use Rattle.std.proofs.Common.{◌≡◌, ℕ, ℤ, List, [], ◌∷◌, ◌++◌, true, Option, Some, None, is_none, codes, IsTrue, refl, sym, ap, ◌∙◌, append_assoc, length, length-append, ◌≤◌, arith}
use Rattle.std.proofs.lemmas.Bool.{and_from, and_parts}
use Rattle.std.specs.List.{list_all}
use Rattle.serde_json.specs.Data.{Data, null, boolean, number, string, array, object, Members, member}
use Rattle.serde_json.specs.Find.{get_member}
use Rattle.an_base.specs.Cut.{is_before, is_object, members_in, below, above, put_all, lacks, spliced}
use Rattle.an_base.specs.Object.{with_member}
use Rattle.an_base.specs.Tree.{ascend, names, is_tree}
use Rattle.an_base.specs.Write.{commas}
use Rattle.an_base.proofs.CutLemmas.{above-empty, commas-put_all, put_outermost}
use Rattle.an_base.proofs.KeptLemmas.{ordered}
use Rattle.an_served.specs.Note.{dressed}
use Rattle.an_model.specs.Note.{note_refusal, is_bare}
use Rattle.an_model.proofs.KeptNoteLemmas.{note_is_object}
use Rattle.an_served.specs.NoteParts.{served}

-- ---- pieces join

pub two_pieces : (a b c x y : List ℕ) → b ≡ a ++ x → c ≡ b ++ y → c ≡ a ++ (x ++ y)
two_pieces a b c x y first second = second ∙ ap (λ front. front ++ y) first ∙ append_assoc a x y

pub three_pieces : (a b c d x y z : List ℕ) → b ≡ a ++ x → c ≡ b ++ y → d ≡ c ++ z
    → d ≡ a ++ (x ++ (y ++ z))
three_pieces a b c d x y z first second third =
    third ∙ ap (λ front. front ++ z) (two_pieces a b c x y first second) ∙ append_assoc a (x ++ y) z
    ∙ ap (λ last. a ++ last) (append_assoc x y z)

pub three_then : (a b c x y z w : List ℕ) → b ≡ a ++ (x ++ (y ++ z)) → c ≡ b ++ w
    → c ≡ a ++ (x ++ (y ++ (z ++ w)))
three_then a b c x y z w first second =
    second ∙ ap (λ front. front ++ w) first ∙ append_assoc a (x ++ (y ++ z)) w
    ∙ ap (λ last. a ++ last)
    (append_assoc x (y ++ z) w ∙ ap (λ last. x ++ last) (append_assoc y z w))

pub from_empty : (out high : List ℕ) (ms : Members) (later written : List ℕ)
    → written ≡ out ++ (commas (below high ms) ++ later)
    → written ≡ out ++ (commas (below high (above [] ms)) ++ later)
from_empty out high ms later written text =
    text ∙ ap (λ all. out ++ (commas (below high all) ++ later)) (sym (above-empty ms))

pub no_shorter : (out new x : List ℕ) (start end : ℕ) → start ≡ length out → end ≡ length new
    → new ≡ out ++ x → start ≤ end
no_shorter out new x start end s e text = omega (arith, ap length text, length-append out x)

-- ---- what is served is what is put in

dressed_members : (id creator : List ℕ) (created : ℤ) (modified : Option ℤ) (ms : Members)
    → dressed id creator created modified (object ms)
    ≡ object (put_all (served id creator created modified) ms)
dressed_members id creator created None ms = refl
dressed_members id creator created (Some moment) ms = refl

dressed_is : (id creator : List ℕ) (created : ℤ) (modified : Option ℤ) (tree : Data)
    → is_object tree ≡ true
    → dressed id creator created modified tree
    ≡ object (put_all (served id creator created modified) (members_in tree))
dressed_is id creator created modified null h = absurd (cc)
dressed_is id creator created modified (boolean b) h = absurd (cc)
dressed_is id creator created modified (number n) h = absurd (cc)
dressed_is id creator created modified (string text) h = absurd (cc)
dressed_is id creator created modified (array items) h = absurd (cc)
dressed_is id creator created modified (object ms) h =
    dressed_members id creator created modified ms

-- the tree has none of the members that are put in
pub record IsBare (ms : Members) : Type 0 where
  pub context : is_none (get_member (codes "@context") ms) ≡ true
  pub created : is_none (get_member (codes "created") ms) ≡ true
  pub creator : is_none (get_member (codes "creator") ms) ≡ true
  pub id : is_none (get_member (codes "id") ms) ≡ true
  pub modified : is_none (get_member (codes "modified") ms) ≡ true

bare_members : (ms : Members) → is_bare (object ms) ≡ true → IsBare ms
unfolding is_bare
bare_members ms h =
    let p = and_parts (is_none (get_member (codes "@context") ms)) _ h in
    let q = and_parts (is_none (get_member (codes "created") ms)) _ p.1 in
    let r = and_parts (is_none (get_member (codes "creator") ms)) _ q.1 in
    let s = and_parts (is_none (get_member (codes "id") ms)) _ r.1 in
    let t = and_parts (is_none (get_member (codes "modified") ms)) _ s.1 in
    record { context = p.0; created = q.0; creator = r.0; id = s.0; modified = t.0 }

lacks_members : (id creator : List ℕ) (created : ℤ) (modified : Option ℤ) (ms : Members) → IsBare ms
    → lacks (served id creator created modified) ms ≡ true
lacks_members id creator created None ms h =
    and_from _ _ h.created (and_from _ _ h.creator (and_from _ _ h.id refl))
lacks_members id creator created (Some moment) ms h =
    and_from _ _ h.created
    (and_from _ _ h.creator (and_from _ _ h.id (and_from _ _ h.modified refl)))

names_ascend : (id creator : List ℕ) (created : ℤ) (modified : Option ℤ)
    → ascend ([] ∷ names (served id creator created modified)) ≡ true
names_ascend id creator created None = refl
names_ascend id creator created (Some moment) = refl

context_first : (context id creator : List ℕ) (created : ℤ) (modified : Option ℤ)
    → ascend ([] ∷ codes "@context" ∷ names (served id creator created modified)) ≡ true
context_first context id creator created None = refl
context_first context id creator created (Some moment) = refl

context_before : (id creator : List ℕ) (created : ℤ) (modified : Option ℤ)
    → list_all (is_before (codes "@context")) (names (served id creator created modified)) ≡ true
context_before id creator created None = refl
context_before id creator created (Some moment) = refl

spliced_is : (others ms : Members) → ascend ([] ∷ names others) ≡ true → ascend (names ms) ≡ true
    → lacks others ms ≡ true → spliced [] others ms ≡ commas (put_all others ms)
spliced_is others ms order h none =
    sym (commas-put_all [] others ms order h none)
    ∙ ap (λ all. commas (put_all others all)) (above-empty ms)

object_is : (tree : Data) → is_object tree ≡ true → object (members_in tree) ≡ tree
object_is null h = absurd (cc)
object_is (boolean b) h = absurd (cc)
object_is (number n) h = absurd (cc)
object_is (string text) h = absurd (cc)
object_is (array items) h = absurd (cc)
object_is (object ms) h = refl

-- what dresses an annotation, as text and as members
pub record Dresses (others : Members) (whole tree : Data) : Type 0 where
  pub text : spliced [] others (members_in tree) ≡ commas (put_all others (members_in tree))
  pub members : object (put_all others (members_in tree)) ≡ whole

pub dresses : (id creator : List ℕ) (created : ℤ) (modified : Option ℤ) (tree : Data)
    → IsTrue (is_tree tree) → note_refusal tree ≡ None → is_bare tree ≡ true
    → Dresses (served id creator created modified) (dressed id creator created modified tree) tree
dresses id creator created modified tree h note bare =
    let is = note_is_object tree note in
    let without = bare_members (members_in tree) (ap is_bare (object_is tree is) ∙ bare) in
    record {
      text =
          spliced_is (served id creator created modified) (members_in tree)
          (names_ascend id creator created modified) (ordered tree h)
          (lacks_members id creator created modified (members_in tree) without);
      members = sym (dressed_is id creator created modified tree is);
    }

none_from : (o : Option Data) → is_none o ≡ true → o ≡ None
none_from None h = refl
none_from (Some d) h = absurd (cc)

pub shows : (context id creator : List ℕ) (created : ℤ) (modified : Option ℤ) (tree : Data)
    → IsTrue (is_tree tree) → note_refusal tree ≡ None → is_bare tree ≡ true
    → Dresses (member (codes "@context") (string context) (served id creator created modified))
    (with_member (codes "@context") (string context) (dressed id creator created modified tree))
    tree
shows context id creator created modified tree h note bare =
    let is = note_is_object tree note in
    let others = served id creator created modified in
    let without = bare_members (members_in tree) (ap is_bare (object_is tree is) ∙ bare) in
    record {
      text =
          spliced_is (member (codes "@context") (string context) others) (members_in tree)
          (context_first context id creator created modified) (ordered tree h)
          (and_from _ _ without.context
          (lacks_members id creator created modified (members_in tree) without));
      members =
          ap object (sym (put_outermost (codes "@context") (string context) others
          (members_in tree) (ordered tree h) (none_from _ without.context)
          (context_before id creator created modified)))
          ∙ ap (with_member (codes "@context") (string context))
          (sym (dressed_is id creator created modified tree is));
    }
