use Rattle.std.proofs.Common.{◌++◌, ◌∷◌, [], ap, ◌∙◌}
use Rattle.an_base.proofs.TextSetLemmas.{followed, packed-followed}
use Rattle.an_base.proofs.text_set.TextSet.followed_by.Goals as goal

pub invariant_of-result : goal.invariant_of-result
invariant_of-result c =
    packed-followed c.self.inside.ends.items c.self.inside.bytes.items c.args.text.now _ _
    c.args.self c.self.invariant
    (followed c.self.inside.ends.items c.self.inside.bytes.items c.args.text.now _ _ c.in_ok-end.end
    c.self.invariant.ends
    (c.in_ok-extend_from_slice.ensures.items
    ∙ ap (λ text. c.self.inside.bytes.items ++ text) c.as_bytes.ensures.value)
    c.in_ok-push.ensures.items
    (c.in_ok-end.ensures.value ∙ c.len.ensures ∙ c.extend_from_slice.new.self.ok.0)) c.self.view_is
    c.requires.order c.utf8.text

pub returns : goal.returns
returns c = record {
  value =
      (followed c.self.inside.ends.items c.self.inside.bytes.items c.args.text.now _ _
      c.in_ok-end.end c.self.invariant.ends
      (c.in_ok-extend_from_slice.ensures.items
      ∙ ap (λ text. c.self.inside.bytes.items ++ text) c.as_bytes.ensures.value)
      c.in_ok-push.ensures.items
      (c.in_ok-end.ensures.value ∙ c.len.ensures ∙ c.extend_from_slice.new.self.ok.0)).texts
      ∙ ap (λ texts. texts ++ c.args.text.now ∷ []) c.self.view_is;
}
