use Rattle.std.proofs.Common.{◌∙◌, ap}
use Rattle.std.specs.Str.Iter.{chars_rest}
use Rattle.an_terms.proofs.HtmlLemmas.{HasCome-start, HasCome-char, HasCome-end}
use Rattle.an_terms.proofs.html.plain_of_html.Goals as goal

pub loop-c-init : goal.loop-c-init
loop-c-init c =
    HasCome-start _ _ _ _ c.utf8.text c.new-kept.ensures.bytes
    (ap chars_rest c.into_iter-c-iterator.ensures.into_iter_gives ∙ c.chars-c-items.ensures.rest)
    c.end_count-ends.ensures

pub loop-c-preserved : goal.loop-c-preserved
loop-c-preserved c =
    rw c.is_inside_behind-inside.ensures
    (HasCome-char _ _ _ _ _ _ _ _ _ _ c.loop-c.invariant c.in-Some.ensures.steps.0
    c.ends_behind-ends.ensures c.opens_tag-opens.ensures
    c.in_ok-push_outside.ensures)

pub returns : goal.returns
returns c = record {
  plain =
      c.from_string.ensures.value
      ∙ HasCome-end _ _ _ _ _ c.loop-c.invariant c.in-None.ensures.steps.0.0;
}
