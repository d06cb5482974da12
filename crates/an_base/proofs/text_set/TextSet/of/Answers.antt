use Rattle.std.proofs.Common.{[], map, sym, ap, ap₂, ◌∙◌, string_bytes}
use Rattle.std.specs.BTreeSet.{insert_key}
use Rattle.std.proofs.lemmas.List.Sums.{fold_more}
use Rattle.an_base.proofs.AscendLemmas.{by_bytes}
use Rattle.an_base.proofs.TextSetLemmas.{texts-insert}
use Rattle.an_base.proofs.text_set.TextSet.of.Goals as goal

pub loop-text-preserved : goal.loop-text-preserved
loop-text-preserved c =
    ap (map string_bytes) c.in_ok-insert.ensures.keys
    ∙ texts-insert c.loop-text.found.keys c.in_ok-from_str.field-0
    ∙ ap₂ (insert_key by_bytes) c.loop-text.invariant
    (c.in_ok-from_str.ensures.ok ∙ c.as_str.ensures.value ∙ c.text-item.is)
    ∙ sym (fold_more (insert_key by_bytes) [] c.args.texts.now c.loop-text.text-index _
    c.loop-text-test.true)
