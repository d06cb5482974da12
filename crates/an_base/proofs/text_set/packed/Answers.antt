use Rattle.std.proofs.Common.{◌++◌, ◌∷◌, [], map, sym, ap₂, subst, string_bytes}
use Rattle.an_base.specs.TextSet.{Ascend}
use Rattle.an_base.proofs.TextSetLemmas.{ascend-texts, ascend-next}
use Rattle.an_base.proofs.text_set.packed.Goals as goal

pub loop-text-init : goal.loop-text-init
loop-text-init c =
    let all =
    ap₂ (λ set keys. set ++ map string_bytes keys) c.new-set.ensures.none
    c.into_iter-text-iterator.ensures.into_iter_gives.0 in
    record {
      texts = all;
      order =
          subst Ascend (sym all)
          (ascend-texts c.args.texts.keys c.into_iter-text-iterator.ensures.into_iter_gives.4);
    }

pub followed_by-requires : goal.followed_by-requires
followed_by-requires c = record {
  order =
      subst (λ text. Ascend (c.loop-text.set ++ text ∷ [])) (sym c.as_str.ensures.value)
      (ascend-next c.loop-text.set (string_bytes c.in-Some.text) (map string_bytes c.next.new.self)
      (subst (λ keys. Ascend (c.loop-text.set ++ map string_bytes keys)) c.in-Some.ensures.steps
      c.loop-text.invariant.order));
}
