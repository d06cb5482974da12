-- The members of an annotation, written up to each cut.
use Rattle.std.proofs.Common.{◌≡◌, ℕ, List, [], ◌++◌, true, sym, ap, ap₂, ◌∙◌}
use Rattle.serde_json.specs.Data.{Members}
use Rattle.an_base.specs.Cut.{is_before, below, above}
use Rattle.an_base.specs.Tree.{ascend, names}
use Rattle.an_base.specs.Write.{commas}
use Rattle.an_base.proofs.CutLemmas.{commas-below, commas-split, above-empty}

pub up_to_first : (high : List ℕ) (ms : Members) (old new : List ℕ) → old ≡ []
    → new ≡ old ++ commas (below high (above [] ms)) → new ≡ commas (below high ms)
up_to_first high ms old new none text =
    text ∙ ap₂ (λ front all. front ++ commas (below high all)) none (above-empty ms)

pub up_to_next : (low high : List ℕ) (ms : Members) (old new : List ℕ) → ascend (names ms) ≡ true
    → is_before low high ≡ true → old ≡ commas (below low ms)
    → new ≡ old ++ commas (below high (above low ms)) → new ≡ commas (below high ms)
up_to_next low high ms old new h order before text =
    text ∙ ap (λ front. front ++ commas (below high (above low ms))) before
    ∙ sym (commas-below low high ms h order)

pub up_to_end : (low : List ℕ) (ms : Members) (old new : List ℕ) → ascend (names ms) ≡ true
    → old ≡ commas (below low ms) → new ≡ old ++ commas (above low ms) → new ≡ commas ms
up_to_end low ms old new h before text =
    text ∙ ap (λ front. front ++ commas (above low ms)) before ∙ sym (commas-split low ms h)
