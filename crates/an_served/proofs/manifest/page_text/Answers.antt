use Rattle.std.proofs.Common.{◌++◌, codes, decimal, ap, sym, ◌∙◌, append_assoc}
use Rattle.an_served.specs.ManifestParts.{page_front}
use Rattle.an_served.proofs.PageLemmas.{page_parts}
use Rattle.an_served.proofs.manifest.page_text.Goals as goal

pub returns : goal.returns
returns c base name is =
    let front = page_front base name in
    let digits = decimal c.args.number in
    let behind = codes "?page=1\",\"type\":\"AnnotationPage\"}" in
    c.in_ok-extend_from_slice-2.ensures.items
    ∙ ap (λ t. c.in_ok-out.out.items ++ t) c.as_bytes.ensures.value
    ∙ ap (λ t. t ++ behind) (c.in_ok-out.ensures.text
    ∙ ap (λ t. t ++ digits) (c.in_ok-extend_from_slice.ensures.items
    ∙ ap (λ t. t ++ c.args.front.now) c.clear.ensures.items ∙ is))
    ∙ append_assoc front digits behind
    ∙ sym (page_parts base name c.args.number c.ranges.number.fits)
