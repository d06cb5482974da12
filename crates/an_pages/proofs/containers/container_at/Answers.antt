use Rattle.std.proofs.Common.{◌+◌, ◌≤◌, length, subst, ap, sym, ◌∙◌}
use Rattle.an_list.proofs.ListedLemmas.{stand-count, stand-page}
use Rattle.std.specs.Prelude.{if◌then◌else◌}
use Rattle.an_list.specs.Page.{page_of}
use Rattle.an_pages.proofs.ContainerLemmas.{container_found}
use Rattle.an_pages.proofs.containers.container_at.Goals as goal

pub returns-clause-body : goal.returns-clause-body
returns-clause-body g c = λ rows stand.
    let shown =
    rw (sym c.page_of-shown.ensures.page) at
    (stand-page _ 1 c.size.result c.args.places.now rows stand) in
    let first = c.as_slice.ensures.value ∙ c.in_ok-first.ensures.text _ shown in
    container_found _ c.args.whole.now c.args.prefer rows c.base-base.result.now _ _ c.size.result
    c.base-base.ensures.value (stand-count _ _ rows stand) c.size.ensures.value
    (c.in_ok-body.ensures.text _ first)

pub returns-clause-steps : goal.returns-clause-steps
returns-clause-steps g c =
    let shown =
    ap length c.page_of-shown.ensures.page
    ∙ ap (λ n. length (page_of 1 n c.args.places.now)) c.size.ensures.value in
    c.in_ok-first.ensures.steps
    ∙ ap (λ n. c.args.steps.now + (if c.args.prefer.minimal then 0 else n)) shown

pub returns-clause-steps_most : goal.returns-clause-steps_most
returns-clause-steps_most g c =
    let shown =
    ap length c.page_of-shown.ensures.page
    ∙ ap (λ n. length (page_of 1 n c.args.places.now)) c.size.ensures.value in
    subst
    (λ n. c.first_text.new.steps ≤ c.args.steps.now + (if c.args.prefer.minimal then 0 else n))
    shown c.first_text.ensures.steps_most

pub returns-in_err-first-clause-steps_most : goal.returns-in_err-first-clause-steps_most
returns-in_err-first-clause-steps_most g c =
    let shown =
    ap length c.page_of-shown.ensures.page
    ∙ ap (λ n. length (page_of 1 n c.args.places.now)) c.size.ensures.value in
    subst
    (λ n. c.first_text.new.steps ≤ c.args.steps.now + (if c.args.prefer.minimal then 0 else n))
    shown c.first_text.ensures.steps_most

pub returns-in_err-body-clause-steps_most : goal.returns-in_err-body-clause-steps_most
returns-in_err-body-clause-steps_most g c =
    let shown =
    ap length c.page_of-shown.ensures.page
    ∙ ap (λ n. length (page_of 1 n c.args.places.now)) c.size.ensures.value in
    subst
    (λ n. c.first_text.new.steps ≤ c.args.steps.now + (if c.args.prefer.minimal then 0 else n))
    shown c.first_text.ensures.steps_most
