use Rattle.std.proofs.Common.{◌≡◌, ◌++◌, [], ◌∷◌, cond, true, false, take, sym, ap, ◌∙◌, append-nil, append_assoc, arith}
use Rattle.std.specs.Prelude.{filter, is_some}
use Rattle.an_iri.specs.Names.{names_in}
use Rattle.an_anchor.proofs.TargetLemmas.{taken-more}
use Rattle.an_anchor.specs.Comments.{numbered}
use Rattle.an_anchor.specs.Walk.{is_comment}
use Rattle.an_anchor.proofs.targets.push_targets.Goals as goal
use Rattle.an_anchor.proofs.targets.push_targets.Goals.{then-branch+in_ok-comment+in_ok-push, else-branch}

pub loop-target-preserved : goal.loop-target-preserved
loop-target-preserved c =
    let base = c.args.base.now in
    let test = is_comment base in
    let row = c.args.row.now in
    let targets = c.args.targets.now in
    let old = c.args.comments.now.items in
    let i = c.loop-target.target-index in
    let target = c.target-item.result in
    let so_far = filter test (numbered row 0 (take i targets)) in
    let one = numbered row i (target ∷ []) in
    let more = taken-more row test targets i target c.loop-target-test.true c.target-item.is in
    let asked =
    c.in_ok-is_note_iri.ensures ∙ ap (λ iri. is_some (names_in base iri)) c.as_str.ensures.value in
    elim c.if-branch.branch [
      | then-branch+in_ok-comment+in_ok-push w ↦
          let pass : is_some (names_in base target.source) ≡ true = sym asked ∙ w.if-branch.true in
          let last =
          w.in_ok-comment.ensures
          ∙ ap (λ n. numbered row n (target ∷ [])) c.loop-target.invariant.number
          ∙ sym (ap (λ b. cond b one []) pass) in
          rw (w.comments-is, more) (record {
            found =
                w.in_ok-push.ensures.items
                ∙ ap (λ front. front ++ w.in_ok-comment.field-0 ∷ []) c.loop-target.invariant.found
                ∙ append_assoc old so_far (w.in_ok-comment.field-0 ∷ [])
                ∙ ap (λ last. old ++ (so_far ++ last)) last;
            number = omega (arith, c.loop-target.invariant.number);
          })
      | else-branch w ↦
          let pass : is_some (names_in base target.source) ≡ false =
          sym asked ∙ w.if-branch.false in
          rw (w.comments-is, more) (record {
            found =
                c.loop-target.invariant.found ∙ ap (λ last. old ++ last) (sym (append-nil so_far))
                ∙ ap (λ last. old ++ (so_far ++ last)) (sym (ap (λ b. cond b one []) pass));
            number = omega (arith, c.loop-target.invariant.number);
          })
    ]
