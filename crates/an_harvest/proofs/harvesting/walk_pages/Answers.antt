use Rattle.std.proofs.Common.{◌≤◌, ◌<◌, [], ◌++◌, sym, ap, ◌∙◌, subst, arith, string_bytes, nat_cmp}
use Rattle.std.specs.Map.{lookup}
use Rattle.std.specs.Ordering.{is_eq}
use Rattle.std.specs.Cmp.Lexicographic.{slice_cmp}
use Rattle.an_harvest.specs.Feed.{changes_after}
use Rattle.an_harvest.specs.Walk.{ComesTo, Ends, Stops, pages, followed_by}
use Rattle.an_harvest.proofs.WalkLemmas.{at_some, followed-nil, followed-followed, pages-stop, pages-end, pages-more}
use Rattle.an_harvest.proofs.harvesting.walk_pages.Goals as goal

pub pages-init : goal.pages-init
pages-init g c =
    let answers = g.F.Fetch.answers c.args.fetch.now in
    record {
      above = omega arith;
      noted = (
        [],
        (λ id. ap (λ es. lookup (λ k. is_eq (slice_cmp nat_cmp id (string_bytes k))) es)
            c.new-latest.ensures.empty),
        λ outcome h. subst (ComesTo answers
            (pages c.args.base.now c.args.known c.args.total c.args.total c.args.last))
            (sym (followed-nil outcome)) h,
      );
      same = λ other got. (λ h. h, λ h. h);
      kept = omega arith;
    }

pub returns-in-Err-clause-refused : goal.returns-in-Err-clause-refused
returns-in-Err-clause-refused g c nf nm =
    let answers = g.F.Fetch.answers c.args.fetch.now in
    let r = c.in-Err.ensures.refused nf nm in
    c.pages.invariant.noted.2 (Stops c.in-Err.error)
    (subst (λ target. ComesTo answers
    (pages c.args.base.now c.args.known c.args.total c.pages.end target) (Stops c.in-Err.error))
    c.as_str.ensures.value
    (pages-stop answers c.args.base.now c.args.known c.args.total c.pages.end c.as_str.result.now
    r.0 c.in-Err.error ((c.pages.invariant.same c.as_str.result.now r.0).0 r.1) r.2))

pub returns-in-None-clause-noted : goal.returns-in-None-clause-noted
returns-in-None-clause-noted g c =
    let answers = g.F.Fetch.answers c.args.fetch.now in
    let n = c.in-Ok.ensures.noted in
    let i = c.pages.invariant.noted in
    let noted = changes_after c.args.known n.0 in (
      noted ++ i.0,
      i.2 (Ends c.args.total noted)
          (subst (λ target. ComesTo answers
          (pages c.args.base.now c.args.known c.args.total c.pages.end target)
          (Ends c.args.total noted)) c.as_str.ensures.value
          (pages-end answers c.args.base.now c.args.known c.args.total c.pages.end
          c.as_str.result.now n.1.0 n.0 ((c.pages.invariant.same c.as_str.result.now n.1.0).0 n.1.1)
          n.1.2 (sym n.3 ∙ c.in-None.is))),
      n.4 i.0 i.1,
    )

pub pages-preserved : goal.pages-preserved
pages-preserved g c =
    let answers = g.F.Fetch.answers c.args.fetch.now in
    let n = c.in-Ok.ensures.noted in
    let i = c.pages.invariant.noted in
    let noted = changes_after c.args.known n.0 in
    let falls =
    at_some c.in-Ok.step.next
    ((c.args.known ≤ c.in-Ok.step.start) × (c.in-Ok.step.start < c.pages.end)) c.in-Some.next
    c.in-Some.is c.in-Ok.ensures.falls in
    record {
      above = falls.0;
      noted = (
        noted ++ i.0,
        n.4 i.0 i.1,
        λ outcome h.
            subst (ComesTo answers
            (pages c.args.base.now c.args.known c.args.total c.args.total c.args.last))
            (followed-followed noted i.0 outcome)
            (i.2 (followed_by noted outcome)
            (subst (λ target. ComesTo answers
            (pages c.args.base.now c.args.known c.args.total c.pages.end target)
            (followed_by noted outcome)) c.as_str.ensures.value
            (pages-more answers c.args.base.now c.args.known c.args.total
            c.pages.end c.as_str.result.now n.1.0 n.0 c.in-Some.next outcome
            ((c.pages.invariant.same c.as_str.result.now n.1.0).0 n.1.1) n.1.2
            (sym n.3 ∙ c.in-Some.is)
            (subst (λ start. ComesTo answers
            (pages c.args.base.now c.args.known c.args.total start c.in-Some.next) outcome) n.2
            h)))),
      );
      same =
          λ other got. (
            λ h. (c.pages.invariant.same other got).0 ((c.in-Ok.ensures.same other got).0 h),
            λ h. (c.in-Ok.ensures.same other got).1 ((c.pages.invariant.same other got).1 h),
          );
      kept = omega (arith, c.pages.invariant.kept, c.in-Ok.ensures.faults_kept);
    }
