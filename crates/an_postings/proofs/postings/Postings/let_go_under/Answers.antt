use Rattle.an_postings.proofs.LeanLemmas.{changed-removed}
use Rattle.an_postings.proofs.postings.Postings.let_go_under.Goals as goal

pub returns-then-let_go_in : goal.returns-then-let_go_in
returns-then-let_go_in c =
    record {
      leaner =
          changed-removed c.args.manifest.now _ c.args.self.now c.let_go_in.new.self
          c.self.inside.manifests.entries c.remove.new.self.entries
          c.self.view_is c.remove.ensures.entries c.remove.ensures.updates.1
          (c.let_go_in.ensures.none c.if-let_go_in.true) c.let_go_in.ensures.leaner;
    }
