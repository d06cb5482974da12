use Rattle.an_postings.proofs.LeanLemmas.{changed-removed}
use Rattle.an_postings.proofs.postings.Postings.take_out_under.Goals as goal

pub returns-then-take_out_in : goal.returns-then-take_out_in
returns-then-take_out_in c =
    record {
      out =
          changed-removed c.args.manifest.now _ c.args.self.now c.take_out_in.new.self
          c.self.inside.manifests.entries c.remove.new.self.entries
          c.self.view_is c.remove.ensures.entries c.remove.ensures.updates.1
          (c.take_out_in.ensures.none c.if-take_out_in.true) c.take_out_in.ensures.out;
    }
