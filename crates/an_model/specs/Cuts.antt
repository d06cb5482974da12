-- Where the members that the server writes stand in the text of an annotation.
use Rattle.std.specs.Prelude.{◌≡◌, codes}
use Rattle.serde_json.specs.Data.{Members}
use Rattle.an_base.specs.Cut.{cut}
use Rattle.an_model.specs.declared.cuts.NoteCuts.{NoteCuts}

-- the cuts at the names of these members
pub record HasCuts (cuts : NoteCuts) (members : Members) : Type 0 where
  pub context : cuts.context ≡ cut (codes "@context") members
  pub created : cuts.created ≡ cut (codes "created") members
  pub creator : cuts.creator ≡ cut (codes "creator") members
  pub id : cuts.id ≡ cut (codes "id") members
  pub modified : cuts.modified ≡ cut (codes "modified") members
