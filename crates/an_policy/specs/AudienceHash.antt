-- For private clauses: the hash of an audience. Of it only this is used, that equal audiences have
-- one hash.
use Rattle.std.specs.Prelude.{ℕ, ◌++◌, fold}
use Rattle.std.specs.Hash as fed
use Rattle.std.specs.Hash.DefaultHasher as sip
use Rattle.std.specs.List.{flat_map}
use Rattle.an_keyed.specs.Hashes.{short_hash}
use Rattle.an_policy.specs.Group.{group_text}
use Rattle.an_policy.specs.Inner.{inner_texts}
use Rattle.an_policy.specs.declared.group.Audience.{Audience}

-- of SipHash-1-3 of the groups' texts and of the owner
unfoldable pub audience_hash : Audience → ℕ
audience_hash a =
    short_hash (sip.finish (fold sip.write sip.initial (fed.str (group_text a.outer)
    ++ (flat_map fed.str (inner_texts a.inner) ++ fed.option fed.str a.owner))))
