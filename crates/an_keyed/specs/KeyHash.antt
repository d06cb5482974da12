-- For private clauses: the hash of a key. Of it only this is used, that equal keys have one hash.
use Rattle.std.specs.Prelude.{ℕ, ◌++◌, fold}
use Rattle.std.specs.Hash as fed
use Rattle.std.specs.Hash.DefaultHasher as sip
use Rattle.an_keyed.specs.Hashes.{short_hash}
use Rattle.an_keyed.specs.Key.{Key}

-- of SipHash-1-3 of the owner, where there is one, and then the name
unfoldable pub key_hash : Key → ℕ
key_hash key =
    short_hash (sip.finish
    (fold sip.write sip.initial (fed.option fed.str key.owner ++ fed.str key.name)))
