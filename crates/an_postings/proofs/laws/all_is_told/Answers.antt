use Rattle.an_postings.proofs.ToldLemmas.{told-Tells, Tells-one}
use Rattle.an_postings.proofs.ListedLemmas.{listed-Tells, listed-number}
use Rattle.an_postings.proofs.laws.all_is_told.Goals as goal

pub returns-clause-told : goal.returns-clause-told
returns-clause-told c =
    λ counts rows sums manifest prefix classes rises climbs.
    told-Tells counts rows sums manifest prefix classes rises climbs

pub returns-clause-one : goal.returns-clause-one
returns-clause-one c = λ prefix number told other a b. Tells-one prefix number told other a b

pub returns-clause-counted : goal.returns-clause-counted
returns-clause-counted c = λ term words. listed-number words term

pub returns-clause-listed : goal.returns-clause-listed
returns-clause-listed c = λ prefix number terms is. listed-Tells prefix number terms is
