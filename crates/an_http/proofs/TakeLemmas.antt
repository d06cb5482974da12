-- How a request is taken out of the bytes that are held.
use Rattle.std.proofs.Common.{◌≡◌, ℕ, ◌+◌, ◌-◌, ◌≤◌, List, length, take, drop, Bool, true, false, nat_le, if◌then◌else◌, refl, arith}
use Rattle.std.proofs.lemmas.Bool.Decides.{nat_tests}
use Rattle.std.proofs.lemmas.List.{drop-drop, length-drop, take_rest}
use Rattle.an_http.specs.declared.plan.Plan.{Plan}
use Rattle.an_http.specs.declared.request.Request.{Request}
use Rattle.an_http.specs.Requests.{Whole, Front, with_body, request_of}
use Rattle.an_code.specs.declared.code.Code.TheVariants as code

-- the body and what stands behind it
pub taking : (held held' : List ℕ) (end total : ℕ) (plan : Plan) (request : Request)
    → total ≡ end + plan.length → total ≤ length held
    → request ≡ request_of plan (take plan.length (take (length held - end) (drop end held)))
    → held' ≡ drop total held
    → with_body plan (drop end held) ≡ Whole request held'
taking held held' end total plan request is within body behind =
    rw (body, behind, is, take_rest held end)
    (by (nat_le plan.length (length (drop end held)))
    (grind (arith, nat_tests, length-drop end held)))
  where
    by : (test : Bool) → test ≡ true
        → (if test
        then Whole (request_of plan (take plan.length (drop end held)))
        (drop plan.length (drop end held))
        else Front code.Body)
        ≡ Whole (request_of plan (take plan.length (drop end held))) (drop (end + plan.length) held)
    by true h = rw drop-drop refl
    by false h = cc
