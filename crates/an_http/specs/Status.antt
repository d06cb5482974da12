-- The statuses of replies, and the status that each code of a refusal has (RFC 9110, section 15).
use Rattle.std.specs.Prelude.{ℕ, List, codes}
use Rattle.an_code.specs.declared.code.Code.{Code}
use Rattle.an_code.specs.declared.code.Code.TheVariants as code
use Rattle.an_http.specs.declared.status.Status.{Status}
use Rattle.an_http.specs.declared.status.Status.TheVariants as status

abbrev pub number_of : Status → ℕ
number_of status.Ok = 200
number_of status.Created = 201
number_of status.NoContent = 204
number_of status.BadRequest = 400
number_of status.Unauthorized = 401
number_of status.Forbidden = 403
number_of status.NotFound = 404
number_of status.MethodNotAllowed = 405
number_of status.Conflict = 409
number_of status.Gone = 410
number_of status.LengthRequired = 411
number_of status.ContentTooLarge = 413
number_of status.InternalServerError = 500
number_of status.NotImplemented = 501
number_of status.ServiceUnavailable = 503

abbrev pub phrase_of : Status → List ℕ
phrase_of status.Ok = codes "OK"
phrase_of status.Created = codes "Created"
phrase_of status.NoContent = codes "No Content"
phrase_of status.BadRequest = codes "Bad Request"
phrase_of status.Unauthorized = codes "Unauthorized"
phrase_of status.Forbidden = codes "Forbidden"
phrase_of status.NotFound = codes "Not Found"
phrase_of status.MethodNotAllowed = codes "Method Not Allowed"
phrase_of status.Conflict = codes "Conflict"
phrase_of status.Gone = codes "Gone"
phrase_of status.LengthRequired = codes "Length Required"
phrase_of status.ContentTooLarge = codes "Content Too Large"
phrase_of status.InternalServerError = codes "Internal Server Error"
phrase_of status.NotImplemented = codes "Not Implemented"
phrase_of status.ServiceUnavailable = codes "Service Unavailable"

-- the status of a refusal; every other code is of what is malformed
abbrev pub status_of : Code → Status
status_of code.NotSigned = status.Unauthorized
status_of code.NotWriter = status.Forbidden
status_of code.NotOwn = status.Forbidden
status_of code.NotMember = status.Forbidden
status_of code.Route = status.NotFound
status_of code.Absent = status.NotFound
status_of (code.NoPage pages) = status.NotFound
status_of code.Method = status.MethodNotAllowed
status_of code.GroupFixed = status.Conflict
status_of code.TokenTaken = status.Conflict
status_of (code.Version current) = status.Conflict
status_of code.Gone = status.Gone
status_of code.LengthRequired = status.LengthRequired
status_of code.Large = status.ContentTooLarge
status_of code.Keeper = status.InternalServerError
status_of code.Transfer = status.NotImplemented
status_of _ = status.BadRequest
