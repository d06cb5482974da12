-- The bytes of a reply (RFC 9112, section 4; RFC 9110, sections 8, 10 and 11; and the headers of
-- the Fetch standard).
use Rattle.std.specs.Prelude.{ℕ, List, [], ◌++◌, length, codes, decimal}
use Rattle.std.specs.Prelude.{Bool, true, false, ◌||◌, if◌then◌else◌}
use Rattle.an_http.specs.declared.status.Status.{Status}
use Rattle.an_http.specs.declared.status.Status.TheVariants as status
use Rattle.an_http.specs.declared.reply.Allow.{Allow}
use Rattle.an_http.specs.declared.reply.Allow.TheVariants as allow
use Rattle.an_http.specs.declared.reply.Media.{Media}
use Rattle.an_http.specs.declared.reply.Media.TheVariants as media
use Rattle.an_http.specs.declared.reply.Extra.{Extra}
use Rattle.an_http.specs.declared.reply.Extra.TheVariants as extra
use Rattle.an_http.specs.declared.reply.Reply.{Reply}
use Rattle.an_http.specs.Status.{number_of, phrase_of}

-- the methods of a route
abbrev pub methods_of : Allow → List ℕ
methods_of allow.Absent = []
methods_of allow.Full = codes "GET, HEAD, OPTIONS, PUT, DELETE"
methods_of allow.ReadOnly = codes "GET, HEAD, OPTIONS"
methods_of allow.WriteOnly = codes "OPTIONS, PUT, DELETE"

abbrev pub status_line : Status → List ℕ
status_line status =
    codes "HTTP/1.1 "
    ++ (decimal (number_of status) ++ (codes " " ++ (phrase_of status ++ codes "\r\n")))

-- what a browser asks before it sends a request to another origin
abbrev pub preflight_of : List ℕ → List ℕ
preflight_of methods =
    codes "Access-Control-Allow-Headers: Authorization, Content-Type, Prefer\r\n"
    ++ (codes "Access-Control-Allow-Methods: " ++ (methods ++ codes "\r\n"))

abbrev pub preflight_lines : Extra → Allow → List ℕ
preflight_lines extra.Preflight methods = preflight_of (methods_of methods)
preflight_lines extra.Absent methods = []
preflight_lines extra.Resource methods = []
preflight_lines extra.Container methods = []
preflight_lines extra.Bearer methods = []

abbrev pub allow_line : Allow → List ℕ
allow_line allow.Absent = []
allow_line allow.Full = codes "Allow: " ++ (methods_of allow.Full ++ codes "\r\n")
allow_line allow.ReadOnly = codes "Allow: " ++ (methods_of allow.ReadOnly ++ codes "\r\n")
allow_line allow.WriteOnly = codes "Allow: " ++ (methods_of allow.WriteOnly ++ codes "\r\n")

abbrev pub close_line : Bool → List ℕ
close_line true = codes "Connection: close\r\n"
close_line false = []

-- whether replies of this status have no content
abbrev pub is_empty : Status → Bool
is_empty status.NoContent = true
is_empty _ = false

abbrev pub length_line : Bool → ℕ → List ℕ
length_line true count = []
length_line false count = codes "Content-Length: " ++ (decimal count ++ codes "\r\n")

abbrev pub type_line : Media → List ℕ
type_line media.Annotation =
    codes "Content-Type: application/ld+json; profile=\"http://www.w3.org/ns/anno.jsonld\"\r\n"
type_line media.Manifest =
    codes "Content-Type: application/ld+json; "
    ++ codes "profile=\"http://iiif.io/api/presentation/3/context.json\"\r\n"
type_line media.Search =
    codes "Content-Type: application/ld+json; "
    ++ codes "profile=\"http://iiif.io/api/search/2/context.json\"\r\n"
type_line media.Changes =
    codes "Content-Type: application/ld+json; "
    ++ codes "profile=\"http://iiif.io/api/discovery/1/context.json\"\r\n"
type_line media.Json = codes "Content-Type: application/json\r\n"
type_line media.Absent = []

-- links of the Web Annotation Protocol, sections 3.1 and 4.1, and the challenge of RFC 6750,
-- section 3
abbrev pub extra_lines : Extra → List ℕ
extra_lines extra.Resource = codes "Link: <http://www.w3.org/ns/ldp#Resource>; rel=\"type\"\r\n"
extra_lines extra.Container =
    codes "Link: <http://www.w3.org/ns/ldp#BasicContainer>; rel=\"type\"\r\n"
    ++ (codes "Link: <http://www.w3.org/TR/annotation-protocol/>; "
    ++ codes "rel=\"http://www.w3.org/ns/ldp#constrainedBy\"\r\n")
extra_lines extra.Bearer = codes "WWW-Authenticate: Bearer\r\n"
extra_lines extra.Preflight = []
extra_lines extra.Absent = []

-- the lines up to `Allow`, those behind them, and the empty line at the end
abbrev pub first_lines : Reply → List ℕ
first_lines reply =
    status_line reply.status
    ++ (preflight_lines reply.extra reply.allow
    ++ (codes "Access-Control-Allow-Origin: *\r\n" ++ allow_line reply.allow))

abbrev pub last_lines : Reply → Bool → List ℕ
last_lines reply close =
    close_line close
    ++ (length_line (is_empty reply.status) (length reply.body)
    ++ (type_line reply.media ++ (extra_lines reply.extra ++ codes "\r\n")))

-- HEAD is answered with the head that GET has
abbrev pub content_of : Reply → Bool → List ℕ
content_of reply head_only = if head_only || is_empty reply.status then [] else reply.body

abbrev pub reply_bytes : Reply → Bool → Bool → List ℕ
reply_bytes reply head_only close =
    first_lines reply ++ (last_lines reply close ++ content_of reply head_only)

-- the reply for want of memory
abbrev pub memory_reply : List ℕ
memory_reply =
    codes "HTTP/1.1 503 Service Unavailable\r\nAccess-Control-Allow-Origin: *\r\n"
    ++ (codes "Connection: close\r\nContent-Length: 18\r\n"
    ++ codes "Content-Type: application/json\r\n\r\n{\"error\":\"memory\"}")
