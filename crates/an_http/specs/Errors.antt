-- The replies that tell a refusal.
use Rattle.std.specs.Prelude.{ℕ, List, ◌++◌, codes, decimal}
use Rattle.an_code.specs.Code.{code_text, parameter_text}
use Rattle.an_code.specs.declared.code.Code.{Code}
use Rattle.an_code.specs.declared.code.Code.TheVariants as code
use Rattle.an_http.specs.Status.{status_of}
use Rattle.an_http.specs.declared.errors.Member.{Member}
use Rattle.an_http.specs.declared.errors.Member.TheVariants as member
use Rattle.an_http.specs.declared.reply.Allow.{Allow}
use Rattle.an_http.specs.declared.reply.Extra.{Extra}
use Rattle.an_http.specs.declared.reply.Extra.TheVariants as extra
use Rattle.an_http.specs.declared.reply.Media.TheVariants as media
use Rattle.an_http.specs.declared.reply.Reply.{Reply}
use Rattle.an_http.specs.declared.status.Status.{Status}
use Rattle.an_http.specs.declared.status.Status.TheVariants as status

-- what is told beside a code
abbrev pub member_of : Code → Member
member_of (code.NoteTarget at) = member.At at
member_of (code.NoteBody at) = member.At at
member_of (code.NoteMotivation at) = member.At at
member_of (code.NoteSelector at) = member.At at
member_of (code.ManifestCanvas at) = member.At at
member_of (code.Version current) = member.Current current
member_of (code.Manifests at) = member.At at
member_of (code.Date at) = member.At at
member_of (code.Twice name) = member.Name name
member_of (code.NoPage pages) = member.Pages pages
member_of _ = member.Absent

-- a code, and what is told beside it, as JSON; neither has a sign that JSON escapes
abbrev pub body_with : List ℕ → Member → List ℕ
body_with text member.Absent = codes "{\"error\":\"" ++ (text ++ codes "\"}")
body_with text (member.At at) =
    codes "{\"at\":" ++ (decimal at ++ (codes ",\"error\":\"" ++ (text ++ codes "\"}")))
body_with text (member.Current current) =
    codes "{\"current\":" ++ (decimal current ++ (codes ",\"error\":\"" ++ (text ++ codes "\"}")))
body_with text (member.Name name) =
    codes "{\"error\":\""
    ++ (text ++ (codes "\",\"name\":\"" ++ (parameter_text name ++ codes "\"}")))
body_with text (member.Pages pages) =
    codes "{\"error\":\""
    ++ (text ++ (codes "\",\"pages\":" ++ (decimal pages ++ codes "}")))

-- the body of the reply
abbrev pub error_body : Code → List ℕ
error_body refusal = body_with (code_text refusal) (member_of refusal)

-- a token is asked for with 401 (RFC 9110, section 15.5.2)
abbrev pub challenge : Status → Extra
challenge status.Unauthorized = extra.Bearer
challenge _ = extra.Absent

-- the reply that tells a refusal, at a route with these methods
abbrev pub refusal_reply : Allow → Code → Reply
refusal_reply methods refusal = record {
  status = status_of refusal;
  allow = methods;
  media = media.Json;
  extra = challenge (status_of refusal);
  body = error_body refusal;
}
