-- What the fields of a head say of the request. Each word is of the values of the fields of one
-- name, in their order.
use Rattle.std.specs.Prelude.{ℕ, List, [], ◌∷◌, length, take, drop, codes, Bool, false, not, ◌&&◌}
use Rattle.std.specs.Prelude.{◌||◌, ◌==◌, nat_lt, nat_eq, if◌then◌else◌, Option, Some, None}
use Rattle.std.specs.Prelude.{Result, Ok, Err}
use Rattle.std.specs.List.{starts_with}
use Rattle.an_base.specs.Outcome.{only_if}
use Rattle.an_base.specs.Token.{is_token}
use Rattle.an_code.specs.declared.code.Code.{Code}
use Rattle.an_code.specs.declared.code.Code.TheVariants as code
use Rattle.an_base.specs.declared.span.Prefer.{Prefer}
use Rattle.an_http.specs.declared.request.Auth.{Auth}
use Rattle.an_http.specs.declared.request.Auth.TheVariants.{Absent, Bearer, Other}
use Rattle.an_http.specs.declared.method.Method.{Method}
use Rattle.an_http.specs.declared.method.Method.TheVariants.{Put}
use Rattle.an_http.specs.declared.fields.Case.{Case}
use Rattle.an_http.specs.declared.fields.Case.TheVariants.{Exact, Any}
use Rattle.an_message.specs.Framing.{is_same_name, length_of}

-- how many bytes a body may have
abbrev pub body_limit : ℕ
body_limit = 1048576

-- how many bytes the body has, by the length that Content-Length writes (RFC 9112, section 6.3)
abbrev pub length_within : Option ℕ → Result ℕ Code
length_within None = Err code.Length
length_within (Some n) = if nat_lt body_limit n then Err code.Large else Ok n

-- how many bytes the body has without Content-Length, which a PUT needs
abbrev pub no_length : Option Method → Result ℕ Code
no_length (Some Put) = Err code.LengthRequired
no_length _ = Ok 0

-- how many bytes the body has, by Content-Length
abbrev pub body_length : Option Method → List (List ℕ) → Result ℕ Code
body_length method [] = no_length method
body_length method (value ∷ []) = length_within (length_of value)
body_length method (_ ∷ _ ∷ _) = Err code.Length

-- the token behind `Bearer` in any case and one space (RFC 6750, section 2.1)
abbrev pub token_of : List ℕ → Option (List ℕ)
token_of value =
    if is_same_name (take 7 value) (codes "Bearer ") then only_if is_token (drop 7 value) else None

abbrev pub signed_by : Option (List ℕ) → Auth
signed_by None = Other
signed_by (Some token) = Bearer token

-- who signs, by Authorization: two such fields sign nobody
abbrev pub auth_of : List (List ℕ) → Auth
auth_of [] = Absent
auth_of (value ∷ []) = signed_by (token_of value)
auth_of (_ ∷ _ ∷ _) = Other

-- whether the bytes begin with this word, as it is written or in any case
abbrev pub begins : Case → List ℕ → List ℕ → Bool
begins Exact word bytes = starts_with nat_eq bytes word
begins Any word bytes = is_same_name (take (length word) bytes) word

-- whether the word stands somewhere in the bytes
abbrev pub says : Case → List ℕ → List ℕ → Bool
says case word [] = false
says case word (b ∷ bytes) = begins case word (b ∷ bytes) || says case word bytes

-- whether one of the values says the word
abbrev pub any_says : Case → List ℕ → List (List ℕ) → Bool
any_says case word [] = false
any_says case word (value ∷ values) = says case word value || any_says case word values

-- what Prefer asks of a container (Web Annotation Protocol, section 4.2)
abbrev pub prefer_of : List (List ℕ) → Prefer
prefer_of values = record {
  minimal = any_says Exact (codes "http://www.w3.org/ns/ldp#PreferMinimalContainer") values;
  iris = any_says Exact (codes "http://www.w3.org/ns/oa#PreferContainedIRIs") values
      && not (any_says Exact (codes "http://www.w3.org/ns/oa#PreferContainedDescriptions") values);
}

-- whether the connection closes behind the request, by the minor version and Connection
-- (RFC 9112, section 9.3)
abbrev pub closes : ℕ → List (List ℕ) → Bool
closes minor values = minor == 0 || any_says Any (codes "close") values
