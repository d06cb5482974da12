-- The head of a request, and what it says (RFC 9112, sections 2 to 5).
use Rattle.std.specs.Prelude.{◌≡◌, ℕ, ◌<◌, ◌≤◌, List, [], length, map, Option, Some, None}
use Rattle.httparse.specs.Grammar.{RequestHead, ReadsRequest}
use Rattle.httparse.specs.Spans.{name_and_value}
use Rattle.an_http.specs.Method.{method_of}
use Rattle.an_http.specs.declared.method.Method.{Method}

-- the method, if some path has it, the target, the minor version of HTTP/1, and the fields: each a
-- name, and a value without the white space around it
pub record Head : Type 0 where
  pub method : Option Method
  pub target : List ℕ
  pub minor : ℕ
  pub fields : List (List ℕ × List ℕ)

-- how many bytes a head may have
abbrev pub head_limit : ℕ
head_limit = 16384

-- how many fields a head may have
abbrev pub field_limit : ℕ
field_limit = 64

-- what a head of the grammar says
abbrev pub head_of : RequestHead → Head
head_of head = record {
  method = method_of head.method;
  target = head.target;
  minor = head.minor;
  fields = map name_and_value head.fields;
}

-- to their last byte these bytes are a head that says this; or they are no head with so few fields
-- as a head may have
abbrev pub ReadsHead : List ℕ → Option Head → Type 0
ReadsHead text (Some head) =
    (h : RequestHead) × ReadsRequest text h [] × (length h.fields ≤ field_limit)
    × (head ≡ head_of h)
ReadsHead text None = (h : RequestHead) → ReadsRequest text h [] → field_limit < length h.fields
