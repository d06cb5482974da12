-- The methods that some path has (RFC 9110, section 9.3).
use Rattle.std.specs.Prelude.{ℕ, List, codes, bytes_eq, if◌then◌else◌, Option, Some, None}
use Rattle.an_http.specs.declared.method.Method.{Method}
use Rattle.an_http.specs.declared.method.Method.TheVariants.{Get, Head, Options, Put, Delete}

-- the name of a method
abbrev pub method_text : Method → List ℕ
method_text Get = codes "GET"
method_text Head = codes "HEAD"
method_text Options = codes "OPTIONS"
method_text Put = codes "PUT"
method_text Delete = codes "DELETE"

-- the method of this name, whose case counts (RFC 9110, section 9.1)
abbrev pub method_of : List ℕ → Option Method
method_of text =
    if bytes_eq text (codes "GET") then Some Get
    else (if bytes_eq text (codes "HEAD") then Some Head
    else (if bytes_eq text (codes "OPTIONS") then Some Options
    else (if bytes_eq text (codes "PUT") then Some Put
    else (if bytes_eq text (codes "DELETE") then Some Delete else None))))
