-- The parameters that were given, as a form writes them (URL Standard, section 5.2).
use Rattle.std.specs.Prelude.{ℕ, List, [], Option, Some, None, fold}
use Rattle.form_urlencoded.specs.Form.{append_pair}
use Rattle.an_code.specs.Code.{parameter_text}
use Rattle.an_code.specs.declared.parameter.Parameter.{Parameter}

-- the form, with this parameter behind it where a value is given
abbrev pub with_given : List ℕ → Parameter × Option (List ℕ) → List ℕ
with_given form (parameter, None) = form
with_given form (parameter, Some value) = append_pair form (parameter_text parameter) value

-- the form of those of the parameters that are given, in this order
abbrev pub form_of : List (Parameter × Option (List ℕ)) → List ℕ
form_of parameters = fold with_given [] parameters
