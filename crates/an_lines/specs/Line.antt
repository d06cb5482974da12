-- The words of a line: a moment, who writes or reads, what is done, to what, and for a put a JSON
-- text.
use Rattle.std.specs.Prelude.{ℕ, ℤ, List, [], length, ◌==◌, bytes_eq, codes, is_none}
use Rattle.std.specs.Prelude.{if◌then◌else◌, Option, Some, None, option_and_then}
use Rattle.std.specs.Result.{result_ok}
use Rattle.an_base.specs.Moment.{moment_of}
use Rattle.an_base.specs.Name.{is_name}
use Rattle.an_http.specs.Method.{method_of}
use Rattle.an_http.specs.declared.method.Method.{Method}
use Rattle.an_http.specs.declared.method.Method.TheVariants.{Get, Head, Options, Put, Delete}
use Rattle.an_routes.specs.Target.{cut_at}
use Rattle.an_lines.specs.declared.line.LineWords.{LineWords}

-- the words, without the references that lend them
pub record Words : Type 0 where
  pub moment : ℤ
  pub by : List ℕ
  pub method : Method
  pub target : List ℕ
  pub tree : List ℕ

abbrev pub lent_words : LineWords → Words
lent_words w =
    record {
      moment = w.moment;
      by = w.by.now;
      method = w.method;
      target = w.target.now;
      tree =
          w.tree.now;
    }

-- the target isn't empty
abbrev pub words_to : ℤ → List ℕ → Method → List ℕ → List ℕ → Option Words
words_to moment by method target tree =
    if length target == 0 then None
    else Some (record { moment = moment; by = by; method = method; target = target; tree = tree })

-- behind the method: a put has a target and a text, a read and a deletion a target alone, and a
-- line does nothing else
abbrev pub words_for : ℤ → List ℕ → Method → List ℕ → Option Words
words_for moment by Get rest =
    if is_none (cut_at 32 rest) then words_to moment by Get rest [] else None
words_for moment by Put rest =
    option_and_then (λ p. words_to moment by Put p.0 p.1) (cut_at 32 rest)
words_for moment by Delete rest =
    if is_none (cut_at 32 rest) then words_to moment by Delete rest [] else None
words_for moment by Head rest = None
words_for moment by Options rest = None

-- behind the moment: who, and the method
abbrev pub words_after : ℤ → List ℕ → Option Words
words_after moment rest =
    option_and_then (λ p.
    option_and_then (λ q.
    option_and_then (λ method. words_for moment p.0 method q.1) (method_of q.0)) (cut_at 32 p.1))
    (cut_at 32 rest)

-- the words of a line, with one space between each two
unfoldable pub words_of : List ℕ → Option Words
words_of text =
    option_and_then (λ p.
    option_and_then (λ moment. words_after moment p.1) (result_ok (moment_of p.0))) (cut_at 32 text)

-- `-`, which names nobody, or a reader's name
abbrev pub by_of : List ℕ → Option (Option (List ℕ))
by_of text =
    if bytes_eq text (codes "-") then Some None else (if is_name text then Some (Some text)
    else None)
