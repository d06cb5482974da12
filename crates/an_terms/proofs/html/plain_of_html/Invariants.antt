use Rattle.std.proofs.Common.{string_bytes}
use Rattle.std.specs.Str.Iter.{chars_rest}
use Rattle.an_terms.proofs.HtmlLemmas.{HasCome}
use Rattle.an_terms.proofs.html.plain_of_html.Given as goal

abbrev pub invariant-loop-c : goal.invariant-loop-c
invariant-loop-c l = HasCome l.text (string_bytes l.kept) l.inside l.ends (chars_rest l.c-iterator)
