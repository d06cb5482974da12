use Rattle.std.proofs.Common.{◌≡◌, rules, string_bytes, sym, ap, ◌∙◌}
use Rattle.serde_json.specs.Data.{string}
use Rattle.serde_json.specs.View.{view}
use Rattle.serde_json.specs.declared.value.Value.{the_lemmas}
use Rattle.an_base.specs.Tree.{is_whole}
use Rattle.an_base.proofs.TreeLemmas.{is_utf8-string_bytes}
use Rattle.an_base.proofs.tree.+whole.Goals as goal

pub is_whole-returns-in-String-clause-whole : goal.is_whole-returns-in-String-clause-whole
is_whole-returns-in-String-clause-whole t c =
    let seen : view c.args.value.now ≡ string (string_bytes c.in-String.field-0) =
    rw c.in-String.is (search (rules, the_lemmas)) in
    sym (ap is_whole seen ∙ is_utf8-string_bytes c.in-String.field-0)
