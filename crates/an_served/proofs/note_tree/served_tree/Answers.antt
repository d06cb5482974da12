use Rattle.std.proofs.Common.{rules}
use Rattle.std.proofs.lemmas.Str.{is_utf8-from_IsUtf8}
use Rattle.an_served.proofs.NoteTreeLemmas.{dressed_is_served}
use Rattle.an_served.proofs.note_tree.served_tree.Goals as goal

pub from_text-requires : goal.from_text-requires
from_text-requires c =
    let served =
    dressed_is_served c.args.id.now c.args.creator.now c.args.created c.args.modified
    c.args.note.now c.in_ok-text.text.items (is_utf8-from_IsUtf8 _ c.utf8.id)
    (is_utf8-from_IsUtf8 _ c.utf8.creator) (search rules)
    (search rules) c.kept_tree-kept.ensures.tree c.kept_tree-kept.ensures.note (search rules) in
    record { kept = served.kept }

pub returns : goal.returns
returns c =
    let served =
    dressed_is_served c.args.id.now c.args.creator.now c.args.created c.args.modified
    c.args.note.now c.in_ok-text.text.items (is_utf8-from_IsUtf8 _ c.utf8.id)
    (is_utf8-from_IsUtf8 _ c.utf8.creator) (search rules)
    (search rules) c.kept_tree-kept.ensures.tree c.kept_tree-kept.ensures.note (search rules) in
    search (rules, served.reads)
