-- What a trial writes: a reader, a manifest, and so many annotations that a seed decides.
use Rattle.std.specs.Prelude.{ℕ, zero, suc, ◌+◌, ◌*◌, ◌%◌, pos, ◌==◌, if◌then◌else◌}
use Rattle.std.specs.Prelude.{List, [], ◌∷◌, ◌++◌, slice_index_or, codes, decimal}
use Rattle.serde_json.specs.Data.{Data, number, unsigned, string, array, object, no_items, item}
use Rattle.serde_json.specs.Data.{member, no_members}
use Rattle.an_state.specs.declared.command.Command.TheVariants.{PutReader, PutManifest, PutNote}
use Rattle.an_policy.specs.Inner.{one_group}
use Rattle.an_policy.specs.declared.group.Group.{Group}
use Rattle.an_policy.specs.declared.group.Group.TheVariants as group
use Rattle.an_policy.specs.declared.who.Caller.TheVariants.{Operator, Named}
use Rattle.an_trial.specs.Draws.{draws_behind, number_behind}
use Rattle.an_trial.specs.declared.draws.Draws.{Draws}
use Rattle.an_trial.specs.declared.writes.Write.{Write}

abbrev pub words : List (List ℕ)
words =
    codes "heron" ∷ codes "swan" ∷ codes "gull" ∷ codes "tern" ∷ codes "crane" ∷ codes "stork"
    ∷ codes "ibis" ∷ codes "egret" ∷ []

abbrev pub word_of : ℕ → List ℕ
word_of drawn = slice_index_or words (drawn % 8) []

abbrev pub words_text : ℕ → ℕ → ℕ → List ℕ
words_text first second third =
    word_of first ++ (codes " " ++ (word_of second ++ (codes " " ++ word_of third)))

abbrev pub group_of : ℕ → Group
group_of drawn = if drawn % 4 == 0 then group.Named (codes "a") else group.Public

-- {"groups":["a"],"role":"writer","token":"tok-trial","user":"http://a.example/u/t"}
abbrev pub reader_tree : Data
reader_tree =
    object (member (codes "groups") (array (item (string (codes "a")) no_items))
    (member (codes "role") (string (codes "writer"))
    (member (codes "token") (string (codes "tok-trial"))
    (member (codes "user") (string (codes "http://a.example/u/t")) no_members))))

-- {"height":100,"id":"http://a.example/c1","type":"Canvas","width":80}
abbrev pub canvas_tree : Data
canvas_tree =
    object (member (codes "height") (number (unsigned 100))
    (member (codes "id") (string (codes "http://a.example/c1"))
    (member (codes "type") (string (codes "Canvas"))
    (member (codes "width") (number (unsigned 80)) no_members))))

-- {"items":[CANVAS],"label":{"en":["Log"]},"type":"Manifest"}
abbrev pub manifest_tree : Data
manifest_tree =
    object (member (codes "items") (array (item canvas_tree no_items))
    (member (codes "label")
    (object (member (codes "en") (array (item (string (codes "Log")) no_items)) no_members))
    (member (codes "type") (string (codes "Manifest")) no_members)))

-- {"body":{"type":"TextualBody","value":TEXT},"target":"http://a.example/c1","type":"Annotation"}
abbrev pub note_tree : List ℕ → Data
note_tree text =
    object (member (codes "body")
    (object (member (codes "type") (string (codes "TextualBody"))
    (member (codes "value") (string text) no_members)))
    (member (codes "target") (string (codes "http://a.example/c1"))
    (member (codes "type") (string (codes "Annotation")) no_members)))

-- the first moment: 2024-05-01T10:00:00Z
abbrev pub start : ℕ
start = 1714557600

abbrev pub reader_write : Write
reader_write = record {
  moment = pos start;
  caller = Operator;
  command = PutReader (codes "t") 1 reader_tree;
}

abbrev pub manifest_write : Write
manifest_write = record {
  moment = pos start;
  caller = Operator;
  command = PutManifest (codes "m1") 1 group.Public manifest_tree;
}

abbrev pub note_name : ℕ → List ℕ
note_name n = codes "n" ++ decimal n

-- the reader puts the annotation with this number
abbrev pub note_write : ℕ → Draws → Write
note_write n draws = record {
  moment = pos (start + n);
  caller = Named (codes "t");
  command = PutNote (codes "t") (note_name n) 1 (codes "m1") (one_group (group_of draws.group))
      (note_tree (words_text draws.first draws.second draws.third));
}

-- the annotation behind so many others, each of which took four draws
abbrev pub note_behind : ℕ → ℕ → Write
note_behind seed notes = note_write (notes + 1) (draws_behind (number_behind seed (4 * notes)))

-- the first annotations, so many
abbrev pub note_writes : ℕ → ℕ → List Write
note_writes seed zero = []
note_writes seed (suc notes) = note_writes seed notes ++ note_behind seed notes ∷ []

-- all that is written
abbrev pub writes : ℕ → ℕ → List Write
writes count seed = reader_write ∷ manifest_write ∷ note_writes seed count
