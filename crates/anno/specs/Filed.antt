-- Which words ask for a store.
use Rattle.std.specs.Prelude.{ℕ, Bool, true, false, List, option_map, unwrap_or}
use Rattle.an_app.specs.Form.{form_of}
use Rattle.an_app.specs.declared.form.Form.{Form}
use Rattle.an_app.specs.declared.form.Form.TheVariants as form

-- `find` and `trial` have none
abbrev pub has_store : Form → Bool
has_store (form.Find site) = false
has_store form.Import = true
has_store (form.Export by) = true
has_store (form.Harvest site by) = true
has_store (form.Session site) = true
has_store (form.Serve serving) = true
has_store (form.Trial count seed) = false

-- other words are of no form, and ask for none
abbrev pub asks_store : List (List ℕ) → Bool
asks_store words = unwrap_or (option_map has_store (form_of words)) false
