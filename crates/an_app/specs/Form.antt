-- What the words behind the program's name ask for: the table of the forms.
use Rattle.std.specs.Prelude.{ℕ, ◌<◌, ◌≤◌, ⊤, nat_lt, List, [], ◌∷◌, codes, bytes_eq, if◌then◌else◌}
use Rattle.std.specs.Prelude.{Option, Some, None, option_and_then, option_map}
use Rattle.std.specs.Result.{result_ok}
use Rattle.an_base.specs.Decimal.{decimal_of}
use Rattle.an_base.specs.Outcome.{only_if}
use Rattle.an_list.specs.Site.{Site, site_of}
use Rattle.an_app.specs.declared.form.Form.{Form}
use Rattle.an_app.specs.declared.form.Form.TheVariants as form

-- ---- what a form takes

-- the base of all IRIs, and the size of a page
abbrev pub site_in : List (List ℕ) → Option Site
site_in (base ∷ size ∷ []) = result_ok (site_of base size)
site_in _ = None

abbrev pub find_form : List (List ℕ) → Option Form
find_form words = option_map form.Find (site_in words)

abbrev pub session_form : List (List ℕ) → Option Form
session_form words = option_map form.Session (site_in words)

abbrev pub import_form : List (List ℕ) → Option Form
import_form [] = Some form.Import
import_form _ = None

-- who reads
abbrev pub export_form : List (List ℕ) → Option Form
export_form (by ∷ []) = Some (form.Export by)
export_form _ = None

-- where the server stands, and who reads
abbrev pub harvest_form : List (List ℕ) → Option Form
harvest_form (base ∷ size ∷ by ∷ []) =
    option_map (λ site. form.Harvest site by) (result_ok (site_of base size))
harvest_form _ = None

-- a number from 1 to this one
abbrev pub from_one : ℕ → List ℕ → Option ℕ
from_one most word = option_and_then (only_if (nat_lt 0)) (decimal_of most word)

unfoldable pub port_of : List ℕ → Option ℕ
port_of word = from_one 65535 word

unfoldable pub workers_of : List ℕ → Option ℕ
workers_of word = from_one 64 word

-- a number of 32 bits
unfoldable pub connections_of : List ℕ → Option ℕ
connections_of word = decimal_of 4294967295 word

-- a port, 1 to 64 workers, and at most how many connections are served; 0 bounds them by nothing
abbrev pub serving_of : Option Site → Option ℕ → Option ℕ → Option ℕ → Option Form
serving_of (Some site) (Some port) (Some workers) (Some connections) = Some (form.Serve (record {
  settings = site;
  port = port;
  workers = workers;
  connections = connections;
}))
serving_of _ _ _ _ = None

abbrev pub serving_at : Option Site → Option ℕ → List (List ℕ) → Option Form
serving_at settings port (workers ∷ connections ∷ []) =
    serving_of settings port (workers_of workers) (connections_of connections)
serving_at settings port _ = None

unfoldable pub serving_in : Option Site → List (List ℕ) → Option Form
serving_in settings [] = None
serving_in settings (port ∷ words) = serving_at settings (port_of port) words

abbrev pub serve_form : List (List ℕ) → Option Form
serve_form (base ∷ size ∷ words) = serving_in (result_ok (site_of base size)) words
serve_form _ = None

-- a trial has 1 to 50,000 annotations, and its seed has 31 bits
abbrev pub trial_size : List ℕ → Option ℕ
trial_size count = from_one 50000 count

abbrev pub trial_seed : List ℕ → Option ℕ
trial_seed seed = decimal_of 2147483647 seed

abbrev pub trial_of : List ℕ → List ℕ → Option Form
trial_of count seed =
    option_and_then (λ count. option_map (form.Trial count) (trial_seed seed)) (trial_size count)

abbrev pub trial_form : List (List ℕ) → Option Form
trial_form (count ∷ seed ∷ []) = trial_of count seed
trial_form _ = None

-- ---- the table

-- the form of this name, with the words behind the name
unfoldable pub form_named : List ℕ → List (List ℕ) → Option Form
form_named name words =
    if bytes_eq name (codes "find") then find_form words
    else (if bytes_eq name (codes "import") then import_form words
    else (if bytes_eq name (codes "export") then export_form words
    else (if bytes_eq name (codes "harvest") then harvest_form words
    else (if bytes_eq name (codes "session") then session_form words
    else (if bytes_eq name (codes "serve") then serve_form words
    else (if bytes_eq name (codes "trial") then trial_form words else None))))))

-- the form of words, the first of which names the store, and isn't empty
abbrev pub form_of : List (List ℕ) → Option Form
form_of (store ∷ name ∷ words) =
    if bytes_eq store [] then None else form_named name words
form_of _ = None

-- ---- a server

-- a server has a port and some workers, but few of them
abbrev pub IsServed : Form → Type 0
IsServed (form.Serve serving) =
    (0 < serving.port) × (1 ≤ serving.workers) × (serving.workers ≤ 64)
IsServed (form.Find site) = ⊤
IsServed form.Import = ⊤
IsServed (form.Export by) = ⊤
IsServed (form.Harvest site by) = ⊤
IsServed (form.Session site) = ⊤
IsServed (form.Trial count seed) = ⊤
