-- A server has a port and some workers, but few of them.
use Rattle.std.proofs.Common.{◌≡◌, ◌≤◌, ◌<◌, ℕ, Bool, true, false, if◌then◌else◌, List, [], ◌∷◌, Option, Some, None, IfSome, refl, sym, subst, arith}
use Rattle.std.specs.Prelude.{option_and_then, option_map, codes, bytes_eq, nat_le, nat_lt}
use Rattle.std.specs.Str.Parse.{digits_value}
use Rattle.std.proofs.lemmas.Bool.Decides.{nat_tests}
use Rattle.an_base.specs.Decimal.{decimal_of, is_decimal}
use Rattle.an_base.specs.Outcome.{only_if}
use Rattle.an_list.specs.Site.{Site, site_of}
use Rattle.std.specs.Result.{result_ok}
use Rattle.an_app.specs.Form.{connections_of, IsServed, port_of, workers_of, export_form, find_form, form_named, form_of, from_one, harvest_form, import_form, serve_form, serving_at, serving_in, serving_of, session_form, site_in, trial_form, trial_of, trial_seed, trial_size}
use Rattle.an_app.specs.declared.form.Form.{Form}
use Rattle.an_app.specs.declared.form.Form.TheVariants as form

-- ---- a number is from one to the greatest

abbrev Within : ℕ → ℕ → Type 0
Within most number = (0 < number) × (number ≤ most)

within-one : (most number : ℕ) (some : Bool) → nat_lt 0 number ≡ some → number ≤ most
    → IfSome (if some then Some number else None) (Within most)
within-one most number true is few = (grind (arith, nat_tests, is), few)
within-one most number false is few = tt

within-most : (most number : ℕ) (few : Bool) → nat_le number most ≡ few
    → IfSome (option_and_then (only_if (nat_lt 0)) (if few then Some number else None))
    (Within most)
within-most most number true is =
    within-one most number (nat_lt 0 number) refl (grind (arith, nat_tests, is))
within-most most number false is = tt

within-digits : (most : ℕ) (word : List ℕ) (digits : Bool)
    → IfSome (option_and_then (only_if (nat_lt 0))
    (if digits then only_if (λ n. nat_le n most) (digits_value 10 word) else None))
    (Within most)
within-digits most word true =
    within-most most (digits_value 10 word) (nat_le (digits_value 10 word) most) refl
within-digits most word false = tt

pub within : (most : ℕ) (word : List ℕ) → IfSome (from_one most word) (Within most)
within most word = within-digits most word (is_decimal word)

-- ---- forms

served-parts : (site : Option Site) (port workers connections : Option ℕ) (a b : ℕ) → b ≤ 64
    → IfSome port (Within a) → IfSome workers (Within b)
    → IfSome (serving_of site port workers connections) IsServed
served-parts None port workers connections a b few p w = tt
served-parts (Some site) None workers connections a b few p w = tt
served-parts (Some site) (Some port) None connections a b few p w = tt
served-parts (Some site) (Some port) (Some workers) None a b few p w = tt
served-parts (Some site) (Some port) (Some workers) (Some connections) a b few p w =
    let (some, most) = w in (p.0, omega (arith, some), omega (arith, few, most))

within-workers : (word : List ℕ) → IfSome (workers_of word) (Within 64)
unfolding workers_of
within-workers word = within 64 word

within-port : (word : List ℕ) → IfSome (port_of word) (Within 65535)
unfolding port_of
within-port word = within 65535 word

served-at : (settings : Option Site) (port : Option ℕ) (words : List (List ℕ))
    → IfSome port (Within 65535) → IfSome (serving_at settings port words) IsServed
served-at settings port [] is = tt
served-at settings port (workers ∷ []) is = tt
served-at settings port (workers ∷ connections ∷ []) is =
    served-parts settings port (workers_of workers) (connections_of connections) 65535 64
    (omega arith) is (within-workers workers)
served-at settings port (workers ∷ connections ∷ word ∷ words) is = tt

served-in : (settings : Option Site) (words : List (List ℕ))
    → IfSome (serving_in settings words) IsServed
unfolding serving_in
served-in settings [] = tt
served-in settings (port ∷ words) = served-at settings (port_of port) words (within-port port)

served-serve : (words : List (List ℕ)) → IfSome (serve_form words) IsServed
served-serve [] = tt
served-serve (base ∷ []) = tt
served-serve (base ∷ size ∷ words) = served-in (result_ok (site_of base size)) words

served-find : (site : Option Site) → IfSome (option_map form.Find site) IsServed
served-find None = tt
served-find (Some site) = tt

served-session : (site : Option Site) → IfSome (option_map form.Session site) IsServed
served-session None = tt
served-session (Some site) = tt

served-import : (words : List (List ℕ)) → IfSome (import_form words) IsServed
served-import [] = tt
served-import (word ∷ words) = tt

served-export : (words : List (List ℕ)) → IfSome (export_form words) IsServed
served-export [] = tt
served-export (by ∷ []) = tt
served-export (by ∷ word ∷ words) = tt

served-site : (by : List ℕ) (site : Option Site)
    → IfSome (option_map (λ site. form.Harvest site by) site) IsServed
served-site by None = tt
served-site by (Some site) = tt

served-harvest : (words : List (List ℕ)) → IfSome (harvest_form words) IsServed
served-harvest [] = tt
served-harvest (base ∷ []) = tt
served-harvest (base ∷ size ∷ []) = tt
served-harvest (base ∷ size ∷ by ∷ []) = served-site by (result_ok (site_of base size))
served-harvest (base ∷ size ∷ by ∷ word ∷ words) = tt

served-seed : (count : ℕ) (seed : Option ℕ) → IfSome (option_map (form.Trial count) seed) IsServed
served-seed count None = tt
served-seed count (Some seed) = tt

served-size : (count seed : Option ℕ)
    → IfSome (option_and_then (λ count. option_map (form.Trial count) seed) count) IsServed
served-size None seed = tt
served-size (Some count) seed = served-seed count seed

served-trial : (words : List (List ℕ)) → IfSome (trial_form words) IsServed
served-trial [] = tt
served-trial (count ∷ []) = tt
served-trial (count ∷ seed ∷ []) = served-size (trial_size count) (trial_seed seed)
served-trial (count ∷ seed ∷ word ∷ words) = tt

if-served : (b : Bool) (one other : Option Form) → IfSome one IsServed → IfSome other IsServed
    → IfSome (if b then one else other) IsServed
if-served true one other first second = first
if-served false one other first second = second

served-named : (name : List ℕ) (words : List (List ℕ)) → IfSome (form_named name words) IsServed
unfolding form_named
served-named name words =
    if-served (bytes_eq name (codes "find")) _ _ (served-find (site_in words))
    (if-served (bytes_eq name (codes "import")) _ _ (served-import words)
    (if-served (bytes_eq name (codes "export")) _ _ (served-export words)
    (if-served (bytes_eq name (codes "harvest")) _ _ (served-harvest words)
    (if-served (bytes_eq name (codes "session")) _ _ (served-session (site_in words))
    (if-served (bytes_eq name (codes "serve")) _ _ (served-serve words)
    (if-served (bytes_eq name (codes "trial")) _ _ (served-trial words) tt))))))

pub served : (words : List (List ℕ)) → IfSome (form_of words) IsServed
served [] = tt
served (store ∷ []) = tt
served (store ∷ name ∷ words) = if-served (bytes_eq store []) _ _ tt (served-named name words)
