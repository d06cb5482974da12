use Rattle.std.proofs.Common.{ℕ, ◌+◌, List, ◌++◌, Ok, Err, take, drop, ap, subst, sym, ◌∙◌, append_assoc}
use Rattle.std.proofs.lemmas.List.{take_rest}
use Rattle.std.proofs.lemmas.List.Sorted.{searched}
use Rattle.an_slots.specs.Places.{Rises}
use Rattle.an_slots.proofs.PlacesLemmas.{rises_le, has-not_found}
use Rattle.an_postings.specs.Live.{live}
use Rattle.an_postings.proofs.LiveLemmas.{Rises-cut, live-absent, live-cut}
use Rattle.an_postings.proofs.noted.append_stretch.Goals as goal

pub returns-in_ok-extend_from_slice-in-Ok-clause-rises :
    goal.returns-in_ok-extend_from_slice-in-Ok-clause-rises
returns-in_ok-extend_from_slice-in-Ok-clause-rises c =
    subst (Rises 0) (sym (take_rest c.args.all.now (c.in-Ok.at + 1)))
    (Rises-cut c.args.all.now (c.in-Ok.at + 1) c.requires.all)

pub returns-in_ok-extend_from_slice-in-Ok-clause-live :
    goal.returns-in_ok-extend_from_slice-in-Ok-clause-live
returns-in_ok-extend_from_slice-in-Ok-clause-live c = λ gone rises.
    let all = c.args.all.now in
    let at = c.in-Ok.at in
    let old = c.args.places.now.items in
    let found =
    searched all c.args.place (Ok at) c.in-Ok.ensures.position (rises_le 0 all c.requires.all) in
    rw (c.in_ok-extend_from_slice-in-Ok.ensures.items, take_rest all (at + 1))
    (append_assoc old (take at all) (live (drop (at + 1) all) gone)
    ∙ ap (λ (l : List ℕ). old ++ l)
    (sym (live-cut all gone c.args.place c.requires.all at found.0 found.1 rises)))

pub returns-in-Err-clause-live : goal.returns-in-Err-clause-live
returns-in-Err-clause-live c = λ gone rises.
    let all = c.args.all.now in
    let found =
    searched all c.args.place (Err c.in-Err.field-0) c.in-Err.ensures.position
    (rises_le 0 all c.requires.all) in
    ap (λ (l : List ℕ). c.args.places.now.items ++ l)
    (sym (live-absent c.args.place all gone
    (has-not_found all c.in-Err.field-0 c.args.place found.1 found.2)))
