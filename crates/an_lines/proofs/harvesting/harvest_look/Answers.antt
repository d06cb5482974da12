use Rattle.an_state.specs.State.{who_of}
use Rattle.an_lines.proofs.HarvestLemmas.{look-items, look-live, look-nobody, look-somebody, look-unsigned, settled-by}
use Rattle.an_lines.proofs.harvesting.harvest_look.Goals as goal

pub returns-clause-items : goal.returns-clause-items
returns-clause-items g c =
    let s = g.T.Look.state c.args.look.now in
    look-items s c.args.site.now (who_of s c.args.caller.now) c.args.known.now.items
    c.base.result.now c.new-fetch.result
    (settled-by s c.args.site.now (who_of s c.args.caller.now) c.args.known.now.items
    c.requires.valid c.base.ensures.form c.size-size.ensures.form c.requires.few c.requires.pages
    c.requires.within)
    c.base.ensures.value c.new-fetch.ensures.asked c.args.known.now.objects c.harvest.result
    c.harvest.ensures.live

pub returns-clause-live : goal.returns-clause-live
returns-clause-live g c =
    let s = g.T.Look.state c.args.look.now in
    look-live s c.args.site.now (who_of s c.args.caller.now) c.args.known.now.items
    c.base.result.now c.new-fetch.result
    (settled-by s c.args.site.now (who_of s c.args.caller.now) c.args.known.now.items
    c.requires.valid c.base.ensures.form c.size-size.ensures.form c.requires.few c.requires.pages
    c.requires.within)
    c.base.ensures.value c.new-fetch.ensures.asked c.args.known.now.objects c.harvest.result
    c.harvest.ensures.live

pub returns-clause-somebody : goal.returns-clause-somebody
returns-clause-somebody g c =
    let s = g.T.Look.state c.args.look.now in
    look-somebody s c.args.site.now (who_of s c.args.caller.now) c.args.known.now.items
    c.base.result.now c.new-fetch.result
    (settled-by s c.args.site.now (who_of s c.args.caller.now) c.args.known.now.items
    c.requires.valid c.base.ensures.form c.size-size.ensures.form c.requires.few c.requires.pages
    c.requires.within)
    c.base.ensures.value c.new-fetch.ensures.asked c.harvest.result c.harvest.ensures.fault
    c.harvest.ensures.refused

pub returns-clause-nobody : goal.returns-clause-nobody
returns-clause-nobody g c =
    let s = g.T.Look.state c.args.look.now in
    look-nobody s c.args.site.now (who_of s c.args.caller.now) c.args.known.now.items
    c.base.result.now c.new-fetch.result
    (settled-by s c.args.site.now (who_of s c.args.caller.now) c.args.known.now.items
    c.requires.valid c.base.ensures.form c.size-size.ensures.form c.requires.few c.requires.pages
    c.requires.within)
    c.base.ensures.value c.new-fetch.ensures.asked c.args.known.now.objects c.harvest.result
    c.harvest.ensures.live

pub returns-clause-unsigned : goal.returns-clause-unsigned
returns-clause-unsigned g c =
    let s = g.T.Look.state c.args.look.now in
    look-unsigned s c.args.site.now (who_of s c.args.caller.now) c.args.known.now.items
    c.base.result.now c.new-fetch.result
    (settled-by s c.args.site.now (who_of s c.args.caller.now) c.args.known.now.items
    c.requires.valid c.base.ensures.form c.size-size.ensures.form c.requires.few c.requires.pages
    c.requires.within)
    c.base.ensures.value c.new-fetch.ensures.asked c.harvest.result c.harvest.ensures.fault
    c.harvest.ensures.refused
