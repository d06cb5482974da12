use Rattle.an_app.proofs.program.run_form.Goals as goal

pub returns-in-Export-clause-runs : goal.returns-in-Export-clause-runs
returns-in-Export-clause-runs g c =
    rw c.in-Export.is (rw c.as_str.ensures.value at c.export_at.ensures.exports)

pub returns-in-Harvest-clause-runs : goal.returns-in-Harvest-clause-runs
returns-in-Harvest-clause-runs g c =
    rw c.in-Harvest.is (rw c.as_str-in-Harvest.ensures.value at c.harvest_at.ensures.harvests)
