use Rattle.ps_listing.proofs.lone.units_in_entries.Goals as goal

pub returns-in-Err-clause-units : goal.returns-in-Err-clause-units
returns-in-Err-clause-units g c =
    let opened = rw c.read-reading.ensures at c.in-Err.ensures.refused in
    rw opened c.new.ensures.items

pub returns-in-Ok-clause-units : goal.returns-in-Ok-clause-units
returns-in-Ok-clause-units g c =
    let opened = rw c.read-reading.ensures at c.in-Ok.ensures.opened in
    rw opened c.units_of.ensures.units

pub returns-in-Ok-clause-memory : goal.returns-in-Ok-clause-memory
returns-in-Ok-clause-memory g c =
    let opened = rw c.read-reading.ensures at c.in-Ok.ensures.opened in
    rw opened c.units_of.ensures.memory
