use Rattle.pass_laws.proofs.CallFacts.{fronts, calls_lawful, calls_opened, stays_away, not_twice, not_of_two, not_over_boots}
use Rattle.pass_laws.proofs.laws.passes_law.Goals as goal

pub returns-clause-fronts : goal.returns-clause-fronts
returns-clause-fronts c = fronts

pub returns-clause-lawful : goal.returns-clause-lawful
returns-clause-lawful c = calls_lawful

pub returns-clause-opened : goal.returns-clause-opened
returns-clause-opened c = calls_opened

pub returns-clause-dropped : goal.returns-clause-dropped
returns-clause-dropped c = stays_away c.dropped_grants_stay_away.ensures

pub returns-clause-vectors : goal.returns-clause-vectors
returns-clause-vectors c = not_twice c.one_pass_repeats_no_iv.ensures

pub returns-clause-shared : goal.returns-clause-shared
returns-clause-shared c = not_of_two c.passes_share_no_iv.ensures

pub returns-clause-boots : goal.returns-clause-boots
returns-clause-boots c = not_over_boots c.boots_share_no_iv.ensures
