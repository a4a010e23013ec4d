use Rattle.pass_laws.proofs.Kept.{always}
use Rattle.pass_laws.proofs.Again.{readable, dropped_stays_away, no_vector_twice, no_vector_shared, no_vector_over_boots}
use Rattle.pass_laws.proofs.laws.machine_law.Goals as goal

pub returns-clause-holds : goal.returns-clause-holds
returns-clause-holds c = always c.times_never_fall.ensures

pub returns-clause-readable : goal.returns-clause-readable
returns-clause-readable c = readable c.times_never_fall.ensures c.sealed_is_decrypted_again.ensures

pub returns-clause-dropped : goal.returns-clause-dropped
returns-clause-dropped c = dropped_stays_away c.times_never_fall.ensures c.dropped_grants_stay_away.ensures

pub returns-clause-vectors : goal.returns-clause-vectors
returns-clause-vectors c = no_vector_twice c.times_never_fall.ensures c.one_pass_repeats_no_iv.ensures

pub returns-clause-shared : goal.returns-clause-shared
returns-clause-shared c = no_vector_shared c.times_never_fall.ensures c.passes_share_no_iv.ensures

pub returns-clause-boots : goal.returns-clause-boots
returns-clause-boots c = no_vector_over_boots c.times_never_fall.ensures c.boots_share_no_iv.ensures
