-- What is left to show of `new`.
use Rattle.reed_solomon_decoder.proofs.Exponents.{some_exponent, no_exponent, term_lt}
use Rattle.reed_solomon_decoder.proofs.search.Power.new.Goals as goal

pub returns-in-Some : goal.returns-in-Some
returns-in-Some c = record { value = some_exponent c.args.c c.in-Some.e c.args.m c.in-Some.ensures; small = term_lt _ }

pub returns-in-None : goal.returns-in-None
returns-in-None c = record { value = no_exponent c.args.c c.args.m c.in-None.ensures; small = term_lt _ }
