use Rattle.std.proofs.Common.{to_z-of_z, w32}
use Rattle.parse_keys.proofs.shifted_below.Goals as goal

pub returns-in-Some : goal.returns-in-Some
returns-in-Some c = λ n. rw (← c.number_below.ensures n, c.in-Some.is) (rw (to_z-of_z {w = w32} (record { sfits = c.in-Some.known_told-1-own.given.0.1 })) at c.shifted.ensures)

pub returns-in-None : goal.returns-in-None
returns-in-None c = λ n. rw (← c.number_below.ensures n, c.in-None.is)
