-- The number of groups that may still come falls.
use Rattle.image_numbers.proofs.+write_groups.Given as goal

abbrev pub decreases-write_groups : goal.decreases-write_groups
decreases-write_groups l = l.f
