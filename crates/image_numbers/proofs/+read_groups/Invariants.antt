-- The number of groups that may still come falls.
use Rattle.image_numbers.proofs.+read_groups.Given as goal

abbrev pub decreases-read_groups : goal.decreases-read_groups
decreases-read_groups l = l.f
