-- What a code is about, by the range that its kind is in.
use Rattle.std.proofs.Common.{arith, rules}
use Rattle.shop_codes.specs.Subjects.{subject_item, subject_atc, subject_flag, subject_rest}
use Rattle.shop_codes.proofs.subject_of.Goals as goal

pub returns-in-0-to-1 : goal.returns-in-0-to-1
returns-in-0-to-1 c = subject_item c.args.code c.id_in.result c.id_in.ensures (omega arith)

pub returns-in-2-to-3 : goal.returns-in-2-to-3
returns-in-2-to-3 c = subject_atc c.args.code c.id_in-in-2-to-3.result c.id_in-in-2-to-3.ensures (omega arith) (omega arith)

pub returns-in-4-to-5 : goal.returns-in-4-to-5
returns-in-4-to-5 c = subject_flag c.args.code _ (search rules) (omega arith) (omega arith)

pub returns-in_default : goal.returns-in_default
returns-in_default c = subject_rest c.args.code (omega arith)
