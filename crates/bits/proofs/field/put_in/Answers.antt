use Rattle.std.proofs.Common.{arith}
use Rattle.theory.specs.number.WordLaws.{PutCode, put_code}
use Rattle.bits.proofs.field.put_in.Goals as goal
use Rattle.bits.proofs.field.put_in.Goals.{After-field_of}

facts : (c : After-field_of) → PutCode c.args.x c.args.p c.args.w c.args.v c.field_of.result
facts c =
    let a = c.args in
    put_code a.x a.p a.w a.v c.field_of.result (omega arith) (omega arith) c.requires.3 c.field_of.ensures

pub overflow_sub-result : goal.overflow_sub-result
overflow_sub-result c = (facts c).below

pub overflow_add-result : goal.overflow_add-result
overflow_add-result c = let f = facts c in omega arith

pub returns : goal.returns
returns c = (facts c).is
