use Rattle.ledger_arithmetic.proofs.OperatorsByCode.{by_code, by_other}
use Rattle.kit.specs.Names.{rules}
use Rattle.ledger_arithmetic.proofs.operated.Goals as goal

pub returns-in-1 : goal.returns-in-1
returns-in-1 c = by_code _ 1 _ _ _ c.in-1.is c.difference.ensures

pub returns-in-2 : goal.returns-in-2
returns-in-2 c = by_code _ 2 _ _ _ c.in-2.is c.product.ensures

pub returns-in-3 : goal.returns-in-3
returns-in-3 c = by_code _ 3 _ _ _ c.in-3.is c.quotient.ensures

pub returns-in-4 : goal.returns-in-4
returns-in-4 c = by_code _ 4 _ _ _ c.in-4.is c.rest.ensures

pub returns-in-5 : goal.returns-in-5
returns-in-5 c = by_code _ 5 _ _ _ c.in-5.is c.bit_of.ensures

pub returns-in-6 : goal.returns-in-6
returns-in-6 c = by_code _ 6 _ _ _ c.in-6.is c.bit_of-in-6.ensures

pub returns-in-7 : goal.returns-in-7
returns-in-7 c = by_code _ 7 _ _ _ c.in-7.is c.bit_of-in-7.ensures

pub returns-in-8 : goal.returns-in-8
returns-in-8 c = by_code _ 8 _ _ _ c.in-8.is c.bit_of-in-8.ensures

pub returns-in-9 : goal.returns-in-9
returns-in-9 c = by_code _ 9 _ _ _ c.in-9.is c.both.ensures

pub returns-in-10 : goal.returns-in-10
returns-in-10 c = by_code _ 10 _ _ _ c.in-10.is c.either.ensures

pub returns-in_default : goal.returns-in_default
returns-in_default c = by_other _ _ _ _
    (record { minus = (search rules); times = (search rules); divide = (search rules); remainder = (search rules); less = (search rules); less_or_equal = (search rules); equal = (search rules); unequal = (search rules); conjunction = (search rules); disjunction = (search rules) })
    c.sum.ensures
