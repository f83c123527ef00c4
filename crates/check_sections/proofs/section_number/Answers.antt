use Rattle.kit.specs.Names.{arith, lt-ltb, le-ltb, rules}
use Rattle.definitions.specs.Basics.{first_that_holds}
use Rattle.definitions.specs.Numbers.{section_number}
use Rattle.check_sections.proofs.section_number.Goals as goal

pub read_layout-l-requires : goal.read_layout-l-requires
unfolding section_number first_that_holds
read_layout-l-requires c = search rules

pub ends_wrongly-requires : goal.ends_wrongly-requires
unfolding section_number first_that_holds
ends_wrongly-requires c = search rules

pub returns-then-ends_wrongly : goal.returns-then-ends_wrongly
unfolding section_number first_that_holds
returns-then-ends_wrongly c = rw (← c.ends_wrongly.ensures, c.if-ends_wrongly.true)

pub count_off_limits-requires : goal.count_off_limits-requires
unfolding section_number first_that_holds
count_off_limits-requires c = search rules

pub returns-then-count_off_limits : goal.returns-then-count_off_limits
unfolding section_number first_that_holds
returns-then-count_off_limits c = rw (← c.ends_wrongly.ensures, c.if-ends_wrongly.false, ← c.count_off_limits.ensures, c.if-count_off_limits.true)

pub returns-then-n-gt2 : goal.returns-then-n-gt2
unfolding section_number first_that_holds
returns-then-n-gt2 c = rw (← c.ends_wrongly.ensures, c.if-ends_wrongly.false, ← c.count_off_limits.ensures, c.if-count_off_limits.false)
    (rw (lt-ltb 2 c.args.n (omega (arith, c.if-n-gt2.true))))

pub returns : goal.returns
unfolding section_number first_that_holds
returns c = rw (← c.ends_wrongly.ensures, c.if-ends_wrongly.false, ← c.count_off_limits.ensures, c.if-count_off_limits.false)
    (rw (le-ltb 2 c.args.n (omega (arith, c.if-n-gt2.false))))
