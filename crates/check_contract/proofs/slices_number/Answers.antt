-- Numbers 8 to 15 are asked of sections that 3 to 7 let pass.
use Rattle.std.specs.Prelude.{◌≡◌}
use Rattle.kit.specs.Names.{sym, ◌∙◌, arith}
use Rattle.file_decoded.specs.Sections.{sections_held}
use Rattle.check_03_to_07.proofs.Shape.{tables_and_numbers}
use Rattle.check_contract.proofs.Order.{refused_by_shape, left_to_rules}
use Rattle.check_contract.proofs.slices_number.Goals as goal

pub sections_number-shape-requires : goal.sections_number-shape-requires
sections_number-shape-requires c = let held = c.requires in record { shaped = held.shaped; inside = held.inside }

pub returns-then-shape-gt0 : goal.returns-then-shape-gt0
returns-then-shape-gt0 c = refused_by_shape _ _ c.sections_number-shape.ensures (omega (arith, c.if-shape-gt0.true))

pub rules_number-requires : goal.rules_number-requires
rules_number-requires c = let all = sections_held c.args.sections.now in let held = c.requires in let zero : c.sections_number-shape.result ≡ 0 = omega (arith, c.if-shape-gt0.false) in let none = sym c.sections_number-shape.ensures ∙ zero in let passed = tables_and_numbers all none in (record { shaped = held.shaped; inside = held.inside; few_fields = held.few_fields; few_parameters = held.few_parameters; tables = passed.0; numbers = passed.1 }, held.column)

pub returns : goal.returns
returns c = let all = sections_held c.args.sections.now in let held = c.requires in let zero : c.sections_number-shape.result ≡ 0 = omega (arith, c.if-shape-gt0.false) in let none = sym c.sections_number-shape.ensures ∙ zero in left_to_rules all _ none c.rules_number.ensures.value
