use Rattle.std.specs.Prelude.{◌≡◌, ◌+◌}
use Rattle.kit.specs.Names.{ap, ◌∙◌, ℕ, arith, rules}
use Rattle.write_parameters.specs.Parameters.{private_count}
use Rattle.write_function_room.specs.Functions.{private_in}
use Rattle.honest_variables.proofs.Slots.{zeros_put, zeros_here, zeros_long, body_startable, slots_done}
use Rattle.honest_variables.proofs.honest_slots.Goals as goal

pub statement_slots-requires : goal.statement_slots-requires
statement_slots-requires c = let args = c.args in let pre = c.requires in
    let same : c.count_private-private.result ≡ private_in args.function.now.file.now args.function.now.at =
    c.count_private-private.ensures ∙ ap (λ (n : ℕ). private_count n args.function.now.file.now (args.function.now.at + 1)) c.byte_at-count.ensures.value in
    let zeros = zeros_here args.function.now.file.now args.function.now.at args.arguments.now args.caller args.numbers.now args.slots.now pre c.fill.new.self _ same
    (c.fill.ensures.after (λ y h. search rules)) in
    let long = zeros_long args.slots.now c.fill.new.self c.count_private-private.result (omega (arith, pre.room)) zeros in
    body_startable args.function.now.file.now args.function.now.at args.arguments.now args.caller args.numbers.now args.slots.now pre _ _ _ same c.root_at-root.ensures long

pub returns : goal.returns
returns c = let args = c.args in let pre = c.requires in
    let same : c.count_private-private.result ≡ private_in args.function.now.file.now args.function.now.at =
    c.count_private-private.ensures ∙ ap (λ (n : ℕ). private_count n args.function.now.file.now (args.function.now.at + 1)) c.byte_at-count.ensures.value in
    let zeros = zeros_here args.function.now.file.now args.function.now.at args.arguments.now args.caller args.numbers.now args.slots.now pre c.fill.new.self _ same
    (c.fill.ensures.after (λ y h. search rules)) in
    let long = zeros_long args.slots.now c.fill.new.self c.count_private-private.result (omega (arith, pre.room)) zeros in
    slots_done args.function.now.file.now args.function.now.at args.arguments.now args.caller args.numbers.now args.slots.now pre _ _ _ _ _ _ same c.root_at-root.ensures
    (zeros_put args.slots.now c.fill.new.self c.count_private-private.result zeros) (c.statement_slots.auto.out ∙ long) c.statement_slots.ensures
