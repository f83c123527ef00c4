-- Number 17 from the count of finals and the test of the addresses.
use Rattle.kit.specs.Names.{sym, ◌∙◌, true, false, arith}
use Rattle.deploy_17_addresses.proofs.Addresses.{count_differs, counts_agree}
use Rattle.deploy_17_addresses.proofs.addresses_number.Goals as goal

pub returns-then-addresses-final_count : goal.returns-then-addresses-final_count
returns-then-addresses-final_count c = count_differs _ _ _ c.final_count.ensures (λ e. omega arith)

pub returns-then-any_too_high : goal.returns-then-any_too_high
returns-then-any_too_high c = counts_agree _ _ _ c.final_count.ensures true (omega arith) (sym c.if-any_too_high.true ∙ c.any_too_high.ensures)

pub returns-else-any_too_high : goal.returns-else-any_too_high
returns-else-any_too_high c = counts_agree _ _ _ c.final_count.ensures false (omega arith) (sym c.if-any_too_high.false ∙ c.any_too_high.ensures)
