-- `ledger_arithmetic::product` meets its contract: 64 bits hold the product.
use Rattle.ledger_arithmetic.proofs.Products.{product_fits}
use Rattle.kit.specs.Names.{rules}
use Rattle.ledger_arithmetic.proofs.product.Goals as goal

pub overflow_mul-result : goal.overflow_mul-result
overflow_mul-result c = record { fits = product_fits 32 (search rules) (search rules) }
