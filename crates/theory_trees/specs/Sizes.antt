-- How many nodes a tree has.
use Rattle.std.specs.Prelude.{◌+◌}
use Rattle.kit.specs.Names.{ℕ}
use Rattle.definitions.specs.ContractFile.{Expression, Statement}

unfoldable pub expression_size : Expression → ℕ
expression_size (Expression.constant t v) = 1
expression_size Expression.me = 1
expression_size (Expression.field f) = 1
expression_size (Expression.entry f key) = 1 + expression_size key
expression_size (Expression.parameter k) = 1
expression_size (Expression.operator o left right) = 1 + expression_size left + expression_size right
expression_size (Expression.negation part) = 1 + expression_size part
expression_size (Expression.reveal part o) = 1 + expression_size part

unfoldable pub statement_size : Statement → ℕ
statement_size Statement.skip = 1
statement_size (Statement.sequence first second) = 1 + statement_size first + statement_size second
statement_size (Statement.assign_field f value) = 1 + expression_size value
statement_size (Statement.assign_entry f key value) = 1 + expression_size key + expression_size value
statement_size (Statement.require condition) = 1 + expression_size condition
statement_size (Statement.conditional condition then else) = 1 + expression_size condition + statement_size then + statement_size else
