-- A function's root node, as it is read.
use Rattle.std.specs.Prelude.{◌≡◌, ◌-◌}
use Rattle.kit.specs.Names.{ap, sym, subst, ◌∙◌, List, ℕ}
use Rattle.definitions.specs.ContractFile.{two_bytes_at, function_end}
use Rattle.file_accepted.specs.Context.{nodes_in}
use Rattle.file_accepted.specs.Functions.{root_at}
use Rattle.rewrite_log.specs.declared.Position.{Position}
use Rattle.rewrite_log.specs.Logs.{Logged}
use Rattle.rewrite_expressions.specs.Translations.{statement_of, Ready}

module _ (file : List ℕ) (function_start end root : ℕ) (ends : end ≡ function_end file function_start) (read : root ≡ two_bytes_at file (end - 2)) where
  root_is : root ≡ root_at file function_start
  root_is = read ∙ ap (λ (x : ℕ). two_bytes_at file (x - 2)) ends

  pub root_ready : (log : List ℕ) (p : Position) → Ready file (root_at file function_start) log p (statement_of file function_start 0 (root_at file function_start))
      → Ready file root log p (statement_of file function_start 0 root)
  root_ready log p h = subst (λ (n : ℕ). Ready file n log p (statement_of file function_start 0 n)) (sym root_is) h

  pub root_logged : (before after : List ℕ) (p r : Position) → Logged (nodes_in file) before after p r (statement_of file function_start 0 root p.variable)
      → Logged (nodes_in file) before after p r (statement_of file function_start 0 (root_at file function_start) p.variable)
  root_logged before after p r h = subst (λ (n : ℕ). Logged (nodes_in file) before after p r (statement_of file function_start 0 n p.variable)) root_is h
