-- What the base's rule gave on is given on by the amended one.
use Rattle.definitions.specs.ContractFile.{Statement, skip, sequence, assign_field, assign_entry, require, conditional, Scope}
use Rattle.definitions.specs.Owners.{Links, links_after}
use Rattle.theory_laws.proofs.GrowingLinks.{Within, within_chain, condition_within, links_grow}
use Rattle.theory_nothing_lost.specs.Base.{base_links_after}

module _ (scope : Scope) where
  pub base_within : (s : Statement) (fewer more : Links) → Within fewer more → Within (base_links_after scope s fewer) (links_after scope s more)
  unfolding base_links_after links_after
  base_within skip fewer more within = within
  base_within (sequence first second) fewer more within =
      base_within second (base_links_after scope first fewer) (links_after scope first more) (base_within first fewer more within)
  base_within (assign_field f value) fewer more within = within
  base_within (assign_entry f key value) fewer more within = within
  base_within (require condition) fewer more within = condition_within scope condition fewer more within
  base_within (conditional condition then else) fewer more within =
      within_chain within (links_grow scope (conditional condition then else) more)
