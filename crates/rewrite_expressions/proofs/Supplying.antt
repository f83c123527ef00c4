-- The log of what is supplied: its variable, its circuit, its claim, for any owner of the code.
use Rattle.std.specs.Prelude.{◌≡◌, ◌∷◌, ◌+◌, ◌<◌, ◌≤◌}
use Rattle.kit.specs.Names.{ap, ◌∙◌, List, [], ℕ, suc, arith, length, length-append}
use Rattle.definitions.specs.ContractFile.{Owner, Expression, node_count}
use Rattle.definitions.specs.Rewriting.{Guard}
use Rattle.file_accepted.specs.Context.{nodes_in}
use Rattle.rewrite_events.specs.Events.{claimed_event, variables_of, variable_count, Events, supply_events}
use Rattle.rewrite_events.proofs.Appended.{variables_append}
use Rattle.rewrite_log.specs.declared.Position.{Position}
use Rattle.rewrite_log.specs.Entries.{guard_of, five}
use Rattle.rewrite_log.specs.Logs.{Slot, Wrote, Room, Logged, SmallEntry}
use Rattle.rewrite_log.proofs.Turns.{supply_slot, supply_circuit, claim_slot, supply_logged}
use Rattle.rewrite_plans.specs.Plans.{node_expression}
use Rattle.rewrite_expressions.proofs.Steps.{node_known}
use Rattle.rewrite_expressions.specs.Translations.{circuit_of, supply_of, Ready, ReadyToSupply, Supplied}

-- How much room what is supplied takes does not depend on its owner.
supply_length : (g : Guard) (o : Owner) (e : Expression) (circuit : Events) (i : ℕ) → length (supply_events g o e circuit i) ≡ 2 + length (circuit (suc i))
unfolding supply_events
supply_length g o e circuit i = omega (arith, length-append (circuit (suc i)) (claimed_event g i o e ∷ []))

supply_count : (g : Guard) (o : Owner) (e : Expression) (circuit : Events) (i : ℕ) → variable_count (supply_events g o e circuit i) ≡ 1 + variable_count (circuit (suc i))
unfolding supply_events variables_of
supply_count g o e circuit i =
    let whole = ap length (variables_append (circuit (suc i)) (claimed_event g i o e ∷ [])) ∙ length-append (variables_of (circuit (suc i))) [] in
    omega arith

supply_room : (log : List ℕ) (p : Position) (g : Guard) (o other : Owner) (e : Expression) (circuit : Events) (i : ℕ)
    → Room log p (supply_events g o e circuit i) → Room log p (supply_events g other e circuit i)
supply_room log p g o other e circuit i room =
    record {
      space = omega (arith, room.space, supply_length g o e circuit i, supply_length g other e circuit i);
      few = omega (arith, room.few, supply_count g o e circuit i, supply_count g other e circuit i);
    }

module _ (file : List ℕ) (function_start n guard code : ℕ) (small : guard < 65536) (before : List ℕ) (p : Position)
    (ready : ReadyToSupply file function_start n guard code before p) where
  any_room : (o : Owner) → Room before p (supply_of file function_start guard n o p.variable)
  any_room o = supply_room before p (guard_of guard) ready.owner o (node_expression file n) (circuit_of file function_start guard n) p.variable ready.ready.room

  pub variable_slot : Slot before p 1
  variable_slot =
      supply_slot (nodes_in file) guard n code ready.owner ready.is (node_known file n ready.ready.inside) (circuit_of file function_start guard n) before before p p (any_room ready.owner)

  pub variable_small : node_count file ≤ 512 → SmallEntry (record { tag = 0; variable = p.variable; owner = code; node = n; last = 0 })
  variable_small few =
      record {
        tag = omega arith;
        variable = omega (arith, variable_slot.few);
        owner = omega (arith, ready.small);
        node = omega (arith, ready.ready.inside, few);
        last = omega arith;
      }

  module _ (first : List ℕ) (q : Position) (wrote : Wrote before first p q (five 0 p.variable code n 0) 1) where
    pub inside_ready : Ready file n first q (circuit_of file function_start guard n)
    inside_ready =
        record {
          inside = ready.ready.inside;
          room = supply_circuit (nodes_in file) guard n code ready.owner ready.is (node_known file n ready.ready.inside) (circuit_of file function_start guard n) before first p q (any_room ready.owner) wrote;
        }

    module _ (second : List ℕ) (r : Position) (logged : Logged (nodes_in file) first second q r (circuit_of file function_start guard n q.variable)) where
      pub claimed_slot : Slot second r 0
      claimed_slot =
          claim_slot (nodes_in file) guard n code ready.owner ready.is (node_known file n ready.ready.inside) (circuit_of file function_start guard n) before first p q (any_room ready.owner) wrote second r logged

      pub claimed_small : node_count file ≤ 512
          → SmallEntry (record { tag = 1; variable = p.variable; owner = code; node = n; last = guard })
      claimed_small few =
          record {
            tag = omega arith;
            variable = omega (arith, variable_slot.few);
            owner = omega (arith, ready.small);
            node = omega (arith, ready.ready.inside, few);
            last = small;
          }

      pub supplied_done : (after : List ℕ) (s : Position) → Wrote second after r s (five 1 p.variable code n guard) 0
          → Supplied file function_start guard n code before after p s
      supplied_done after s w =
          record {
            for = λ o is. supply_logged (nodes_in file) guard n code o is (node_known file n ready.ready.inside) (circuit_of file function_start guard n) before first p q (any_room o) wrote second r logged after s w;
          }
