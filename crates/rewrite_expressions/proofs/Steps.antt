-- One step of each translation: what a node's log needs and what it holds, from the logs of its parts.
use Rattle.std.specs.Prelude.{◌≡◌, ◌-◌, ◌<◌, ◌≤◌}
use Rattle.kit.specs.Names.{ap, sym, subst, ◌∙◌, Bool, true, false, cond, not, List, ℕ, arith, length, length-map, eq-eqb}
use Rattle.kit.specs.Names.{ne_eqb}
use Rattle.definitions.specs.ContractFile.{Owner, node_count, owner_code, sections_of, node_of}
use Rattle.file_bytes.proofs.Sections.{count_of_nodes}
use Rattle.definitions.specs.Owners.{owner_of}
use Rattle.file_accepted.specs.Context.{nodes_in, scope_in}
use Rattle.rewrite_events.specs.Events.{Events, read_events}
use Rattle.rewrite_events.specs.Parts.{supplied_for}
use Rattle.rewrite_events.proofs.Parts.{body_is, circuit_is}
use Rattle.rewrite_log.specs.declared.Position.{Position}
use Rattle.rewrite_log.specs.Entries.{guard_of, five}
use Rattle.rewrite_log.specs.Logs.{Slot, Wrote, Logged, SmallEntry}
use Rattle.rewrite_log.proofs.Turns.{read_parts, read_slot, read_logged}
use Rattle.rewrite_plans.specs.Plans.{node_expression, SuppliedCode, ReadCode}
use Rattle.rewrite_expressions.specs.Translations.{body_of, circuit_of, supply_of, body_parts_of, circuit_parts_of, Ready, ReadyToSupply, Supplied}

pub pick_true : {A : Type 0} (b : Bool) (x y : A) → b ≡ true → cond b x y ≡ x
pick_true b x y h = rw h

pub pick_false : {A : Type 0} (b : Bool) (x y : A) → b ≡ false → cond b x y ≡ y
pick_false b x y h = rw h

pub node_known : (file : List ℕ) (n : ℕ) → n < node_count file → n < length (nodes_in file)
unfolding nodes_in
node_known file n h = omega (arith, length-map (sections_of file).nodes node_of, count_of_nodes file)

module _ (file : List ℕ) (n : ℕ) (log : List ℕ) (p : Position) where
  pub ready_same : (a b : Events) → a ≡ b → Ready file n log p a → Ready file n log p b
  ready_same a b e h = subst (λ (x : Events). Ready file n log p x) e h

pub logged_same : (file before after : List ℕ) (p r : Position) (a b : Events) → a ≡ b → Logged (nodes_in file) before after p r (a p.variable)
    → Logged (nodes_in file) before after p r (b p.variable)
logged_same file before after p r a b e h = subst (λ (x : Events). Logged (nodes_in file) before after p r (x p.variable)) e h

-- In the body.
module _ (file : List ℕ) (function_start guard n code : ℕ) (found : SuppliedCode (scope_in file function_start) (node_expression file n) code) where
  body_kept : code ≡ 0 → body_of file function_start guard n ≡ body_parts_of file function_start guard n
  body_kept z =
      body_is (scope_in file function_start) (guard_of guard) (node_expression file n)
      ∙ pick_false _ _ _ (found.test ∙ ap not (eq-eqb code 0 z))

  body_supplied : (code ≡ 0 → ⊥) → body_of file function_start guard n ≡ supply_of file function_start guard n (supplied_for (node_expression file n))
  body_supplied z =
      body_is (scope_in file function_start) (guard_of guard) (node_expression file n)
      ∙ pick_true _ _ _ (found.test ∙ ap not (ne_eqb code 0 z))

  supplied_code : (code ≡ 0 → ⊥) → owner_code (supplied_for (node_expression file n)) ≡ code - 1
  supplied_code z = let some : 0 < code = omega arith in omega (arith, found.owner some)

  module _ (before : List ℕ) (p : Position) where
    pub kept_ready : code ≡ 0 → Ready file n before p (body_of file function_start guard n)
        → Ready file n before p (body_parts_of file function_start guard n)
    kept_ready z h = ready_same file n before p _ _ (body_kept z) h

    pub supplied_ready : (code ≡ 0 → ⊥) → Ready file n before p (body_of file function_start guard n)
        → ReadyToSupply file function_start n guard (code - 1) before p
    supplied_ready z h =
        record {
          owner = supplied_for (node_expression file n);
          is = supplied_code z;
          small = omega (arith, found.small);
          ready = ready_same file n before p _ _ (body_supplied z) h;
        }

    pub kept_logged : (after : List ℕ) (r : Position) → code ≡ 0 → Logged (nodes_in file) before after p r (body_parts_of file function_start guard n p.variable)
        → Logged (nodes_in file) before after p r (body_of file function_start guard n p.variable)
    kept_logged after r z h = logged_same file before after p r _ _ (sym (body_kept z)) h

    pub supplied_logged : (after : List ℕ) (r : Position) → (code ≡ 0 → ⊥) → Supplied file function_start guard n (code - 1) before after p r
        → Logged (nodes_in file) before after p r (body_of file function_start guard n p.variable)
    supplied_logged after r z h = logged_same file before after p r _ _ (sym (body_supplied z)) (h.for (supplied_for (node_expression file n)) (supplied_code z))

-- In a circuit.
module _ (file : List ℕ) (function_start guard n code : ℕ) (found : ReadCode (scope_in file function_start) (node_expression file n) code) where
  abbrev owner : Owner
  owner = owner_of (scope_in file function_start) (node_expression file n)

  circuit_kept : code ≡ 0 → circuit_of file function_start guard n ≡ circuit_parts_of file function_start guard n
  circuit_kept z =
      circuit_is (scope_in file function_start) (guard_of guard) (node_expression file n)
      ∙ pick_false _ _ _ (found.test ∙ ap not (eq-eqb code 0 z))

  circuit_read : (code ≡ 0 → ⊥) → circuit_of file function_start guard n ≡ read_events owner (node_expression file n) (body_parts_of file function_start guard n)
  circuit_read z =
      circuit_is (scope_in file function_start) (guard_of guard) (node_expression file n)
      ∙ pick_true _ _ _ (found.test ∙ ap not (ne_eqb code 0 z))

  read_code : (code ≡ 0 → ⊥) → owner_code owner ≡ code - 1
  read_code z = let some : 0 < code = omega arith in omega (arith, found.owner some)

  module _ (before : List ℕ) (p : Position) where
    pub circuit_ready : code ≡ 0 → Ready file n before p (circuit_of file function_start guard n)
        → Ready file n before p (circuit_parts_of file function_start guard n)
    circuit_ready z h = ready_same file n before p _ _ (circuit_kept z) h

    pub circuit_logged : (after : List ℕ) (r : Position) → code ≡ 0 → Logged (nodes_in file) before after p r (circuit_parts_of file function_start guard n p.variable)
        → Logged (nodes_in file) before after p r (circuit_of file function_start guard n p.variable)
    circuit_logged after r z h = logged_same file before after p r _ _ (sym (circuit_kept z)) h

    module _ (z : code ≡ 0 → ⊥) (ready : Ready file n before p (circuit_of file function_start guard n)) where
      as_read : Ready file n before p (read_events owner (node_expression file n) (body_parts_of file function_start guard n))
      as_read = ready_same file n before p _ _ (circuit_read z) ready

      pub read_ready : Ready file n before p (body_parts_of file function_start guard n)
      read_ready =
          record {
            inside = ready.inside;
            room = read_parts (nodes_in file) n (code - 1) owner (read_code z) (node_known file n ready.inside) (body_parts_of file function_start guard n) before before p p as_read.room;
          }

      module _ (middle : List ℕ) (q : Position) (parts : Logged (nodes_in file) before middle p q (body_parts_of file function_start guard n p.variable)) where
        pub read_room : Slot middle q 1
        read_room = read_slot (nodes_in file) n (code - 1) owner (read_code z) (node_known file n ready.inside) (body_parts_of file function_start guard n) before middle p q as_read.room parts

        pub read_small : node_count file ≤ 512
            → SmallEntry (record { tag = 2; variable = q.variable; owner = code - 1; node = n; last = p.variable })
        read_small few =
            record {
              tag = omega arith;
              variable = omega (arith, read_room.few);
              owner = omega (arith, found.small);
              node = omega (arith, ready.inside, few);
              last = omega (arith, ready.room.few);
            }

        pub read_done : (after : List ℕ) (r : Position) → Wrote middle after q r (five 2 q.variable (code - 1) n p.variable) 1
            → Logged (nodes_in file) before after p r (circuit_of file function_start guard n p.variable)
        read_done after r w =
            logged_same file before after p r _ _ (sym (circuit_read z))
            (read_logged (nodes_in file) n (code - 1) owner (read_code z) (node_known file n ready.inside) (body_parts_of file function_start guard n) before middle p q as_read.room parts after r w)
