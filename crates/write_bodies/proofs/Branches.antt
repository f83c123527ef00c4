-- A branch behind its guard, and the two branches of a conditional.
use Rattle.std.specs.Prelude.{◌≡◌, ◌∷◌, ◌++◌, ◌+◌, ◌*◌, ◌-◌, ◌<◌, ◌≤◌}
use Rattle.kit.specs.Names.{refl, ap, sym, subst, ◌∙◌, List, [], ℕ, suc, arith, add-one, length}
use Rattle.definitions.specs.ContractFile.{boolean, NodeRecord, node}
use Rattle.definitions.specs.Rewriting.{BodyExpression, Command, always, under, Tree, two_children, size, node_bytes, body_tree, command_tree}
use Rattle.theory_trees.specs.Trees.{statement_in}
use Rattle.memory_buffer.specs.Buffer.{stored}
use Rattle.file_accepted.specs.Context.{Context, nodes_in, scope_in}
use Rattle.theory_trees.proofs.ByKind.{branches_below}
use Rattle.file_accepted.proofs.Nodes.{node_reads}
use Rattle.rewrite_events.specs.Events.{Event, guard_event, variables_of, variable_count, steps_of, Events, branch_events, statement_events}
use Rattle.rewrite_events.proofs.Appended.{variable_count_append}
use Rattle.rewrite_log.specs.declared.Position.{Position}
use Rattle.write_nodes.specs.Numbering.{Room, Numbered}
use Rattle.write_nodes.proofs.TreeNodes.{room_left, room_right, room_above_two, numbered_two, room_as, numbered_as}
use Rattle.write_nodes.proofs.Parents.{room_second, room_third, room_above_three, numbered_three}
use Rattle.write_bodies.specs.declared.Extent.{Extent}
use Rattle.write_logged_steps.specs.Held.{HoldsEvents}
use Rattle.write_logged_steps.proofs.Apart.{holds_space, holds_first, holds_second}
use Rattle.write_bodies.specs.Parts.{statement_tree, events_at, branch_tree, branch_at}
use Rattle.file_decoded.specs.Slices.{record_at}
use Rattle.write_bodies.specs.Bodies.{Behind, StatementReady, StatementWritten, BranchReady, BranchWritten, else_guard, BranchesReady, BranchesWritten}
use Rattle.write_bodies.proofs.Guards.{statement_alike}
use Rattle.write_bodies.proofs.Positions.{steps_both, behind_both}

module _ (file : List ℕ) (function_start : ℕ) (n : ℕ) (log : List ℕ) (p : Position) (roots out : List ℕ) (at base : ℕ) (ready : BranchReady file function_start n log p roots out at base) where
  abbrev j : ℕ
  j = p.variable

  abbrev guard_tree : Tree
  guard_tree = command_tree (Command.set_variable j (BodyExpression.constant boolean 1))

  tree_is : branch_tree file function_start n j ≡ two_children 17 0 guard_tree (statement_tree file function_start n (j + 1))
  unfolding command_tree body_tree
  tree_is = refl

  room_own : Room out at base (two_children 17 0 guard_tree (statement_tree file function_start n (j + 1)))
  room_own = room_as out at base _ _ tree_is ready.room

  room_guard : Room out at base guard_tree
  room_guard = room_left out at base 17 0 _ _ room_own

  pub guard_room : (base + 2 ≤ 65535) × (at + 16 ≤ length out)
  unfolding command_tree body_tree size
  guard_room = (omega (arith, room_guard.numbers), omega (arith, room_guard.bytes))

  -- The guard's event, and those of the statement behind it.
  abbrev inside : Position
  inside = record { at = p.at + 5; variable = j + 1 }

  abbrev own : Events
  own = statement_events (scope_in file function_start) (statement_in (nodes_in file) n) (under j)

  events_are : branch_at file function_start n j ≡ (guard_event j ∷ []) ++ own (j + 1)
  unfolding branch_events
  events_are = ap (λ (m : ℕ). guard_event j ∷ own m) (sym (add-one j))

  branch_length : length (branch_at file function_start n j) ≡ length (events_at file function_start n (j + 1)) + 1
  branch_length =
      ap length events_are ∙ ap suc ((statement_alike (scope_in file function_start) (statement_in (nodes_in file) n) (under j) always).lengths (j + 1) (j + 1))
      ∙ sym (add-one (length (events_at file function_start n (j + 1))))

  branch_variables : variable_count (branch_at file function_start n j) ≡ variable_count (events_at file function_start n (j + 1)) + 1
  unfolding variables_of
  branch_variables =
      ap variable_count events_are ∙ ap suc ((statement_alike (scope_in file function_start) (statement_in (nodes_in file) n) (under j) always).variables (j + 1) (j + 1))
      ∙ sym (add-one (variable_count (events_at file function_start n (j + 1))))

  branch_steps : length (steps_of (scope_in file function_start) (branch_at file function_start n j)) ≡ length (steps_of (scope_in file function_start) (own (j + 1)))
  unfolding steps_of
  branch_steps = ap (λ (l : List Event). length (steps_of (scope_in file function_start) l)) events_are

  pub inside_place : p.at + 5 ≤ length log
  inside_place = let lengths = branch_length in let space = holds_space (nodes_in file) log p.at (branch_at file function_start n j) ready.logged in omega arith

  inside_logged : HoldsEvents (nodes_in file) log (p.at + 5) (own (j + 1))
  inside_logged =
      holds_second (nodes_in file) log p.at (guard_event j ∷ []) (own (j + 1))
      (subst (λ (l : List Event). HoldsEvents (nodes_in file) log p.at l) events_are ready.logged)

  module _ (second : List ℕ) (count : ℕ) (put : Numbered out second at base guard_tree count) where
    two : Numbered out second at base guard_tree 2
    unfolding command_tree body_tree size
    two = record { contents = put.contents; nodes = refl }

    pub inside_ready : StatementReady file function_start n log inside roots second (at + 16) (base + 2)
    inside_ready =
        let lengths = branch_length in
        let variables = branch_variables in
        record {
          inside = ready.inside;
          guard = under j;
          logged = inside_logged;
          steps = omega (arith, ready.steps, branch_steps);
          few = omega (arith, ready.few);
          room = room_right out at base 17 0 _ _ room_own second 2 two;
        }

    module _ (later : List ℕ) (e : Extent) (w : StatementWritten file function_start n inside second later (at + 16) (base + 2) e) where
      pub branch_parent : (1 ≤ 2) × ((base + 2 + e.nodes ≤ 65535) × (at + 8 * 2 + 8 * e.nodes + 8 ≤ length later))
      branch_parent = room_above_two out at base 17 0 _ _ room_own second 2 two later e.nodes w.written

      pub branch_written : (after : List ℕ) (nodes : ℕ)
          → after ≡ stored later (at + 8 * 2 + 8 * e.nodes) (node_bytes (node 17 0 (base + 2 - 1) (base + 2 + e.nodes - 1) 0))
          → nodes ≡ 2 + e.nodes + 1 → BranchWritten file function_start n p out after at base (record { nodes = nodes; next = e.next })
      branch_written after nodes m total =
          record {
            written = numbered_as out at base after _ _ _ nodes tree_is total (numbered_two out at base 17 0 _ _ room_own second 2 two later e.nodes w.written after m);
            next = record {
              place = (let lengths = branch_length in omega (arith, w.next.place));
              variable = (let variables = branch_variables in omega (arith, w.next.variable));
            };
          }

module _ (file : List ℕ) (function_start : ℕ) (source : List ℕ) (context : Context file function_start source)
    (n form : ℕ) (log : List ℕ) (p : Position) (roots out : List ℕ) (at base : ℕ) (r : NodeRecord) (same : r ≡ record_at source n)
    (given : BranchesReady file function_start n (record_at source n) form log p roots out at base) where
  ready : BranchesReady file function_start n r form log p roots out at base
  ready = subst (λ (x : NodeRecord). BranchesReady file function_start n x form log p roots out at base) (sym same) given

  abbrev guard : ℕ
  guard = p.variable

  pub branches_less : (r.second < n) × (r.third < n)
  branches_less = (branches_below (node_reads file function_start source context n ready.inside r same) ready.kind).1

  abbrev other : ℕ
  other = else_guard file function_start r guard

  abbrev then : List Event
  then = branch_at file function_start r.second guard

  abbrev else : List Event
  else = branch_at file function_start r.third other

  pub then_ready : BranchReady file function_start r.second log p roots out (at + 8 * form) (base + form)
  then_ready =
      let less = branches_less.0 in
      let variables = variable_count_append then else in
      record {
        inside = omega (arith, ready.inside);
        logged = holds_first (nodes_in file) log p.at then else ready.logged;
        steps = omega (arith, ready.steps, steps_both (scope_in file function_start) then else);
        few = omega (arith, ready.few);
        room = room_second ready.held at base 21 _ _ _ ready.room out form ready.written;
      }

  module _ (between : List ℕ) (first : Extent) (w : BranchWritten file function_start r.second p out between (at + 8 * form) (base + form) first) where
    pub else_room : Room between (at + 8 * form + 8 * first.nodes) (base + form + first.nodes) (branch_tree file function_start r.third other)
    else_room = room_third ready.held at base 21 _ _ _ ready.room out form ready.written between first.nodes w.written

    pub else_ready : (roots_now : List ℕ) → length roots_now ≡ length roots
        → BranchReady file function_start r.third log first.next roots_now between (at + 8 * form + 8 * first.nodes) (base + form + first.nodes)
    else_ready roots_now b =
        let less = branches_less.1 in
        let variables = variable_count_append then else in
        record {
          inside = omega (arith, ready.inside);
          logged = rw (w.next.place, w.next.variable) (holds_second (nodes_in file) log p.at then else ready.logged);
          steps = rw w.next.variable (omega (arith, ready.steps, steps_both (scope_in file function_start) then else));
          few = rw w.next.variable (omega (arith, ready.few));
          room = rw w.next.variable else_room;
        }

    module _ (later : List ℕ) (second : Extent)
        (v : BranchWritten file function_start r.third first.next between later (at + 8 * form + 8 * first.nodes) (base + form + first.nodes) second) where
      else_tree : Numbered between later (at + 8 * form + 8 * first.nodes) (base + form + first.nodes) (branch_tree file function_start r.third other) second.nodes
      else_tree = rw w.next.variable at v.written

      else_behind : Behind first.next else second.next
      else_behind = subst (λ (m : ℕ). Behind first.next (branch_at file function_start r.third m) second.next) w.next.variable v.next

      pub branches_parent : (1 ≤ form) × ((base + form + first.nodes + second.nodes ≤ 65535) × (at + 8 * form + 8 * first.nodes + 8 * second.nodes + 8 ≤ length later))
      branches_parent = room_above_three ready.held at base 21 _ _ _ ready.room out form ready.written between first.nodes w.written later second.nodes else_tree

      pub branches_written : (after : List ℕ) (nodes : ℕ)
          → after ≡ stored later (at + 8 * form + 8 * first.nodes + 8 * second.nodes)
          (node_bytes (node 21 0 (base + form - 1) (base + form + first.nodes - 1) (base + form + first.nodes + second.nodes - 1)))
          → nodes ≡ form + first.nodes + second.nodes + 1
          → BranchesWritten file function_start (record_at source n) form p out after at base (record { nodes = nodes; next = second.next })
      branches_written after nodes h e =
          subst (λ (x : NodeRecord). BranchesWritten file function_start x form p out after at base (record { nodes = nodes; next = second.next })) same
          (record {
            for = λ held condition room written. numbered_as held at base after _ _ _ nodes refl e (numbered_three held at base 21 _ _ _ room out form written between first.nodes w.written later second.nodes else_tree after h);
            next = behind_both p first.next second.next then else w.next else_behind;
          })
