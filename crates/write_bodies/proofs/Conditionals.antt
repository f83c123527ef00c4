-- A conditional behind the steps of its condition, from its condition and its branches.
use Rattle.std.specs.Prelude.{◌≡◌, ◌++◌, ◌+◌, ◌*◌, ◌-◌, ◌≤◌}
use Rattle.kit.specs.Names.{refl, ap, sym, subst, ◌∙◌, List, ℕ, arith, length, take}
use Rattle.definitions.specs.Basics.{flat_map}
use Rattle.definitions.specs.ContractFile.{Statement, NodeRecord}
use Rattle.definitions.specs.Owners.{owner_of}
use Rattle.definitions.specs.Rewriting.{Command, Guard, always, Step, in_body, steps_before, node_bytes, command_tree}
use Rattle.theory_laws.proofs.Records.{kind_as}
use Rattle.theory_trees.specs.Trees.{expression_in, statement_in}
use Rattle.memory_buffer.specs.Buffer.{stored}
use Rattle.file_accepted.specs.Context.{Context, nodes_in, scope_in}
use Rattle.theory_trees.proofs.ByKind.{conditional_is, branches_below}
use Rattle.file_accepted.proofs.Nodes.{node_reads}
use Rattle.rewrite_events.specs.Events.{Event, steps_of, variable_count, Events, in_turn, ended, body_events, branch_events, statement_events}
use Rattle.rewrite_events.proofs.Appended.{variable_count_append}
use Rattle.rewrite_events.proofs.Pieces.{ended_made, body_made}
use Rattle.rewrite_log.specs.declared.Position.{Position}
use Rattle.write_nodes.specs.Numbering.{Room, Numbered}
use Rattle.write_nodes.proofs.TreeNodes.{room_as, numbered_as}
use Rattle.write_reads.specs.Forms.{body_form}
use Rattle.write_steps.specs.Steps.{closers}
use Rattle.write_steps.proofs.Nesting.{nested_size}
use Rattle.write_steps.proofs.Nested.{nested_rest_room, nested_close_room, numbered_nested}
use Rattle.write_bodies.specs.declared.Extent.{Extent}
use Rattle.write_bodies.specs.declared.Condition.{Condition}
use Rattle.write_bodies.specs.Parts.{command_of, events_of, branch_command, statement_tree, events_at, condition_at, condition_steps}
use Rattle.file_decoded.specs.Slices.{record_at}
use Rattle.write_logged_steps.specs.Held.{HoldsEvents}
use Rattle.write_bodies.specs.Bodies.{Behind, StatementReady, StatementWritten, ConditionReady, ConditionWritten, else_guard, branches_at, BranchesReady, BranchesWritten}
use Rattle.write_bodies.proofs.Guards.{condition_alike}
use Rattle.write_bodies.proofs.Commands.{branching_command}
use Rattle.write_bodies.proofs.Positions.{turn_first, turn_second, steps_both, turn_steps, behind_both}

module _ (file : List ℕ) (function_start : ℕ) (source : List ℕ) (context : Context file function_start source)
    (n : ℕ) (log : List ℕ) (p : Position) (roots out : List ℕ) (at base : ℕ) (ready : StatementReady file function_start n log p roots out at base)
    (r : NodeRecord) (same : r ≡ record_at source n) (kind : (record_at source n).kind ≡ 21) where
  own_kind : r.kind ≡ 21
  own_kind = kind_as (record_at source n) r 21 (sym same) kind

  is : statement_in (nodes_in file) n
      ≡ Statement.conditional (expression_in (nodes_in file) r.first) (statement_in (nodes_in file) r.second) (statement_in (nodes_in file) r.third)
  is = conditional_is (node_reads file function_start source context n ready.inside r same) own_kind

  abbrev i : ℕ
  i = p.variable

  abbrev guard : ℕ
  guard = i + variable_count (condition_at file function_start r.first i)

  abbrev steps : List Step
  steps = condition_steps file function_start r.first i

  abbrev rest : Command
  rest =
      Command.conditional (in_body (owner_of (scope_in file function_start)) (expression_in (nodes_in file) r.first) i).form
      (branch_command (scope_in file function_start) (statement_in (nodes_in file) r.second) guard)
      (branch_command (scope_in file function_start) (statement_in (nodes_in file) r.third) (else_guard file function_start r guard))

  tree_is : statement_tree file function_start n i ≡ command_tree (steps_before steps rest)
  tree_is =
      ap (λ (s : Statement). command_tree (command_of (scope_in file function_start) s i)) is
      ∙ ap command_tree (branching_command (scope_in file function_start) (expression_in (nodes_in file) r.first) (statement_in (nodes_in file) r.second) (statement_in (nodes_in file) r.third) i)

  events_are : events_at file function_start n i ≡ condition_at file function_start r.first i ++ branches_at file function_start r guard
  unfolding statement_events in_turn
  events_are = ap (λ (x : Statement). events_of (scope_in file function_start) x i) is

  variables_are : variable_count (events_at file function_start n i)
      ≡ variable_count (condition_at file function_start r.first i) + variable_count (branches_at file function_start r guard)
  variables_are = ap variable_count events_are ∙ variable_count_append (condition_at file function_start r.first i) _

  abbrev condition : Guard → Events
  condition g = ended (body_events (scope_in file function_start) g (expression_in (nodes_in file) r.first))

  abbrev branches : Events
  branches =
      in_turn (branch_events (statement_events (scope_in file function_start) (statement_in (nodes_in file) r.second)))
      (branch_events (statement_events (scope_in file function_start) (statement_in (nodes_in file) r.third)))

  logged : HoldsEvents (nodes_in file) log p.at (in_turn (condition ready.guard) branches i)
  unfolding statement_events
  logged = subst (λ (x : Statement). HoldsEvents (nodes_in file) log p.at (statement_events (scope_in file function_start) x ready.guard i)) is ready.logged

  room_own : Room out at base (command_tree (steps_before steps rest))
  room_own = room_as out at base _ _ tree_is ready.room

  own_steps : length (steps_of (scope_in file function_start) (in_turn (condition ready.guard) branches i)) ≤ length roots
  unfolding statement_events
  own_steps =
      subst (λ (x : Statement). length (steps_of (scope_in file function_start) (statement_events (scope_in file function_start) x ready.guard i)) ≤ length roots) is ready.steps

  steps_made : length (steps_of (scope_in file function_start) (condition ready.guard i)) ≡ length steps
  steps_made =
      ap length (ended_made (scope_in file function_start) ready.guard _ (body_events (scope_in file function_start) ready.guard (expression_in (nodes_in file) r.first)) i
      (body_made (scope_in file function_start) ready.guard (expression_in (nodes_in file) r.first) i)).steps

  enough : length steps ≤ length roots
  unfolding in_turn
  enough =
      let all = own_steps in
      let same = steps_made in
      omega (arith, steps_both (scope_in file function_start) (condition ready.guard i) (branches (i + variable_count (condition ready.guard i))))

  pub condition_ready : ConditionReady file function_start r.first log p roots out at base
  condition_ready =
      let less = (branches_below (node_reads file function_start source context n ready.inside r same) own_kind).0 in
      let variables = variables_are in
      record {
        inside = omega (arith, ready.inside);
        guard = ready.guard;
        logged = turn_first (nodes_in file) log p.at (condition ready.guard) branches i logged;
        few = omega (arith, ready.few);
        enough = enough;
        then = branch_command (scope_in file function_start) (statement_in (nodes_in file) r.second) guard;
        else = branch_command (scope_in file function_start) (statement_in (nodes_in file) r.third) (else_guard file function_start r guard);
        room = room_own;
      }

  module _ (roots_after after : List ℕ) (c : Condition) (w : ConditionWritten file function_start r.first p roots roots_after out after at base c) where
    abbrev place : ℕ
    place = at + 8 * c.nodes

    abbrev number : ℕ
    number = base + c.nodes

    rest_room : Room w.between place number (command_tree rest)
    rest_room = nested_rest_room out roots at base steps rest room_own enough w.between roots_after (record { count = c.count; nodes = c.nodes }) w.put

    pub condition_fits : (c.count ≤ length roots) × ((place ≤ length out) × (number + c.count ≤ 65535))
    condition_fits =
        let total = nested_size steps rest in
        (omega (arith, w.put.count, enough), (omega (arith, w.put.nodes, room_own.bytes), omega (arith, w.put.nodes, w.put.count, room_own.numbers)))

    pub branches_ready : (roots_now : List ℕ) → length roots_now ≡ length roots_after - c.count → length roots_after ≡ length roots
        → BranchesReady file function_start n (record_at source n) c.form log c.next roots_now after place number
    unfolding command_tree in_turn
    branches_ready roots_now b d =
        let all = own_steps in
        let made = steps_made in
        let count = w.put.count in
        let fits = condition_fits.0 in
        let variables = variables_are in
        let alike = condition_alike (scope_in file function_start) (expression_in (nodes_in file) r.first) ready.guard always in
        let next = w.next.variable in
        subst (λ (x : NodeRecord). BranchesReady file function_start n x c.form log c.next roots_now after place number) same
        (record {
          inside = ready.inside;
          kind = own_kind;
          logged = turn_second (nodes_in file) log p c.next (condition ready.guard) branches (condition always) alike w.next logged;
          steps = omega (arith, turn_steps (scope_in file function_start) p c.next (condition ready.guard) branches (condition always) alike w.next);
          few = rw next (omega (arith, ready.few));
          held = w.between;
          condition = body_form (scope_in file function_start) (expression_in (nodes_in file) r.first) i;
          room = rw next rest_room;
          written = w.written;
        })

    module _ (later : List ℕ) (e : Extent) (v : BranchesWritten file function_start (record_at source n) c.form c.next after later place number e) where
      branches_own : BranchesWritten file function_start r c.form c.next after later place number e
      branches_own = subst (λ (x : NodeRecord). BranchesWritten file function_start x c.form c.next after later place number e) (sym same) v

      rest_written : Numbered w.between later place number (command_tree rest) e.nodes
      unfolding command_tree
      rest_written =
          rw w.next.variable at (branches_own.for w.between (body_form (scope_in file function_start) (expression_in (nodes_in file) r.first) i)
          (rw w.next.variable rest_room) w.written)

      branches_behind : Behind c.next (branches_at file function_start r guard) e.next
      branches_behind = subst (λ (m : ℕ). Behind c.next (branches_at file function_start r m) e.next) w.next.variable branches_own.next

      pub close_room : (1 ≤ e.nodes) × ((c.count ≤ length roots_after) × ((number + e.nodes - 1 + c.count ≤ 65535) × (place + 8 * e.nodes + 8 * c.count ≤ length later)))
      close_room = nested_close_room out roots at base steps rest room_own enough w.between roots_after (record { count = c.count; nodes = c.nodes }) w.put later e.nodes rest_written

      pub conditional_written : (roots_now last : List ℕ) → take c.count roots_now ≡ take c.count roots_after
          → last ≡ stored later (place + 8 * e.nodes) (flat_map node_bytes (closers (take c.count roots_now) (number + e.nodes - 1)))
          → StatementWritten file function_start n p out last at base (record { nodes = c.nodes + e.nodes + c.count; next = e.next })
      conditional_written roots_now last front h =
          let closed : last ≡ stored later (place + 8 * e.nodes) (flat_map node_bytes (closers (take c.count roots_after) (number + e.nodes - 1))) = rw front at h in
          record {
            written = numbered_as out at base last _ _ _ _ tree_is refl (numbered_nested out roots at base steps rest room_own enough w.between roots_after (record { count = c.count; nodes = c.nodes }) w.put later e.nodes rest_written last closed);
            next = subst (λ (l : List Event). Behind p l e.next) (sym events_are) (behind_both p c.next e.next _ _ w.next branches_behind);
          }
