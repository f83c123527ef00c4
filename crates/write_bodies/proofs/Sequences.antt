-- A sequence from its two statements.
use Rattle.std.specs.Prelude.{◌≡◌, ◌++◌, ◌+◌, ◌*◌, ◌-◌, ◌<◌, ◌≤◌}
use Rattle.kit.specs.Names.{ap, sym, subst, ◌∙◌, List, ℕ, arith, length}
use Rattle.definitions.specs.ContractFile.{Statement, NodeRecord, node}
use Rattle.definitions.specs.Rewriting.{always, two_children, node_bytes, command_tree}
use Rattle.theory_laws.proofs.Records.{kind_as}
use Rattle.theory_trees.specs.Trees.{statement_in}
use Rattle.memory_buffer.specs.Buffer.{stored}
use Rattle.file_accepted.specs.Context.{Context, nodes_in, scope_in}
use Rattle.theory_trees.proofs.ByKind.{sequence_is, steps_below}
use Rattle.file_accepted.proofs.Nodes.{node_reads}
use Rattle.rewrite_events.specs.Events.{Event, variable_count, steps_of, Events, in_turn, statement_events}
use Rattle.rewrite_events.proofs.Appended.{variable_count_append}
use Rattle.rewrite_log.specs.declared.Position.{Position}
use Rattle.write_nodes.specs.Numbering.{Room, Numbered}
use Rattle.write_nodes.proofs.TreeNodes.{room_left, room_right, room_above_two, numbered_two, room_as, numbered_as}
use Rattle.write_bodies.specs.declared.Extent.{Extent}
use Rattle.write_bodies.specs.Parts.{command_of, events_of, statement_tree, events_at}
use Rattle.file_decoded.specs.Slices.{record_at}
use Rattle.write_logged_steps.specs.Held.{HoldsEvents}
use Rattle.write_bodies.specs.Bodies.{Behind, StatementReady, StatementWritten}
use Rattle.write_bodies.proofs.Guards.{statement_alike}
use Rattle.write_bodies.proofs.Commands.{sequence_command}
use Rattle.write_bodies.proofs.Positions.{turn_first, turn_second, steps_both, turn_steps, behind_both}

module _ (file : List ℕ) (function_start : ℕ) (source : List ℕ) (context : Context file function_start source)
    (n : ℕ) (log : List ℕ) (p : Position) (roots out : List ℕ) (at base : ℕ) (ready : StatementReady file function_start n log p roots out at base)
    (r : NodeRecord) (same : r ≡ record_at source n) (kind : (record_at source n).kind ≡ 17) where
  own_kind : r.kind ≡ 17
  own_kind = kind_as (record_at source n) r 17 (sym same) kind

  pub parts_less : (r.first < n) × (r.second < n)
  parts_less = steps_below (node_reads file function_start source context n ready.inside r same) own_kind

  is : statement_in (nodes_in file) n ≡ Statement.sequence (statement_in (nodes_in file) r.first) (statement_in (nodes_in file) r.second)
  is = sequence_is (node_reads file function_start source context n ready.inside r same) own_kind

  abbrev i : ℕ
  i = p.variable

  abbrev middle : ℕ
  middle = i + variable_count (events_at file function_start r.first i)

  tree_is : statement_tree file function_start n i ≡ two_children 17 0 (statement_tree file function_start r.first i) (statement_tree file function_start r.second middle)
  unfolding command_tree
  tree_is =
      ap (λ (s : Statement). command_tree (command_of (scope_in file function_start) s i)) is
      ∙ ap command_tree (sequence_command (scope_in file function_start) (statement_in (nodes_in file) r.first) (statement_in (nodes_in file) r.second) always i)

  events_are : events_at file function_start n i ≡ events_at file function_start r.first i ++ events_at file function_start r.second middle
  unfolding statement_events in_turn
  events_are = ap (λ (x : Statement). events_of (scope_in file function_start) x i) is

  variables_are : variable_count (events_at file function_start n i) ≡ variable_count (events_at file function_start r.first i) + variable_count (events_at file function_start r.second middle)
  variables_are = ap variable_count events_are ∙ variable_count_append (events_at file function_start r.first i) _

  abbrev first_events : Events
  first_events = statement_events (scope_in file function_start) (statement_in (nodes_in file) r.first) ready.guard

  abbrev second_events : Events
  second_events = statement_events (scope_in file function_start) (statement_in (nodes_in file) r.second) ready.guard

  logged : HoldsEvents (nodes_in file) log p.at (in_turn first_events second_events i)
  unfolding statement_events
  logged = subst (λ (x : Statement). HoldsEvents (nodes_in file) log p.at (statement_events (scope_in file function_start) x ready.guard i)) is ready.logged

  room_own : Room out at base (two_children 17 0 (statement_tree file function_start r.first i) (statement_tree file function_start r.second middle))
  room_own = room_as out at base _ _ tree_is ready.room

  own_steps : length (steps_of (scope_in file function_start) (in_turn first_events second_events i)) ≤ length roots
  unfolding statement_events
  own_steps =
      subst (λ (x : Statement). length (steps_of (scope_in file function_start) (statement_events (scope_in file function_start) x ready.guard i)) ≤ length roots) is ready.steps

  pub first_ready : StatementReady file function_start r.first log p roots out at base
  unfolding in_turn
  first_ready =
      let less = parts_less.0 in
      let all = own_steps in
      let variables = variables_are in
      record {
        inside = omega (arith, ready.inside);
        guard = ready.guard;
        logged = turn_first (nodes_in file) log p.at first_events second_events i logged;
        steps = omega (arith, steps_both (scope_in file function_start) (first_events i) (second_events (i + variable_count (first_events i))));
        few = omega (arith, ready.few);
        room = room_left out at base 17 0 _ _ room_own;
      }

  module _ (between : List ℕ) (first : Extent) (w : StatementWritten file function_start r.first p out between at base first) where
    pub second_room : Room between (at + 8 * first.nodes) (base + first.nodes) (statement_tree file function_start r.second middle)
    second_room = room_right out at base 17 0 _ _ room_own between first.nodes w.written

    pub second_ready : (roots_now : List ℕ) → length roots_now ≡ length roots
        → StatementReady file function_start r.second log first.next roots_now between (at + 8 * first.nodes) (base + first.nodes)
    second_ready roots_now b =
        let less = parts_less.1 in
        let all = own_steps in
        let variables = variables_are in
        let alike = statement_alike (scope_in file function_start) (statement_in (nodes_in file) r.first) ready.guard always in
        record {
          inside = omega (arith, ready.inside);
          guard = ready.guard;
          logged = turn_second (nodes_in file) log p first.next first_events second_events (statement_events (scope_in file function_start) (statement_in (nodes_in file) r.first) always) alike w.next logged;
          steps = omega (arith, turn_steps (scope_in file function_start) p first.next first_events second_events (statement_events (scope_in file function_start) (statement_in (nodes_in file) r.first) always) alike w.next);
          few = rw w.next.variable (omega (arith, ready.few));
          room = rw w.next.variable second_room;
        }

    module _ (later : List ℕ) (second : Extent)
        (v : StatementWritten file function_start r.second first.next between later (at + 8 * first.nodes) (base + first.nodes) second) where
      second_tree : Numbered between later (at + 8 * first.nodes) (base + first.nodes) (statement_tree file function_start r.second middle) second.nodes
      second_tree = rw w.next.variable at v.written

      second_behind : Behind first.next (events_at file function_start r.second middle) second.next
      second_behind = subst (λ (m : ℕ). Behind first.next (events_at file function_start r.second m) second.next) w.next.variable v.next

      pub parent_ready : (1 ≤ first.nodes) × ((base + first.nodes + second.nodes ≤ 65535) × (at + 8 * first.nodes + 8 * second.nodes + 8 ≤ length later))
      parent_ready = room_above_two out at base 17 0 _ _ room_own between first.nodes w.written later second.nodes second_tree

      pub sequence_written : (after : List ℕ) (nodes : ℕ)
          → after ≡ stored later (at + 8 * first.nodes + 8 * second.nodes) (node_bytes (node 17 0 (base + first.nodes - 1) (base + first.nodes + second.nodes - 1) 0))
          → nodes ≡ first.nodes + second.nodes + 1 → StatementWritten file function_start n p out after at base (record { nodes = nodes; next = second.next })
      sequence_written after nodes h e =
          record {
            written = numbered_as out at base after _ _ _ nodes tree_is e (numbered_two out at base 17 0 _ _ room_own between first.nodes w.written later second.nodes second_tree after h);
            next = subst (λ (l : List Event). Behind p l second.next) (sym events_are) (behind_both p first.next second.next _ _ w.next second_behind);
          }
