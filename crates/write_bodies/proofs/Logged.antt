-- A statement that holds no other, and a condition, from the log of its events.
use Rattle.std.specs.Prelude.{◌≡◌, ◌+◌, ◌*◌, ◌-◌, ◌/◌, ◌<◌, ◌≤◌}
use Rattle.kit.specs.Names.{refl, ap, sym, subst, ◌∙◌, true, false≢true, List, ℕ, arith, length}
use Rattle.definitions.specs.ContractFile.{Statement, Scope, node_count}
use Rattle.definitions.specs.Rewriting.{Guard, always, single, rewrite_statement, command_tree}
use Rattle.theory_trees.specs.Trees.{expression_in, statement_in}
use Rattle.file_accepted.specs.Context.{nodes_in, scope_in}
use Rattle.file_accepted.proofs.Nodes.{nodes_counted_law}
use Rattle.rewrite_events.specs.Events.{variable_count, steps_of, Events, ended, body_events, statement_events}
use Rattle.rewrite_events.specs.Ends.{is_simple, simple_events, Unended}
use Rattle.rewrite_events.proofs.Pieces.{ended_made, body_made}
use Rattle.rewrite_events.proofs.Statements.{statement_made}
use Rattle.rewrite_events.proofs.Ends.{simple_ended, body_unended, simple_unended}
use Rattle.rewrite_log.specs.declared.Position.{Position}
use Rattle.write_variable_counts.specs.Counts.{body_count}
use Rattle.write_variable_counts.proofs.Counts.{body_makes}
use Rattle.write_nodes.specs.Numbering.{Room, Numbered}
use Rattle.write_nodes.proofs.TreeNodes.{room_as, numbered_as}
use Rattle.write_nodes.proofs.Parents.{room_first}
use Rattle.write_reads.specs.Forms.{body_form}
use Rattle.write_simple_statements.specs.Statements.{simple, simple_count}
use Rattle.write_simple_statements.proofs.Statements.{simple_makes}
use Rattle.write_steps.specs.declared.Steps.{Steps}
use Rattle.write_steps.specs.Steps.{steps_in, Readable, StepsRoom, StepsPut}
use Rattle.write_steps.proofs.Turns.{room_same, put_same}
use Rattle.write_steps.proofs.Nested.{nested_steps_room, nested_rest_room}
use Rattle.write_logged_steps.specs.Held.{HoldsEvents}
use Rattle.write_logged_steps.proofs.Apart.{holds_space}
use Rattle.write_logged_steps.proofs.Logged.{steps_logged}
use Rattle.write_logged_steps.proofs.Readings.{readable}
use Rattle.write_logged_steps.proofs.Within.{Within, body_within, statement_within, ended_within, reads_few}
use Rattle.write_ends.specs.Ends.{EndFound}
use Rattle.write_ends.proofs.Marked.{end_place, end_variable}
use Rattle.write_stepped_statements.specs.Single.{single_tree}
use Rattle.write_stepped_statements.proofs.Rewritten.{single_rewritten}
use Rattle.write_bodies.specs.Parts.{statement_tree, events_at, condition_steps}
use Rattle.write_bodies.specs.Bodies.{Behind, StatementReady, StatementWritten, ConditionReady, ConditionWritten}
use Rattle.write_bodies.proofs.Guards.{statement_alike, condition_alike}
use Rattle.write_bodies.proofs.Commands.{command_same}

simple_variables : (scope : Scope) (s : Statement) (g : Guard) (i : ℕ) → is_simple s ≡ true → (rewrite_statement scope s g i).variables ≡ (simple scope s i).variables
unfolding rewrite_statement single simple
simple_variables scope Statement.skip g i h = refl
simple_variables scope (Statement.sequence first second) g i h = absurd (false≢true h)
simple_variables scope (Statement.assign_field f value) g i h = refl
simple_variables scope (Statement.assign_entry f key value) g i h = refl
simple_variables scope (Statement.require condition) g i h = refl
simple_variables scope (Statement.conditional condition then else) g i h = absurd (false≢true h)

-- Events and their end that a log holds from a position on: as many entries, steps that can be read, and those of the events.
module _ (file : List ℕ) (function_start : ℕ) (log : List ℕ) (p : Position) (events : Events) (unended : Unended (events p.variable))
    (held : HoldsEvents (nodes_in file) log p.at (ended events p.variable)) where
  pub starts_inside : p.at ≤ length log
  starts_inside = let space = holds_space (nodes_in file) log p.at (ended events p.variable) held in omega arith

  module _ (e : Position) (found : EndFound log p.at e) where
    pub entries_are : (e.at - p.at) / 5 ≡ length (ended events p.variable)
    entries_are = let place = end_place (nodes_in file) log p.at events p.variable unended held e found in omega arith

    pub ends_behind : p.at ≤ e.at
    ends_behind = let place = end_place (nodes_in file) log p.at events p.variable unended held e found in omega arith

    pub end_behind : Behind p (ended events p.variable) e
    end_behind =
        record {
          place = end_place (nodes_in file) log p.at events p.variable unended held e found;
          variable = end_variable (nodes_in file) log p.at events p.variable unended held e found;
        }

    pub steps_are : steps_in file function_start log p.at ((e.at - p.at) / 5) ≡ steps_of (scope_in file function_start) (ended events p.variable)
    steps_are =
        ap (steps_in file function_start log p.at) entries_are
        ∙ steps_logged (scope_in file function_start) (nodes_in file) log (ended events p.variable) held.numbers held.entries p.at held.holds

    pub read_back : Within (scope_in file function_start) (ended events) → p.variable + variable_count (ended events p.variable) < 65535
        → Readable file function_start log p.at ((e.at - p.at) / 5)
    read_back within few =
        rw entries_are (readable file function_start (nodes_counted_law file) log (ended events p.variable) held.numbers held.entries p.at held.holds
        (reads_few (scope_in file function_start) (ended events) p.variable within (omega arith)))

module _ (file : List ℕ) (function_start : ℕ) (n : ℕ) (log : List ℕ) (p : Position) (roots out : List ℕ) (at base : ℕ)
    (ready : StatementReady file function_start n log p roots out at base) (plain : is_simple (statement_in (nodes_in file) n) ≡ true) where
  abbrev scope : Scope
  scope = scope_in file function_start

  abbrev s : Statement
  s = statement_in (nodes_in file) n

  abbrev parts : Events
  parts = simple_events scope s ready.guard

  whole_is : statement_events scope s ready.guard ≡ ended parts
  whole_is = simple_ended scope s ready.guard plain

  held : HoldsEvents (nodes_in file) log p.at (ended parts p.variable)
  held = subst (λ (x : Events). HoldsEvents (nodes_in file) log p.at (x p.variable)) whole_is ready.logged

  pub simple_inside : p.at ≤ length log
  simple_inside = starts_inside file function_start log p parts (simple_unended scope ready.guard s p.variable) held

  module _ (e : Position) (found : EndFound log p.at e) where
    pub simple_behind : p.at ≤ e.at
    simple_behind = ends_behind file function_start log p parts (simple_unended scope ready.guard s p.variable) held e found

    abbrev left : ℕ
    left = (e.at - p.at) / 5

    left_is : left ≡ length (statement_events scope s ready.guard p.variable)
    left_is =
        entries_are file function_start log p parts (simple_unended scope ready.guard s p.variable) held e found
        ∙ ap (λ (x : Events). length (x p.variable)) (sym whole_is)

    tree_is : single_tree file function_start log p.at left n p.variable ≡ statement_tree file function_start n p.variable
    tree_is =
        ap (λ (m : ℕ). single_tree file function_start log p.at m n p.variable) left_is
        ∙ single_rewritten file function_start log n p.variable ready.guard ready.logged.numbers p.at plain ready.logged.entries ready.logged.holds
        ∙ ap command_tree (command_same scope s ready.guard always p.variable)

    pub single_ready : (n < node_count file) × ((p.variable + simple_count (scope_in file function_start) (statement_in (nodes_in file) n) ≤ 65535)
        × ((Readable file function_start log p.at left) × ((length (steps_in file function_start log p.at left) ≤ length roots)
        × (Room out at base (single_tree file function_start log p.at left n p.variable)))))
    single_ready =
        let made = ap length ((statement_made scope s always p.variable).variables ∙ simple_variables scope s always p.variable plain) ∙ simple_makes scope s p.variable in
        let same = ap length (steps_are file function_start log p parts (simple_unended scope ready.guard s p.variable) held e found
        ∙ ap (λ (x : Events). steps_of scope (x p.variable)) (sym whole_is)) in
        let alike = statement_alike scope s ready.guard always in
        let counts : variable_count (ended parts p.variable) ≡ variable_count (events_at file function_start n p.variable) =
        ap (λ (x : Events). variable_count (x p.variable)) (sym whole_is) ∙ alike.variables _ _ in
        let within = subst (λ (x : Events). Within scope x) whole_is (statement_within scope s ready.guard) in (
          ready.inside,
          (
            omega (arith, ready.few),
            (
              read_back file function_start log p parts (simple_unended scope ready.guard s p.variable) held e found within (omega (arith, ready.few)),
              (omega (arith, ready.steps), room_as out at base _ _ (sym tree_is) ready.room),
            ),
          ),
        )

    pub single_written : (after : List ℕ) (nodes : ℕ) → Numbered out after at base (single_tree file function_start log p.at left n p.variable) nodes
        → StatementWritten file function_start n p out after at base (record { nodes = nodes; next = e })
    single_written after nodes w =
        let alike = statement_alike scope s ready.guard always in
        let behind = end_behind file function_start log p parts (simple_unended scope ready.guard s p.variable) held e found in
        record {
          written = numbered_as out at base after _ _ nodes nodes (sym tree_is) refl w;
          next = record {
            place = behind.place ∙ ap (λ (m : ℕ). p.at + 5 * m) (ap (λ (x : Events). length (x p.variable)) (sym whole_is) ∙ alike.lengths _ _);
            variable = behind.variable ∙ ap (λ (m : ℕ). p.variable + m) (ap (λ (x : Events). variable_count (x p.variable)) (sym whole_is) ∙ alike.variables _ _);
          };
        }

module _ (file : List ℕ) (function_start : ℕ) (n : ℕ) (log : List ℕ) (p : Position) (roots out : List ℕ) (at base : ℕ)
    (ready : ConditionReady file function_start n log p roots out at base) where
  abbrev own : Events
  own = body_events (scope_in file function_start) ready.guard (expression_in (nodes_in file) n)

  own_unended : Unended (own p.variable)
  own_unended = body_unended (scope_in file function_start) ready.guard (expression_in (nodes_in file) n) p.variable

  pub condition_inside : p.at ≤ length log
  condition_inside = starts_inside file function_start log p own own_unended ready.logged

  module _ (e : Position) (found : EndFound log p.at e) where
    pub condition_behind : p.at ≤ e.at
    condition_behind = ends_behind file function_start log p own own_unended ready.logged e found

    abbrev entries : ℕ
    entries = (e.at - p.at) / 5

    same_steps : steps_in file function_start log p.at entries ≡ condition_steps file function_start n p.variable
    same_steps =
        steps_are file function_start log p own own_unended ready.logged e found
        ∙ (ended_made (scope_in file function_start) ready.guard _ own p.variable
        (body_made (scope_in file function_start) ready.guard (expression_in (nodes_in file) n) p.variable)).steps

    pub steps_ready : (Readable file function_start log p.at entries) × (StepsRoom out roots at base 0 (steps_in file function_start log p.at entries))
    steps_ready =
        let scope = scope_in file function_start in
        let alike = (condition_alike scope (expression_in (nodes_in file) n) ready.guard always).variables p.variable p.variable in (
          read_back file function_start log p own own_unended ready.logged e found (ended_within scope own (body_within scope ready.guard (expression_in (nodes_in file) n)))
              (omega (arith, ready.few)),
          room_same out roots at base 0 _ _ (sym same_steps) (nested_steps_room out roots at base _ _ ready.room ready.enough),
        )

    module _ (between roots_after : List ℕ) (r : Steps) (put : StepsPut out between roots roots_after at base 0 (steps_in file function_start log p.at entries) r) where
      own_put : StepsPut out between roots roots_after at base 0 (condition_steps file function_start n p.variable) r
      own_put = put_same out roots at base 0 between roots_after _ _ r (sym same_steps) put

      pub form_ready : (n < node_count file) × ((p.variable + body_count (scope_in file function_start) (expression_in (nodes_in file) n) ≤ 65535)
          × (Room between (at + 8 * r.nodes) (base + r.nodes) (body_form (scope_in file function_start) (expression_in (nodes_in file) n) p.variable)))
      unfolding command_tree
      form_ready =
          let scope = scope_in file function_start in
          let x = expression_in (nodes_in file) n in
          let made = ap length (ended_made scope always _ (body_events scope always x) p.variable (body_made scope always x p.variable)).variables ∙ (body_makes scope x).length p.variable in (
            ready.inside,
            (
              omega (arith, ready.few),
              room_first between (at + 8 * r.nodes) (base + r.nodes) 21 _ _ _ (nested_rest_room out roots at base _ _ ready.room ready.enough between roots_after r own_put),
            ),
          )

      pub condition_written : (after : List ℕ) (form : ℕ)
          → Numbered between after (at + 8 * r.nodes) (base + r.nodes) (body_form (scope_in file function_start) (expression_in (nodes_in file) n) p.variable) form
          → ConditionWritten file function_start n p roots roots_after out after at base (record { count = r.count; nodes = r.nodes; form = form; next = e })
      condition_written after form w =
          let alike = condition_alike (scope_in file function_start) (expression_in (nodes_in file) n) ready.guard always in
          let behind = end_behind file function_start log p own own_unended ready.logged e found in
          record {
            between = between;
            put = record { contents = own_put.contents; noted = own_put.noted; nodes = own_put.nodes; count = own_put.count };
            written = w;
            next = record {
              place = behind.place ∙ ap (λ (m : ℕ). p.at + 5 * m) (alike.lengths _ _);
              variable = behind.variable ∙ ap (λ (m : ℕ). p.variable + m) (alike.variables _ _);
            };
          }
