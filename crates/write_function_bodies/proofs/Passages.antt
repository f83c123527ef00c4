-- A function's root statement with its verify, and its whole body behind the reads of its private parameters.
use Rattle.std.specs.Prelude.{◌≡◌, ◌∷◌, ◌+◌, ◌*◌, ◌-◌, ◌≤◌}
use Rattle.kit.specs.Names.{refl, ap, ap₂, sym, subst, ◌∙◌, Bool, true, false, cond, List, [], map, ℕ, suc}
use Rattle.kit.specs.Names.{arith, ltb, length, take, length-map, lt-ltb}
use Rattle.definitions.specs.Basics.{flat_map}
use Rattle.definitions.specs.ContractFile.{Parameter, byte_at, two_bytes_at, function_end, parameter_records, parameter_of, node}
use Rattle.definitions.specs.Rewriting.{Command, Constraint, always, Step, private_parameters, openings, steps_before, with_verify, rewrite_function, Tree, leaf, two_children, node_bytes, command_tree}
use Rattle.theory_laws.proofs.Records.{parameters_length}
use Rattle.theory_laws.proofs.Written.{opening_count}
use Rattle.theory_trees.specs.Trees.{statement_in}
use Rattle.memory_buffer.specs.Buffer.{stored}
use Rattle.file_accepted.specs.Context.{Context, nodes_in, parameters_in, scope_in}
use Rattle.file_accepted.specs.Functions.{root_at}
use Rattle.write_nodes.specs.Numbering.{Room, Numbered}
use Rattle.write_nodes.proofs.TreeNodes.{room_left, room_right, room_above_two, room_any, numbered_leaf, numbered_two, room_as, numbered_as}
use Rattle.write_parameters.specs.Parameters.{private_count}
use Rattle.write_steps.specs.declared.Steps.{Steps}
use Rattle.write_steps.specs.Steps.{closers, StepsRoom, StepsPut}
use Rattle.write_steps.proofs.Nesting.{nested_size}
use Rattle.write_steps.proofs.Nested.{nested_steps_room, nested_rest_room, nested_close_room, numbered_nested}
use Rattle.write_function_room.specs.Functions.{written_in}
use Rattle.write_bodies.specs.declared.Extent.{Extent}
use Rattle.write_bodies.specs.Parts.{command_of, statement_tree, opening_steps, passage_tree}
use Rattle.write_bodies.specs.Bodies.{StatementReady, StatementWritten, PassageReady, BodyReady}

module _ (file : List ℕ) (function_start : ℕ) (private : ℕ) (verified : Bool) (log roots out : List ℕ) (at base : ℕ)
    (ready : PassageReady file function_start private verified log roots out at base)
    (end root : ℕ) (ends : end ≡ function_end file function_start) (read : root ≡ two_bytes_at file (end - 2)) where
  root_is : root ≡ root_at file function_start
  root_is = read ∙ ap (λ (x : ℕ). two_bytes_at file (x - 2)) ends

  abbrev body : Tree
  body = statement_tree file function_start (root_at file function_start) private

  room_body : (v : Bool) → Room out at base (cond v (two_children 17 0 body (leaf 23 0 0 0)) body) → Room out at base body
  room_body true room = room_left out at base 17 0 _ _ room
  room_body false room = room

  pub root_ready : StatementReady file function_start root log (record { at = 0; variable = private }) roots out at base
  root_ready =
      subst (λ (n : ℕ). StatementReady file function_start n log (record { at = 0; variable = private }) roots out at base) (sym root_is)
      (record {
        inside = ready.root;
        guard = always;
        logged = ready.logged;
        steps = ready.steps;
        few = ready.few;
        room = room_body verified ready.room;
      })

  module _ (between : List ℕ) (e : Extent) (w : StatementWritten file function_start root (record { at = 0; variable = private }) out between at base e) where
    own : Numbered out between at base body e.nodes
    own = (subst (λ (n : ℕ). StatementWritten file function_start n (record { at = 0; variable = private }) out between at base e) root_is w).written

    pub unverified : verified ≡ false → Numbered out between at base (passage_tree file function_start private verified) e.nodes
    unverified v = rw v own

    module _ (v : verified ≡ true) where
      room_both : Room out at base (two_children 17 0 body (leaf 23 0 0 0))
      room_both = rw v at ready.room

      pub verify_room : Room between (at + 8 * e.nodes) (base + e.nodes) (leaf 23 0 0 0)
      verify_room = room_right out at base 17 0 _ _ room_both between e.nodes own

      pub verify_fits : at + 8 * e.nodes + 8 ≤ length between
      verify_fits = room_any between (at + 8 * e.nodes) (base + e.nodes) _ verify_room

      module _ (later : List ℕ) (h : later ≡ stored between (at + 8 * e.nodes) (node_bytes (node 23 0 0 0 0))) where
        verify : Numbered between later (at + 8 * e.nodes) (base + e.nodes) (leaf 23 0 0 0) 1
        verify = numbered_leaf between (at + 8 * e.nodes) (base + e.nodes) later 23 0 0 0 h

        pub verified_parent : (1 ≤ e.nodes) × ((base + e.nodes + 1 ≤ 65535) × (at + 8 * e.nodes + 8 * 1 + 8 ≤ length later))
        verified_parent = room_above_two out at base 17 0 _ _ room_both between e.nodes own later 1 verify

        pub verified_written : (after : List ℕ) (nodes : ℕ)
            → after ≡ stored later (at + 8 * e.nodes + 8 * 1) (node_bytes (node 17 0 (base + e.nodes - 1) (base + e.nodes + 1 - 1) 0))
            → nodes ≡ e.nodes + 1 + 1 → Numbered out after at base (passage_tree file function_start private verified) nodes
        verified_written after nodes m total =
            rw v (numbered_as out at base after _ _ _ nodes refl total (numbered_two out at base 17 0 _ _ room_both between e.nodes own later 1 verify after m))

opening_steps_law : (ks : List ℕ) (i : ℕ) → length (openings ks i).steps ≡ length ks
unfolding openings
opening_steps_law [] i = refl
opening_steps_law (k ∷ ks) i = ap suc (opening_steps_law ks (suc i))

private_few : (k : ℕ) (ps : List Parameter) → length (private_parameters k ps) ≤ length ps
unfolding private_parameters
private_few k [] = omega arith
private_few k (p ∷ ps) = go p.private (private_few (suc k) ps)
  where
    go : (b : Bool) → length (private_parameters (suc k) ps) ≤ length ps → length (cond b (k ∷ private_parameters (suc k) ps) (private_parameters (suc k) ps)) ≤ suc (length ps)
    go true h = omega arith
    go false h = omega arith

abbrev ended : Bool → Command → Command
ended v command = cond v (Command.sequence command Command.verify) command

verify_ends : (constraints : List Constraint) (command : Command) → with_verify constraints command ≡ ended (ltb 0 (length constraints)) command
verify_ends [] command = refl
verify_ends (c ∷ cs) command = rw (lt-ltb 0 (suc (length cs)) (omega arith))

module _ (file : List ℕ) (function_start : ℕ) (source : List ℕ) (context : Context file function_start source)
    (private : ℕ) (verified : Bool) (log roots out : List ℕ) (at base : ℕ)
    (ready : BodyReady file function_start private verified log roots out at base) where
  abbrev privates : List ℕ
  privates = private_parameters 0 (map parameter_of (parameter_records (byte_at file function_start) file (function_start + 1)))

  abbrev steps : List Step
  steps = opening_steps file (function_start + 1) (byte_at file function_start) 0 0

  abbrev rest : Command
  rest = ended verified (command_of (scope_in file function_start) (statement_in (nodes_in file) (root_at file function_start)) private)

  private_is_law : length privates ≡ private
  unfolding private_count
  private_is_law = sym ready.private_is

  body_is : (written_in file function_start).body ≡ steps_before steps rest
  unfolding rewrite_function parameters_in
  body_is =
      ap (steps_before steps) (verify_ends (written_in file function_start).constraints _)
      ∙ ap₂ (λ (v : Bool) (n : ℕ). steps_before steps (ended v (command_of (scope_in file function_start) (statement_in (nodes_in file) (root_at file function_start)) n)))
      (sym ready.verifies) (opening_count privates 0 ∙ private_is_law)

  rest_tree : (v : Bool) (command : Command) → command_tree (ended v command) ≡ cond v (two_children 17 0 (command_tree command) (leaf 23 0 0 0)) (command_tree command)
  unfolding command_tree
  rest_tree true command = refl
  rest_tree false command = refl

  passage_is : command_tree rest ≡ passage_tree file function_start private verified
  passage_is = rest_tree verified (command_of (scope_in file function_start) (statement_in (nodes_in file) (root_at file function_start)) private)

  room_own : Room out at base (command_tree (steps_before steps rest))
  room_own = room_as out at base _ _ (ap command_tree body_is) ready.room

  few_steps : length steps ≤ 8
  few_steps =
      let count = opening_steps_law privates 0 in
      let fewer = private_few 0 (map parameter_of (parameter_records (byte_at file function_start) file (function_start + 1))) in
      let same = length-map (parameter_records (byte_at file function_start) file (function_start + 1)) parameter_of in
      let long = parameters_length (byte_at file function_start) file (function_start + 1) in
      omega (arith, context.few_parameters)

  enough : length steps ≤ length roots
  enough = let few = few_steps in omega (arith, ready.steps)

  module _ (count : ℕ) (read : count ≡ byte_at file function_start) where
    pub openings_ready : (0 + count ≤ 8) × ((0 ≤ 0) × ((function_start + 1 + 2 * count ≤ 1000000) × (StepsRoom out roots at base 0 (opening_steps file (function_start + 1) count 0 0))))
    openings_ready = (
      omega (arith, read, context.few_parameters),
      (
        omega arith,
        (
          omega (arith, read, context.few_parameters, context.near_function),
          subst (λ (n : ℕ). StepsRoom out roots at base 0 (opening_steps file (function_start + 1) n 0 0)) (sym read) (nested_steps_room out roots at base steps rest room_own enough),
        ),
      ),
    )

    module _ (between roots_after : List ℕ) (r : Steps) (given : StepsPut out between roots roots_after at base 0 (opening_steps file (function_start + 1) count 0 0) r) where
      put : StepsPut out between roots roots_after at base 0 steps r
      put = subst (λ (n : ℕ). StepsPut out between roots roots_after at base 0 (opening_steps file (function_start + 1) n 0 0) r) read given

      pub openings_fit : (r.count ≤ length roots) × ((at + 8 * r.nodes ≤ length out) × (base + r.nodes + r.count ≤ 65535))
      openings_fit =
          let total = nested_size steps rest in
          (omega (arith, put.count, enough), (omega (arith, put.nodes, room_own.bytes), omega (arith, put.nodes, put.count, room_own.numbers)))

      rest_room : Room between (at + 8 * r.nodes) (base + r.nodes) (command_tree rest)
      rest_room = nested_rest_room out roots at base steps rest room_own enough between roots_after r put

      pub passage_ready : (roots_now : List ℕ) → length roots_now ≡ length roots_after - r.count → length roots_after ≡ length roots
          → PassageReady file function_start private verified log roots_now between (at + 8 * r.nodes) (base + r.nodes)
      passage_ready roots_now a b =
          let few = few_steps in
          let opened = put.count in
          let known = ready.private_is in
          rw ready.private_is
          (record {
            root = ready.root;
            logged = ready.logged;
            steps = omega (arith, ready.steps);
            few = ready.few;
            room = rw ready.private_is at (room_as between (at + 8 * r.nodes) (base + r.nodes) _ _ passage_is rest_room);
          })

      module _ (later : List ℕ) (nodes : ℕ) (w : Numbered between later (at + 8 * r.nodes) (base + r.nodes) (passage_tree file function_start private verified) nodes) where
        rest_written : Numbered between later (at + 8 * r.nodes) (base + r.nodes) (command_tree rest) nodes
        rest_written = numbered_as between (at + 8 * r.nodes) (base + r.nodes) later _ _ nodes nodes passage_is refl w

        pub body_close : (1 ≤ nodes) × ((r.count ≤ length roots_after) × ((base + r.nodes + nodes - 1 + r.count ≤ 65535) × (at + 8 * r.nodes + 8 * nodes + 8 * r.count ≤ length later)))
        body_close = nested_close_room out roots at base steps rest room_own enough between roots_after r put later nodes rest_written

        pub body_written : (roots_now last : List ℕ) → take r.count roots_now ≡ take r.count roots_after
            → last ≡ stored later (at + 8 * r.nodes + 8 * nodes) (flat_map node_bytes (closers (take r.count roots_now) (base + r.nodes + nodes - 1)))
            → Numbered out last at base (command_tree (written_in file function_start).body) (r.nodes + nodes + r.count)
        body_written roots_now last front h =
            let closed : last ≡ stored later (at + 8 * r.nodes + 8 * nodes) (flat_map node_bytes (closers (take r.count roots_after) (base + r.nodes + nodes - 1))) = rw front at h in
            numbered_as out at base last _ _ _ _ (ap command_tree body_is) refl
            (numbered_nested out roots at base steps rest room_own enough between roots_after r put later nodes rest_written last closed)
