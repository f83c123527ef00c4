-- What the body of a called function discloses is what the call would disclose, and no more values than a file has nodes.
use Rattle.std.specs.Prelude.{◌≡◌, ◌∷◌, ◌<◌, ◌≤◌}
use Rattle.kit.specs.Names.{refl, ap, sym, ◌∙◌, List, [], map, ℕ, zero, suc, arith, length}
use Rattle.definitions.specs.ContractFile.{Name, me_name, Field, Function, function_at, sections_of, contract_of}
use Rattle.definitions.specs.Original.{address_in, disclosed_by, original_discloses, call_address}
use Rattle.definitions.specs.Ledger.{Ledger, opened_number, call_number}
use Rattle.definitions.specs.View.{disclosed_on}
use Rattle.theory_trees.specs.Trees.{statement_in}
use Rattle.memory_append.specs.Append.{Appended}
use Rattle.file_bytes.proofs.Sections.{count_of_nodes}
use Rattle.file_accepted.specs.Context.{nodes_in, fields_in}
use Rattle.file_accepted.specs.Functions.{function_start, root_at}
use Rattle.file_accepted.proofs.Functions.{functions_count, function_in_law}
use Rattle.ledger_addresses.specs.Addresses.{AddressRoom, Addressed}
use Rattle.write_room.specs.Sizes.{bodies_size}
use Rattle.write_room.proofs.Room.{nodes_suffice}
use Rattle.write_function_room.proofs.Room.{function_context, function_root}
use Rattle.call_honest.specs.Honest.{Called}
use Rattle.call_honest.proofs.HonestParts.{function_there, file_accepted}
use Rattle.disclose_expressions.specs.declared.Asked.{Asked}
use Rattle.disclose_expressions.specs.declared.Told.{Told}
use Rattle.disclose_statements.specs.Statements.{disclosed_by_in, StatementReady, StatementDisclosed}
use Rattle.disclose_statements.proofs.Bounds.{statement_few}
use Rattle.disclose_call.specs.Disclosed.{body_discloses, BodyReady}

-- A function discloses no more values than all bodies together have nodes.
body_few : (fields : List Field) (address : Name → ℕ) (arguments : List ℕ) (party : ℕ) (places : List ℕ) (gs : List Function) (f : ℕ) → f < length gs
    → length (disclosed_by fields address arguments party places (function_at gs f).body) ≤ bodies_size gs
unfolding bodies_size
body_few fields address arguments party places [] f h = absurd (omega arith)
body_few fields address arguments party places (g ∷ gs) zero h = omega (arith, statement_few fields address arguments party places g.body)
body_few fields address arguments party places (g ∷ gs) (suc f) h = omega (arith, body_few fields address arguments party places gs f (omega arith))

-- The body is worked out from its root, with the address of each name in a list.
module _ (file : List ℕ) (at caller : ℕ) (arguments numbers : List ℕ) (party : ℕ) (values : List ℕ) (ready : BodyReady file at caller arguments numbers party values) where
  pub addresses_room : (out : List ℕ) → length out ≡ 136 → AddressRoom file at out
  addresses_room out long =
      record {
        names = record { few_fields = ready.context.few_fields; few_parameters = ready.context.few_parameters; near_function = ready.context.near_function };
        room = long;
      }

  module _ (addresses : List ℕ) (put : Addressed file at caller arguments numbers addresses) where
    body_is : disclosed_by_in file arguments addresses numbers party (statement_in (nodes_in file) (root_at file at)) ≡ body_discloses file at caller arguments numbers party
    unfolding disclosed_by_in body_discloses
    body_is =
        ap (λ (address : Name → ℕ). disclosed_by (fields_in file) address arguments party numbers (statement_in (nodes_in file) (root_at file at))) put.addresses

    pub body_ready : (asked : Asked) (root : ℕ) → asked.caller ≡ caller → asked.party ≡ party → asked.at ≡ 0 → root ≡ root_at file at
        → StatementReady file arguments addresses numbers asked root values
    body_ready asked root called told start first =
        rw first
        (record {
          inside = ready.root;
          called = ap (λ (address : Name → ℕ). address me_name) put.addresses ∙ sym called;
          room = rw (told, start, body_is) (omega (arith, ready.room));
        })

    pub body_disclosed : (numbers' after : List ℕ) (root : ℕ) (r : Told) → root ≡ root_at file at
        → StatementDisclosed file arguments addresses numbers party (statement_in (nodes_in file) root) numbers' values after 0 r
        → Appended values after 0 (body_discloses file at caller arguments numbers party) r.at
    body_disclosed numbers' after root r first d = rw (← body_is, ← first) d.values

-- A call that is not refused.
module _ (l : Ledger) (function caller : ℕ) (arguments file : List ℕ) (at : ℕ) (called : Called l function caller arguments file at) (party : ℕ) where
  pub called_discloses : body_discloses file at caller arguments (map opened_number l.places) party ≡ disclosed_on l function caller arguments party
  unfolding body_discloses disclosed_on original_discloses contract_of fields_in
  called_discloses =
      let there = function_there l function caller arguments file at called in
      let opened = map opened_number l.places in
      rw (called.begins, called.same_file)
      (ap
      (λ (g : Function).
      disclosed_by (fields_in l.file) (address_in (record { fields = fields_in l.file; parameters = g.parameters }) caller arguments opened) arguments party opened
      g.body)
      (sym (function_in_law l.file function there)))

  called_few : length (disclosed_on l function caller arguments party) ≤ 512
  unfolding disclosed_on original_discloses
  called_few =
      let accepted = file_accepted l function caller arguments file at called in
      let there = function_there l function caller arguments file at called in
      let contract = contract_of (sections_of l.file) in
      let opened = map opened_number l.places in
      let counted = functions_count l.file in
      let context = function_context l.file accepted function there in
      omega (
        arith,
        body_few contract.fields (call_address contract opened function caller arguments) arguments party opened contract.functions function (omega arith),
        nodes_suffice l.file accepted,
        count_of_nodes l.file,
        context.few_nodes,
      )

  pub called_ready : (numbers values : List ℕ) → numbers ≡ map opened_number l.places → 512 ≤ length values
      → BodyReady file at caller arguments numbers party values
  called_ready numbers values opened room =
      let accepted = file_accepted l function caller arguments file at called in
      let there = function_there l function caller arguments file at called in
      record {
        accepted = rw called.same_file accepted;
        context = rw (called.begins, called.same_file) (function_context l.file accepted function there);
        root = rw (called.begins, called.same_file) (function_root l.file accepted function there);
        room = rw (opened, called_discloses) (omega (arith, called_few));
      }

  pub called_disclosed : (numbers before after : List ℕ) (end : ℕ) → numbers ≡ map opened_number l.places
      → Appended before after 0 (body_discloses file at caller arguments numbers party) end
      → Appended before after 0 (disclosed_on l function caller arguments party) end
  called_disclosed numbers before after end opened a = rw (← called_discloses, ← opened) a

pub disclosed_few : (l : Ledger) (function caller : ℕ) (arguments : List ℕ) (party : ℕ) → call_number l function caller arguments ≡ 0
    → length (disclosed_on l function caller arguments party) ≤ 512
disclosed_few l function caller arguments party clear =
    called_few l function caller arguments l.file (function_start l.file function) (record { clear = clear; same_file = refl; begins = refl }) party
