-- The numbers of a call's variables, put one after another.
use Rattle.std.specs.Prelude.{◌≡◌, ◌++◌, ◌+◌, ◌≤◌}
use Rattle.kit.specs.Names.{refl, ap, ap₂, sym, ◌∙◌, true, List, ℕ, arith, length, take, drop, replicate}
use Rattle.kit.specs.Names.{length-append, length-drop, length-replicate, length-take-le, take_at}
use Rattle.definitions.specs.Rewriting.{always}
use Rattle.memory_buffer.specs.Buffer.{stored}
use Rattle.memory_buffer.proofs.Storing.{stored_then}
use Rattle.file_accepted.specs.Context.{scope_in}
use Rattle.file_accepted.specs.Functions.{root_at}
use Rattle.rewrite_events.specs.Events.{variable_count}
use Rattle.rewrite_events.proofs.Statements.{statement_made}
use Rattle.honest_statements.specs.Honest.{honest_numbers, node_statement, Startable, Honest}
use Rattle.honest_statements.proofs.Contents.{honest_count}
use Rattle.write_function_room.specs.Functions.{events_in, private_in}
use Rattle.honest_variables.specs.Slots.{slots_of, SlotsRoom, SlotsPut}

replicated : (n : ℕ) → length {A = ℕ} (replicate n 0) ≡ n
replicated n = length-replicate n 0

-- Zeros at the front.
pub zeros_put : (slots part : List ℕ) (n : ℕ) → part ≡ replicate n 0 → part ++ drop n slots ≡ stored slots 0 (replicate n 0)
unfolding stored
zeros_put slots part n e =
    let l = replicated n in
    let long : 0 + length {A = ℕ} (replicate n 0) ≡ n = omega arith in
    rw (long, e)

pub zeros_long : (slots part : List ℕ) (n : ℕ) → n ≤ length slots → part ≡ replicate n 0 → length (part ++ drop n slots) ≡ length slots
zeros_long slots part n fits e =
    let long : length part ≡ n = ap length e ∙ replicated n in
    omega (arith, length-append part (drop n slots), length-drop n slots)

take_stored : (held values : List ℕ) → length values ≤ length held → take (length values) (stored held 0 values) ≡ values
unfolding stored
take_stored held values fits = take_at values (drop (0 + length values) held) (length values) refl

module _ (file : List ℕ) (at : ℕ) (arguments : List ℕ) (caller : ℕ) (numbers : List ℕ) where
  abbrev private : ℕ
  private = private_in file at

  abbrev body : List ℕ
  body = honest_numbers file at arguments caller (node_statement file (root_at file at)) true numbers (private_in file at)

  body_count_law : length body ≡ variable_count (events_in file at)
  body_count_law =
      honest_count file at arguments caller (node_statement file (root_at file at)) true numbers always (private_in file at)
      ∙ ap length (sym (statement_made (scope_in file at) (node_statement file (root_at file at)) always (private_in file at)).variables)

  pub slots_count : length (slots_of file at arguments caller numbers) ≡ private_in file at + variable_count (events_in file at)
  unfolding slots_of
  slots_count = length-append (replicate private 0) body ∙ ap₂ (λ (a b : ℕ). a + b) (replicated private) body_count_law

  module _ (slots₀ : List ℕ) (ready : SlotsRoom file at slots₀) where
    pub zeros_here : (part : List ℕ) (counted : ℕ) → counted ≡ private_in file at → part ≡ replicate (length (take counted slots₀)) 0 → part ≡ replicate counted 0
    zeros_here part counted e same =
        same ∙ ap (λ (k : ℕ). replicate {A = ℕ} k 0) (length-take-le counted slots₀ (omega (arith, ready.room)))

    pub body_startable : (slots : List ℕ) (counted root : ℕ) → counted ≡ private_in file at → root ≡ root_at file at → length slots ≡ length slots₀
        → Startable file root slots counted (honest_numbers file at arguments caller (node_statement file root) true numbers)
    body_startable slots counted root e f size =
        rw (e, f)
        record {
          inside = ready.root;
          space = record { fits = omega (arith, body_count_law, ready.room) };
        }

    pub slots_done : (slots after numbers' : List ℕ) (counted root r : ℕ) → counted ≡ private_in file at → root ≡ root_at file at
        → slots ≡ stored slots₀ 0 (replicate counted 0) → length after ≡ length slots₀
        → Honest file at arguments caller true (node_statement file root) numbers numbers' slots after counted r → SlotsPut file at arguments caller numbers slots₀ after r
    unfolding slots_of
    slots_done slots after numbers' counted root r e f filled size put =
        let whole = slots_count in
        let n = replicated private in
        let room = ready.room in
        let b = body_count_law in
        let place : private ≡ 0 + length {A = ℕ} (replicate private 0) = omega arith in
        let next : r ≡ length (replicate private 0 ++ body) =
        put.slots.end ∙ ap₂ (λ (c q : ℕ). c + length (honest_numbers file at arguments caller (node_statement file q) true numbers c)) e f ∙ sym (slots_count ∙ ap (λ (k : ℕ). private + k) (sym body_count_law)) in
        let held : after ≡ stored slots₀ 0 (replicate private 0 ++ body) =
        put.slots.same
        ∙ ap₂ (λ (c q : ℕ). stored slots c (honest_numbers file at arguments caller (node_statement file q) true numbers c)) e f
        ∙ ap₂ (λ (l : List ℕ) (k : ℕ). stored l k body) (filled ∙ ap (λ (k : ℕ). stored slots₀ 0 (replicate k 0)) e) place
        ∙ stored_then slots₀ 0 (replicate private 0) body (omega arith) in
        record {
          slots = ap₂ (λ (k : ℕ) (l : List ℕ). take k l) next held ∙ take_stored slots₀ (replicate private 0 ++ body) (omega arith);
          count = next ∙ slots_count;
          size = size;
        }
