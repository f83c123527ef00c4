-- The steps that read private parameters, one parameter after another.
use Rattle.std.specs.Prelude.{◌≡◌, ◌∷◌, ◌+◌, ◌*◌, ◌-◌, ◌<◌, ◌≤◌}
use Rattle.kit.specs.Names.{refl, ap, ◌∙◌, Bool, true, false, not, cond, List, [], map, ℕ, zero, suc}
use Rattle.kit.specs.Names.{arith, add-one, eqb, length, eq-eqb, ne_eqb}
use Rattle.definitions.specs.ContractFile.{byte_at, parameter_records, parameter_of, node}
use Rattle.definitions.specs.Reading.{parameters_read}
use Rattle.definitions.specs.Rewriting.{BodyExpression, Step, private_parameters, openings, leaf, setting, node_bytes, body_tree}
use Rattle.memory_buffer.specs.Buffer.{stored}
use Rattle.write_nodes.specs.Numbering.{Room, Numbered}
use Rattle.write_nodes.proofs.TreeNodes.{room_any, numbered_leaf}
use Rattle.write_nodes.proofs.Parents.{room_setting, numbered_setting}
use Rattle.write_steps.specs.declared.Steps.{Steps}
use Rattle.write_steps.specs.Steps.{step_tree, StepsRoom, StepsPut}
use Rattle.write_steps.proofs.Turns.{room_same, put_same, put_none, room_step, room_root, room_steps, put_first}
use Rattle.write_bodies.specs.Parts.{opening_steps}

abbrev opening : ℕ → ℕ → Step
opening k i = record { variable = i; value = BodyExpression.parameter k }

module _ (file : List ℕ) (place : ℕ) where
  none : (left k i : ℕ) → left ≡ 0 → opening_steps file place left k i ≡ []
  unfolding parameters_read private_parameters openings
  none zero k i h = refl
  none (suc left) k i h = absurd (omega arith)

  next : (left k i : ℕ) → opening_steps file place (suc left) k i
      ≡ cond (not (eqb (byte_at file (place + 1)) 0)) (opening k i ∷ opening_steps file (place + 2) left (suc k) (suc i)) (opening_steps file (place + 2) left (suc k) i)
  unfolding parameters_read private_parameters openings parameter_of
  next left k i = go (not (eqb (byte_at file (place + 1)) 0))
    where
      go : (b : Bool) → (openings (cond b (k ∷ private_parameters (suc k) (map parameter_of (parameter_records left file (place + 2)))) (private_parameters (suc k) (map parameter_of (parameter_records left file (place + 2))))) i).steps
          ≡ cond b (opening k i ∷ opening_steps file (place + 2) left (suc k) (suc i)) (opening_steps file (place + 2) left (suc k) i)
      go true = refl
      go false = refl

  module _ (left k i : ℕ) (some : left ≡ 0 → ⊥) (owner : ℕ) (read : owner ≡ byte_at file (place + 1)) where
    whole : opening_steps file place left k i
        ≡ cond (not (eqb owner 0)) (opening k i ∷ opening_steps file (place + 2) (left - 1) (k + 1) (i + 1)) (opening_steps file (place + 2) (left - 1) (k + 1) i)
    whole =
        let e : left ≡ suc (left - 1) = omega arith in
        ap (λ (n : ℕ). opening_steps file place n k i) e ∙ next (left - 1) k i ∙ rw (add-one k, add-one i, read)

    pub openings_public : owner ≡ 0 → opening_steps file place left k i ≡ opening_steps file (place + 2) (left - 1) (k + 1) i
    openings_public h = whole ∙ rw (eq-eqb owner 0 h)

    pub openings_private : (owner ≡ 0 → ⊥) → opening_steps file place left k i ≡ opening k i ∷ opening_steps file (place + 2) (left - 1) (k + 1) (i + 1)
    openings_private h = whole ∙ rw (ne_eqb owner 0 h)

module _ (file : List ℕ) (place left k i : ℕ) (roots out : List ℕ) (at base : ℕ) where
  pub nothing_put : left ≡ 0 → StepsPut out out roots roots at base i (opening_steps file place left k i) (record { count = 0; nodes = 0 })
  nothing_put h = put_same out roots at base i out roots _ _ _ (none file place left k i h) (put_none out roots at base i)

  module _ (some : left ≡ 0 → ⊥) (owner : ℕ) (read : owner ≡ byte_at file (place + 1)) (room : StepsRoom out roots at base i (opening_steps file place left k i)) where
    module _ (public : owner ≡ 0) where
      pub public_room : StepsRoom out roots at base i (opening_steps file (place + 2) (left - 1) (k + 1) i)
      public_room = room_same out roots at base i _ _ (openings_public file place left k i some owner read public) room

      pub public_put : (after roots_after : List ℕ) (r : Steps) → StepsPut out after roots roots_after at base i (opening_steps file (place + 2) (left - 1) (k + 1) i) r
          → StepsPut out after roots roots_after at base i (opening_steps file place left k i) r
      public_put after roots_after r w = put_same out roots at base i after roots_after _ _ r (openings_public file place left k i some owner read public) w

    module _ (private : owner ≡ 0 → ⊥) where
      abbrev later : List Step
      later = opening_steps file (place + 2) (left - 1) (k + 1) (i + 1)

      room_own : StepsRoom out roots at base i (opening k i ∷ later)
      room_own = room_same out roots at base i _ _ (openings_private file place left k i some owner read private) room

      room_opening : Room out at base (setting i (leaf 5 k 0 0))
      unfolding body_tree
      room_opening = room_step out roots at base i (opening k i) later room_own

      pub parameter_room : at + 8 ≤ length out
      parameter_room = room_any out at base _ room_opening

      pub root_room : i < length roots
      root_room = room_root out roots at base i (opening k i) later room_own

      module _ (first : List ℕ) (h : first ≡ stored out at (node_bytes (node 5 k 0 0 0))) where
        one : Numbered out first at base (leaf 5 k 0 0) 1
        one = numbered_leaf out at base first 5 k 0 0 h

        pub opening_room : (1 ≤ 1) × ((base + 1 ≤ 65535) × (at + 8 * 1 + 8 ≤ length first))
        opening_room = room_setting out at base i (leaf 5 k 0 0) room_opening first 1 one

        module _ (second : List ℕ) (m : second ≡ stored first (at + 8 * 1) (node_bytes (node 22 0 i (base + 1 - 1) 0))) (roots_now : List ℕ) (noted : roots_now ≡ stored roots i ((base + 1) ∷ [])) where
          two : Numbered out second at base (step_tree (opening k i)) 2
          unfolding body_tree
          two = numbered_setting out at base i (leaf 5 k 0 0) room_opening first 1 one second m

          noted_root : roots_now ≡ stored roots i ((base + 2 - 1) ∷ [])
          noted_root = let e : base + 1 ≡ base + 2 - 1 = omega arith in noted ∙ ap (λ (n : ℕ). stored roots i (n ∷ [])) e

          pub openings_room : StepsRoom second roots_now (at + 16) (base + 2) (i + 1) later
          openings_room = room_steps out roots at base i (opening k i) later room_own second 2 two roots_now noted_root

          pub openings_put : (after roots_after : List ℕ) (r : Steps) → StepsPut second after roots_now roots_after (at + 16) (base + 2) (i + 1) later r
              → StepsPut out after roots roots_after at base i (opening_steps file place left k i) (record { count = r.count + 1; nodes = 2 + r.nodes })
          openings_put after roots_after r w =
              put_same out roots at base i after roots_after _ _ _ (openings_private file place left k i some owner read private)
              (put_first out roots at base i (opening k i) later room_own second 2 two roots_now noted_root after roots_after r w)
